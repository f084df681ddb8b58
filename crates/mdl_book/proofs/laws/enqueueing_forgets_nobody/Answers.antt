-- What more waits blocks more.
use Rattle.mdl_book.proofs.MemberLemmas.{none-enqueueing}
use Rattle.mdl_book.proofs.laws.enqueueing_forgets_nobody.Goals as goal

pub returns : goal.returns
returns c = λ fast unsettled lists ticket refused none. none-enqueueing fast unsettled lists none ticket refused
