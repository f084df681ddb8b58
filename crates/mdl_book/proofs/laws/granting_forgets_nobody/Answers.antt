-- What more is granted blocks more.
use Rattle.mdl_book.proofs.MemberLemmas.{none-granting, none-fast}
use Rattle.mdl_book.proofs.laws.granting_forgets_nobody.Goals as goal

pub returns : goal.returns
returns c = λ fast unsettled lists ticket none. (none-granting fast unsettled lists none ticket, none-fast fast unsettled lists none ticket)
