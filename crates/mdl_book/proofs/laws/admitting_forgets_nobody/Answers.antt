-- Who waited behind the ticket clashes with it.
use Rattle.mdl_book.proofs.MemberLemmas.{none-admitting}
use Rattle.mdl_book.proofs.laws.admitting_forgets_nobody.Goals as goal

pub returns : goal.returns
returns c = λ fast unsettled lists session number none. none-admitting fast unsettled lists none session number
