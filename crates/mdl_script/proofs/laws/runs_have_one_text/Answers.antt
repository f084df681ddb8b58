-- Books of different keys have one order.
use Rattle.mdl_script.proofs.OrderedBooks.{one_text}
use Rattle.mdl_script.proofs.laws.runs_have_one_text.Goals as goal

pub returns : goal.returns
returns c = one_text
