-- The text says what was found.
use Rattle.mdl_view_program.proofs.answers.answer_why.Goals as goal

pub returns : goal.returns
returns c = (c.in_ok-found.found, c.in_ok-found.ensures, c.in_ok-text.ensures)
