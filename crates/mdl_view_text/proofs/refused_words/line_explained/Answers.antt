-- The line as a whole is refused.
use Rattle.mdl_view_text.proofs.refused_words.line_explained.Goals as goal

pub returns-in-NotAscii : goal.returns-in-NotAscii
returns-in-NotAscii c = rw c.in-NotAscii.is c.refused_line-in-NotAscii.ensures
