-- Form by form.
use Rattle.mdl_lines.specs.Lines.{lines_of}
use Rattle.mdl_syntax.proofs.LawLemmas.{lines_say-limited}
use Rattle.mdl_syntax.proofs.laws.statements_are_within_limits.Goals as goal

pub returns : goal.returns
returns c text = lines_say-limited 1 (lines_of text)
