-- Line by line.
use Rattle.mdl_lines.specs.Lines.{lines_of}
use Rattle.mdl_syntax.proofs.LawLemmas.{lines_say-rise}
use Rattle.mdl_syntax.proofs.laws.line_numbers_rise.Goals as goal

pub returns : goal.returns
returns c text = lines_say-rise 1 (lines_of text)
