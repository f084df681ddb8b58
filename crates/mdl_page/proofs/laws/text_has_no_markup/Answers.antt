-- Byte by byte.
use Rattle.mdl_page.proofs.MarkupLemmas.{text_has_no_markup}
use Rattle.mdl_page.proofs.laws.text_has_no_markup.Goals as goal

pub returns : goal.returns
returns c = text_has_no_markup
