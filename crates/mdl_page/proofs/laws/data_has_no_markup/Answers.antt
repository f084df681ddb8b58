-- Piece by piece.
use Rattle.mdl_page.proofs.MarkupLemmas.{data_has_no_markup}
use Rattle.mdl_page.proofs.laws.data_has_no_markup.Goals as goal

pub returns : goal.returns
returns c = data_has_no_markup
