-- A text that is cut is within its room.
use Rattle.mdl_view_text.proofs.LayoutLemmas.{cut_fits}
use Rattle.mdl_view_text.proofs.layout.lines_fit.Goals as goal

pub returns : goal.returns
returns c = cut_fits
