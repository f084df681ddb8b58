-- Each row is put behind those that are less.
use Rattle.mdl_picture.proofs.RowLaws.{rows_rise}
use Rattle.mdl_picture.proofs.laws.rows_rise.Goals as goal

pub returns : goal.returns
returns c = rows_rise
