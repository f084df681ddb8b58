-- Row by row.
use Rattle.mdl_lock_rows.proofs.LawLemmas.{all-counted, all-listed}
use Rattle.mdl_lock_rows.proofs.laws.no_row_is_lost.Goals as goal

pub returns : goal.returns
returns c = (λ rows. all-listed rows, λ rows. all-counted rows)
