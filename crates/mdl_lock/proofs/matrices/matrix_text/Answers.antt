use Rattle.mdl_lock.proofs.MatrixRows.{written_in_turn}
use Rattle.mdl_lock.proofs.matrices.matrix_text.Goals as goal

pub returns : goal.returns
returns c = written_in_turn _ _ _ _ _ _ _ _ _ c.new-text.ensures.bytes c.in_ok-push_lines.ensures c.in_ok-push_lines-2.ensures c.in_ok-push_lines-3.ensures c.in_ok-push_lines-4.ensures
