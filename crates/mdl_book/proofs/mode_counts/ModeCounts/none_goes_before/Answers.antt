-- The modes that are present have none of the row.
use Rattle.mdl_key.specs.Matrices.{waits_behind}
use Rattle.mdl_book.proofs.MarkLemmas.{none_marked, waiting_row-tells}
use Rattle.mdl_book.proofs.mode_counts.ModeCounts.none_goes_before.Goals as goal

pub returns : goal.returns
returns c = rw (c.waiting_row.ensures) (none_marked c.args.self.now.present _ c.args.self.now.counts (waits_behind c.args.kind c.args.mode) c.requires (waiting_row-tells c.args.kind c.args.mode))
