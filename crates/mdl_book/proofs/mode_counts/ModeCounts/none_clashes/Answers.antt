-- The modes that are present have none of the row.
use Rattle.mdl_key.specs.Matrices.{clashes}
use Rattle.mdl_book.proofs.MarkLemmas.{none_marked, granted_row-tells}
use Rattle.mdl_book.proofs.mode_counts.ModeCounts.none_clashes.Goals as goal

pub returns : goal.returns
returns c = rw (c.granted_row.ensures) (none_marked c.args.self.now.present _ c.args.self.now.counts (clashes c.args.kind c.args.mode) c.requires (granted_row-tells c.args.kind c.args.mode))
