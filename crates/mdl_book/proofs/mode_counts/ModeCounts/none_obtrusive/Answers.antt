-- The modes that are present have none of the row.
use Rattle.mdl_key.specs.Classes.{is_obtrusive}
use Rattle.mdl_book.proofs.MarkLemmas.{none_marked, obtrusive_row-tells}
use Rattle.mdl_book.proofs.mode_counts.ModeCounts.none_obtrusive.Goals as goal

pub returns : goal.returns
returns c = rw (c.obtrusive_row.ensures) (none_marked c.args.self.now.present _ c.args.self.now.counts (is_obtrusive c.args.kind) c.requires (obtrusive_row-tells c.args.kind))
