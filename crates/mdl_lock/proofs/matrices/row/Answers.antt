-- What passes the filter is the row.
use Rattle.std.proofs.Common.{rules, tests}
use Rattle.std.specs.List.{list_any}
use Rattle.std.proofs.lemmas.Iterator.{YieldsList-from_slice, items_from_collect}
use Rattle.std.proofs.lemmas.Iterator.Consumers.{YieldsList-at, YieldsList-from_copied, YieldsList-from_filter}
use Rattle.mdl_key.specs.Modes.{all_modes, same_mode}
use Rattle.mdl_lock.specs.MatrixText.{row_of}
use Rattle.mdl_lock.proofs.MatrixRows.{row_in_order}
use Rattle.mdl_lock.proofs.matrices.row.Goals as goal

pub returns : goal.returns
returns c =
    rw (row_in_order c.args.matrix c.args.kind c.args.ask) at
    (items_from_collect c.collect.result c.collect.ensures.ran
    (YieldsList-from_filter _ (λ other. list_any (same_mode other) (row_of c.args.matrix c.args.kind c.args.ask))
    (YieldsList-at c.filter.ensures.source (YieldsList-from_copied (YieldsList-at c.copied.ensures.source (YieldsList-from_slice all_modes c.iter.ensures.rest))))
    c.filter.ensures.closure (λ x b q k. search (rules, tests))))
