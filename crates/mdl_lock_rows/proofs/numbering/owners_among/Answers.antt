-- One more row says something of its thread.
use Rattle.mdl_lock_rows.proofs.TableLemmas.{owners-more}
use Rattle.mdl_lock_rows.proofs.numbering.owners_among.Goals as goal

pub loop-row-preserved : goal.loop-row-preserved
loop-row-preserved c =
    owners-more c.args.rows.now c.loop-row.row-index c.row-item.result c.loop-row-test.true c.row-item.is c.args.threads.now.keys
    c.loop-row.owners.items c.describe.new.owners.items c.as_slice.ensures.unique c.loop-row.invariant c.in_ok-describe.ensures
