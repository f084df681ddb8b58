-- One more row adds its ticket.
use Rattle.mdl_lock_rows.proofs.TableLemmas.{locks-more}
use Rattle.mdl_lock_rows.proofs.locks.locks_among.Goals as goal

pub loop-row-preserved : goal.loop-row-preserved
loop-row-preserved c =
    locks-more c.args.threads.now.all.keys c.args.threads.now.changers.keys c.args.rows.now c.loop-row.row-index c.row-item.result c.loop-row-test.true c.row-item.is c.args.keys.now.keys
    c.loop-row.locks.items c.add_row.new.locks.items c.as_slice.ensures.unique c.loop-row.invariant c.in_ok-add_row.ensures
