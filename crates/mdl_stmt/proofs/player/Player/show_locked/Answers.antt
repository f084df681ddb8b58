-- One table after the other.
use Rattle.std.proofs.Common.{drop}
use Rattle.mdl_stmt.proofs.AttendanceLemmas.{goes_on-then}
use Rattle.mdl_stmt.proofs.ListLemmas.{item-at}
use Rattle.mdl_stmt.proofs.RunLemmas.{comes-then}
use Rattle.mdl_stmt.proofs.UnlockLemmas.{held-missed, held-shown}
use Rattle.mdl_stmt.proofs.player.Player.show_locked.Goals as goal

pub returns-in-Err-clause-run : goal.returns-in-Err-clause-run
returns-in-Err-clause-run g c =
    let same = item-at c.args.tables.now c.loop-table.table-index c.table-item.result _ c.loop-table-test.true c.table-item.is in
    comes-then c.loop-table.invariant.run
    (held-missed g.S.LockSpace c.loop-table.shown c.table-item.result (drop c.loop-table.table-index c.args.tables.now) _ same c.loop-table.space c.show_held.new.space c.loop-table.self c.show_held.new.self c.in-Err.ending (rw c.in-Err.is at c.show_held.ensures.run))

pub loop-table-preserved : goal.loop-table-preserved
loop-table-preserved g c =
    let same = item-at c.args.tables.now c.loop-table.table-index c.table-item.result _ c.loop-table-test.true c.table-item.is in
    let known = c.loop-table.invariant in
    record {
      run = comes-then known.run
          (held-shown g.S.LockSpace c.loop-table.shown c.table-item.result (drop c.loop-table.table-index c.args.tables.now) _ same c.loop-table.space c.show_held.new.space c.loop-table.self c.show_held.new.self c.in-Ok.more (rw c.in-Ok.is at c.show_held.ensures.run));
      goes_on = goes_on-then known.goes_on c.show_held.ensures.goes_on;
      idle = c.show_held.ensures.idle;
    }
