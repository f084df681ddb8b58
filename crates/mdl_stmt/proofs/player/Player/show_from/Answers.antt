-- One table after the other.
use Rattle.std.proofs.Common.{drop}
use Rattle.mdl_stmt.proofs.AttendanceLemmas.{goes_on-then}
use Rattle.mdl_stmt.proofs.ListLemmas.{item-at, show-ended, show-had, show-missed, show-waits}
use Rattle.mdl_stmt.proofs.RunLemmas.{comes-then, comes-waits}
use Rattle.mdl_stmt.proofs.player.Player.show_from.Goals as goal

pub returns-in-Waits-clause-run : goal.returns-in-Waits-clause-run
returns-in-Waits-clause-run g c =
    let same = item-at c.args.tables.now c.loop-at.at c.index-tables-at.result _ c.loop-at-test.true c.index-tables-at.is in
    comes-waits c.loop-at.invariant.run
    (show-waits g.S.LockSpace c.loop-at.shown c.index-tables-at.result (drop c.loop-at.at c.args.tables.now) _ same c.loop-at.space c.get.new.space c.loop-at.self c.get.new.self c.in-Waits.key (rw c.in-Waits.is at c.get.ensures.run))

pub returns-in-Ends-clause-run : goal.returns-in-Ends-clause-run
returns-in-Ends-clause-run g c =
    let same = item-at c.args.tables.now c.loop-at.at c.index-tables-at.result _ c.loop-at-test.true c.index-tables-at.is in
    comes-then c.loop-at.invariant.run
    (show-ended g.S.LockSpace c.loop-at.shown c.index-tables-at.result (drop c.loop-at.at c.args.tables.now) _ same c.loop-at.space c.get.new.space c.loop-at.self c.get.new.self c.in-Ends.ending (rw c.in-Ends.is at c.get.ensures.run))

pub returns-in-Err-clause-run : goal.returns-in-Err-clause-run
returns-in-Err-clause-run g c =
    let same = item-at c.args.tables.now c.loop-at.at c.index-tables-at.result _ c.loop-at-test.true c.index-tables-at.is in
    comes-then c.loop-at.invariant.run
    (show-missed g.S.LockSpace c.loop-at.shown c.index-tables-at.result (drop c.loop-at.at c.args.tables.now) _ same c.loop-at.space c.get.new.space c.show.new.space c.loop-at.self c.get.new.self c.show.new.self c.in-Had.ticket c.in-Err.ending
    (rw c.in-Had.is at c.get.ensures.run) (rw c.in-Err.is at c.show.ensures.run))

pub loop-at-preserved : goal.loop-at-preserved
loop-at-preserved g c =
    let same = item-at c.args.tables.now c.loop-at.at c.index-tables-at.result _ c.loop-at-test.true c.index-tables-at.is in
    let known = c.loop-at.invariant in
    record {
      run = comes-then known.run
          (show-had g.S.LockSpace c.loop-at.shown c.index-tables-at.result (drop c.loop-at.at c.args.tables.now) _ same c.loop-at.space c.get.new.space c.show.new.space c.loop-at.self c.get.new.self c.show.new.self c.in-Had.ticket c.in-Ok.more
          (rw c.in-Had.is at c.get.ensures.run) (rw c.in-Ok.is at c.show.ensures.run));
      goes_on = goes_on-then known.goes_on (goes_on-then c.get.ensures.goes_on c.show.ensures.goes_on);
      idle = c.show.ensures.idle;
    }
