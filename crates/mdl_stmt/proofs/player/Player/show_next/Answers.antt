-- The table is shown, and then the others.
use Rattle.std.proofs.Common.{drop, ◌+◌}
use Rattle.mdl_stmt.specs.Stages.{show_next}
use Rattle.mdl_rows.specs.Statements.{lock_to_read, show_all}
use Rattle.mdl_stmt.proofs.ListLemmas.{item-at, next-missed, next-shown}
use Rattle.mdl_stmt.proofs.RunLemmas.{comes-played}
use Rattle.mdl_stmt.proofs.player.Player.show_next.Goals as goal

pub returns-in-Ok-clause-run : goal.returns-in-Ok-clause-run
returns-in-Ok-clause-run g c =
    let same = item-at c.args.tables.now c.args.at c.index-tables-at.result _ c.if-at-tables.false c.index-tables-at.is in
    comes-played c.show_from.new.space c.show_from.new.self (show_next c.args.shown (drop c.args.at c.args.tables.now) c.args.ticket) (show_all lock_to_read c.in-Ok.more (drop (c.args.at + 1) c.args.tables.now)) c.show_from.result
    (next-shown g.S.LockSpace c.args.shown c.index-tables-at.result (drop c.args.at c.args.tables.now) _ same c.args.space.now c.show.new.space c.args.self.now c.show.new.self c.args.ticket c.in-Ok.more (rw c.in-Ok.is at c.show.ensures.run))
    c.show_from.ensures.run

pub returns-in-Err-clause-run : goal.returns-in-Err-clause-run
returns-in-Err-clause-run g c =
    let same = item-at c.args.tables.now c.args.at c.index-tables-at.result _ c.if-at-tables.false c.index-tables-at.is in
    next-missed g.S.LockSpace c.args.shown c.index-tables-at.result (drop c.args.at c.args.tables.now) _ same c.args.space.now c.show.new.space c.args.self.now c.show.new.self c.args.ticket c.in-Err.ending (rw c.in-Err.is at c.show.ensures.run)
