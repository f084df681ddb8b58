-- Each check, and then the changes.
use Rattle.std.proofs.Common.{ℕ, List}
use Rattle.mdl_defs.specs.declared.change.Change.TheVariants as change
use Rattle.mdl_rows.specs.declared.reply.Reply.{Reply}
use Rattle.mdl_rows.specs.declared.reply.Reply.TheVariants as reply
use Rattle.mdl_rows.specs.Rows.{Row, Give, for_each, redefine, ◌>>◌}
use Rattle.mdl_rows.specs.Statements.{can_change}
use Rattle.mdl_stmt.proofs.RunLemmas.{comes-then}
use Rattle.mdl_stmt.proofs.player.Player.drop_with.Goals as goal

-- the schema's change, the tables' before it, and what comes before them
abbrev last : ℕ → Row Reply
last schema = redefine schema change.Drop >> Give reply.Ok

abbrev changes : ℕ → List ℕ → Row Reply
changes schema tables = for_each (λ ticket. redefine ticket change.Drop) tables >> last schema

pub returns-in-Err-clause-run : goal.returns-in-Err-clause-run
returns-in-Err-clause-run g c = (rw c.in-Err.is at c.all_can_change.ensures.run) (λ _. can_change c.args.schema >> changes c.args.schema c.args.tables.now)

pub returns-in-Err-can_change-clause-run : goal.returns-in-Err-can_change-clause-run
returns-in-Err-can_change-clause-run g c =
    comes-then ((rw c.in_default.is at c.all_can_change.ensures.run) (λ _. can_change c.args.schema >> changes c.args.schema c.args.tables.now))
    ((rw c.in-Err-can_change.is at c.can_change.ensures.run) (λ _. changes c.args.schema c.args.tables.now))

pub returns-in-Err-drop_all-clause-run : goal.returns-in-Err-drop_all-clause-run
returns-in-Err-drop_all-clause-run g c =
    comes-then ((rw c.in_default.is at c.all_can_change.ensures.run) (λ _. can_change c.args.schema >> changes c.args.schema c.args.tables.now))
    (comes-then ((rw c.in_default-can_change.is at c.can_change.ensures.run) (λ _. changes c.args.schema c.args.tables.now))
    ((rw c.in-Err-drop_all.is at c.drop_all.ensures.run) (λ _. last c.args.schema)))

pub returns-in-Ok-clause-run : goal.returns-in-Ok-clause-run
returns-in-Ok-clause-run g c =
    comes-then ((rw c.in_default.is at c.all_can_change.ensures.run) (λ _. can_change c.args.schema >> changes c.args.schema c.args.tables.now))
    (comes-then ((rw c.in_default-can_change.is at c.can_change.ensures.run) (λ _. changes c.args.schema c.args.tables.now))
    (comes-then ((rw c.in_default-drop_all.is at c.drop_all.ensures.run) (λ _. last c.args.schema))
    ((rw c.in-Ok.is at c.redefine.ensures.run) (λ _. Give reply.Ok))))

pub returns-in-Err-redefine-clause-run : goal.returns-in-Err-redefine-clause-run
returns-in-Err-redefine-clause-run g c =
    comes-then ((rw c.in_default.is at c.all_can_change.ensures.run) (λ _. can_change c.args.schema >> changes c.args.schema c.args.tables.now))
    (comes-then ((rw c.in_default-can_change.is at c.can_change.ensures.run) (λ _. changes c.args.schema c.args.tables.now))
    (comes-then ((rw c.in_default-drop_all.is at c.drop_all.ensures.run) (λ _. last c.args.schema))
    ((rw c.in-Err-redefine.is at c.redefine.ensures.run) (λ _. Give reply.Ok))))
