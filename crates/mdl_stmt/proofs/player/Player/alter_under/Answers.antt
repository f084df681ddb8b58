-- The check, and then the algorithm.
use Rattle.std.proofs.Common.{sym, subst}
use Rattle.mdl_syntax.specs.declared.statement.Algorithm.{Algorithm}
use Rattle.mdl_stmt.specs.Gets.{IsPlayed}
use Rattle.mdl_rows.specs.Statements.{alter_by, alter_under}
use Rattle.mdl_stmt.proofs.RunLemmas.{comes-played}
use Rattle.mdl_stmt.proofs.player.Player.alter_under.Goals as goal

pub returns-in-Err-clause-run : goal.returns-in-Err-clause-run
returns-in-Err-clause-run g c =
    let alteration = c.args.alteration.now in
    (rw c.in-Err.is at c.check_change.ensures.run) (λ _. alter_by alteration.algorithm alteration c.args.ticket)

pub returns-in-Copy-clause-run : goal.returns-in-Copy-clause-run
returns-in-Copy-clause-run g c =
    let alteration = c.args.alteration.now in
    let rest = alter_by alteration.algorithm alteration c.args.ticket in
    comes-played c.alter_by_copy.new.space c.alter_by_copy.new.self (alter_under alteration c.args.ticket) rest c.alter_by_copy.result
    ((rw c.in_default.is at c.check_change.ensures.run) (λ _. rest))
    (subst (λ (how : Algorithm). IsPlayed g.S.LockSpace (alter_by how alteration c.args.ticket) c.check_change.new.space c.check_change.new.self c.alter_by_copy.result c.alter_by_copy.new.space c.alter_by_copy.new.self)
    (sym c.in-Copy.is) c.alter_by_copy.ensures.run)

pub returns-in-Inplace-clause-run : goal.returns-in-Inplace-clause-run
returns-in-Inplace-clause-run g c =
    let alteration = c.args.alteration.now in
    let rest = alter_by alteration.algorithm alteration c.args.ticket in
    comes-played c.alter_in_place.new.space c.alter_in_place.new.self (alter_under alteration c.args.ticket) rest c.alter_in_place.result
    ((rw c.in_default.is at c.check_change.ensures.run) (λ _. rest))
    (subst (λ (how : Algorithm). IsPlayed g.S.LockSpace (alter_by how alteration c.args.ticket) c.check_change.new.space c.check_change.new.self c.alter_in_place.result c.alter_in_place.new.space c.alter_in_place.new.self)
    (sym c.in-Inplace.is) c.alter_in_place.ensures.run)
