-- Each turn is that of the session that the definition names.
use Rattle.std.proofs.Common.{◌≡◌, ◌-◌, ◌+◌, ◌∙◌, zero, suc, sym, ap, arith}
use Rattle.mdl_script.specs.Plays.{world_of}
use Rattle.mdl_script.specs.Worlds.{continuing_settled, most_turns}
use Rattle.mdl_script.proofs.SettleLemmas.{left-end, no-turn, one-turn, settling-over, told-end}
use Rattle.mdl_script.proofs.play.Play.settle.Goals as goal

pub returns-in_default-clause-told : goal.returns-in_default-clause-told
returns-in_default-clause-told c =
    let said = c.in_ok-_who.ensures in
    (no-turn (most_turns - c.loop-turn._turn) (world_of c.loop-turn.self) (world_of c.settle_one.new.self) c.loop-turn.told.items c.settle_one.new.told.items _ _
    (sym said.found ∙ c.in_default.is) c.loop-turn.invariant.told c.loop-turn.invariant.left said.told said.left).0

pub returns-in_default-clause-left : goal.returns-in_default-clause-left
returns-in_default-clause-left c =
    let said = c.in_ok-_who.ensures in
    (no-turn (most_turns - c.loop-turn._turn) (world_of c.loop-turn.self) (world_of c.settle_one.new.self) c.loop-turn.told.items c.settle_one.new.told.items _ _
    (sym said.found ∙ c.in_default.is) c.loop-turn.invariant.told c.loop-turn.invariant.left said.told said.left).1

pub loop-turn-preserved : goal.loop-turn-preserved
loop-turn-preserved c =
    let said = c.in_ok-_who.ensures in
    let n = most_turns - c.loop-turn._turn in
    let m = most_turns - (c.loop-turn._turn + 1) in
    let fewer : n ≡ suc m = omega arith in
    let turn = one-turn n m (world_of c.loop-turn.self) (world_of c.settle_one.new.self) c.in-Some._who c.loop-turn.told.items c.settle_one.new.told.items _ _ fewer
    (sym said.found ∙ c.in-Some.is) c.loop-turn.invariant.told c.loop-turn.invariant.left said.told said.left in
    record { told = turn.0; left = turn.1; manned = said.manned }

pub returns-clause-told : goal.returns-clause-told
returns-clause-told c =
    let world = world_of c.loop-turn.self in
    let none : most_turns - c.loop-turn._turn ≡ zero = omega arith in
    told-end (continuing_settled (most_turns - c.loop-turn._turn) world) world _ _ (ap (λ n. continuing_settled n world) none ∙ settling-over world) c.loop-turn.invariant.told

pub returns-clause-left : goal.returns-clause-left
returns-clause-left c =
    let world = world_of c.loop-turn.self in
    let none : most_turns - c.loop-turn._turn ≡ zero = omega arith in
    left-end (continuing_settled (most_turns - c.loop-turn._turn) world) world _ (ap (λ n. continuing_settled n world) none ∙ settling-over world) c.loop-turn.invariant.left
