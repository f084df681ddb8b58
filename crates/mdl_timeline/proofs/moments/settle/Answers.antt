-- Each turn is that of the session that the definition names.
use Rattle.std.proofs.Common.{◌≡◌, ◌-◌, ◌+◌, ◌∙◌, zero, suc, sym, arith}
use Rattle.mdl_script.specs.Plays.{world_of}
use Rattle.mdl_script.specs.Worlds.{most_turns}
use Rattle.mdl_timeline.proofs.TurnLemmas.{no-turn, one-turn, turns-over}
use Rattle.mdl_timeline.proofs.moments.settle.Goals as goal

pub returns-in_default-clause-events : goal.returns-in_default-clause-events
returns-in_default-clause-events c =
    let said = c.in_ok-_who.ensures in
    (no-turn (most_turns - c.loop-turn._turn) (world_of c.loop-turn.play) (world_of c.settle_one.new.play) c.loop-turn.events.items c.settle_one.new.events.items _ _
    (sym said.found ∙ c.in_default.is) c.loop-turn.invariant.events c.loop-turn.invariant.left said.events said.left).0

pub returns-in_default-clause-left : goal.returns-in_default-clause-left
returns-in_default-clause-left c =
    let said = c.in_ok-_who.ensures in
    (no-turn (most_turns - c.loop-turn._turn) (world_of c.loop-turn.play) (world_of c.settle_one.new.play) c.loop-turn.events.items c.settle_one.new.events.items _ _
    (sym said.found ∙ c.in_default.is) c.loop-turn.invariant.events c.loop-turn.invariant.left said.events said.left).1

pub loop-turn-preserved : goal.loop-turn-preserved
loop-turn-preserved c =
    let said = c.in_ok-_who.ensures in
    let n = most_turns - c.loop-turn._turn in
    let m = most_turns - (c.loop-turn._turn + 1) in
    let fewer : n ≡ suc m = omega arith in
    let turn = one-turn n m (world_of c.loop-turn.play) (world_of c.settle_one.new.play) c.in-Some._who c.loop-turn.events.items c.settle_one.new.events.items _ _ fewer
    (sym said.found ∙ c.in-Some.is) c.loop-turn.invariant.events c.loop-turn.invariant.left said.events said.left in
    record { events = turn.0; left = turn.1; manned = said.manned }

pub returns-clause-events : goal.returns-clause-events
returns-clause-events c =
    let none : most_turns - c.loop-turn._turn ≡ zero = omega arith in
    (turns-over (most_turns - c.loop-turn._turn) (world_of c.loop-turn.play) c.loop-turn.events.items _ _ none c.loop-turn.invariant.events c.loop-turn.invariant.left).0

pub returns-clause-left : goal.returns-clause-left
returns-clause-left c =
    let none : most_turns - c.loop-turn._turn ≡ zero = omega arith in
    (turns-over (most_turns - c.loop-turn._turn) (world_of c.loop-turn.play) c.loop-turn.events.items _ _ none c.loop-turn.invariant.events c.loop-turn.invariant.left).1
