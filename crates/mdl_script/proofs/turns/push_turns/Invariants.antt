-- Those that are left have to gain what they were answered, and their passes.
use Rattle.std.proofs.Common.{ℕ, List, All}
use Rattle.std.specs.String.{string_bytes}
use Rattle.std.specs.Vec.Iter.{into_iter_items}
use Rattle.mdl_shared.specs.declared.pass.Pass.{Pass}
use Rattle.mdl_script.specs.Answers.{options_of}
use Rattle.mdl_script.specs.Turns.{GainsAnswers, IsTurn}
use Rattle.mdl_script.proofs.turns.push_turns.Given as goal

abbrev pub invariant-loop-turn : goal.invariant-loop-turn
invariant-loop-turn g l =
    let left = into_iter_items l.turn-iterator in let options = options_of l.run.patience l.run.cache in let lines = l.run.script.now in
    let who = l.own.who in let own = l.own.answers.items in
    All (IsTurn options lines who) left
    × ((end : List ℕ) (back : List Pass) → GainsAnswers options lines who own left (string_bytes l.out) end l.passes.items back
    → GainsAnswers options lines who own l.fn.turns.items (string_bytes l.fn.out) end l.fn.passes.items back)
