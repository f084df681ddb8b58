-- A place that is in use is passed.
use Rattle.std.proofs.Common.{rules, ◌≡◌, ℕ, ◌+◌, ◌<◌, length, true, sym, ◌∙◌}
use Rattle.mdl_core.specs.Cores.{Core, is_in_use}
use Rattle.mdl_space.proofs.PlaceLemmas.{used-passed}
use Rattle.mdl_space.proofs.core_space.CoreSpace.unused_place.Goals as goal

pub loop-index-preserved : goal.loop-index-preserved
loop-index-preserved c =
    let core : Core = c.args.self.now in
    let index : ℕ = c.loop-index.index in
    let inside : index < length core.books = search rules in
    let used : is_in_use (index + 1) core ≡ true = search rules in
    sym (used-passed core index inside used) ∙ c.loop-index.invariant
