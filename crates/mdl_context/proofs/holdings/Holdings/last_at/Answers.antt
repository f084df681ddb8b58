-- The index has just the numbers of the tickets at the place, in order of gain.
use Rattle.std.proofs.Common.{ℕ, List, None, ap, ◌∙◌}
use Rattle.std.specs.List.{last_or}
use Rattle.mdl_context.proofs.PlaceLemmas.{last-number}
use Rattle.mdl_context.proofs.holdings.Holdings.last_at.Goals as goal

pub returns : goal.returns
returns c =
    let here = c.numbers.ensures ∙ c.self.invariant.0 c.args.place in
    rw (← c.self.view_is)
    (c.copied.ensures ∙ c.last.ensures.value ∙ last-number c.numbers.result.now ∙ ap (λ (numbers : List ℕ). last_or None numbers) here)
