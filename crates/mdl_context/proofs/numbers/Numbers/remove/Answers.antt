-- A number that is the last one is taken from the end.
use Rattle.std.proofs.Common.{◌≡◌, ◌∙◌, ◌-◌, ℕ, Bor, Option, Some, ap, length, slice_get, sym}
use Rattle.std.specs.Option.{option_copied}
use Rattle.mdl_context.proofs.IndexLemmas.{last_taken}
use Rattle.mdl_context.proofs.numbers.Numbers.remove.Goals as goal

pub returns-then-last-id-clause-numbers : goal.returns-then-last-id-clause-numbers
returns-then-last-id-clause-numbers c =
    let items = c.self.inside.list.items in
    let found : option_copied c.last.result ≡ slice_get items (length items - 1) = rw c.deref.ensures.value at c.last.ensures.value in
    let last : slice_get items (length items - 1) ≡ Some c.args.id =
    sym found ∙ ap (λ (number : Option (Bor ℕ)). option_copied number) c.in-Some.is ∙ ap (λ (number : ℕ). Some number) c.if-last-id.true in
    rw (← c.self.view_is)
    ((rw (← c.self.view_is) at c.remove_last.ensures.numbers) ∙ last_taken c.args.id items (rw (← c.self.view_is) at c.requires) last)
