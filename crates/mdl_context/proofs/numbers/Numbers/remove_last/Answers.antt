-- A list without its last number has the room that it had.
use Rattle.std.proofs.Common.{ℕ, ◌-◌, take, ap, ◌∙◌}
use Rattle.mdl_context.proofs.numbers.Numbers.remove_last.Goals as goal

pub returns-clause-numbers : goal.returns-clause-numbers
returns-clause-numbers c =
    rw (← c.self.view_is) (c.pop.ensures.rest ∙ ap (λ (n : ℕ). take (n - 1) c.self.inside.list.items) c.self.inside.list.ok.0)
