-- Lists without numbers are added.
use Rattle.std.proofs.Common.{◌≡◌, ℕ}
use Rattle.mdl_context.specs.Indexes.{ticket_numbers}
use Rattle.mdl_context.proofs.by_place.list_up_to.Given as goal

abbrev pub invariant-loop-list : goal.invariant-loop-list
invariant-loop-list l = (q : ℕ) → ticket_numbers q l.lists.items ≡ ticket_numbers q l.fn.lists.items
