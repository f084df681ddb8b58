-- The index is that of what is left so far, and the room stays. What went is marked.
use Rattle.std.proofs.Common.{◌≡◌, ◌⊎◌, ℕ, true}
use Rattle.mdl_context.specs.Goings.{goes}
use Rattle.mdl_context.specs.Holdings.{IsIndexOf}
use Rattle.mdl_context.specs.Indexes.{has_room_for, ticket_numbers}
use Rattle.mdl_context.specs.Spares.{marks}
use Rattle.mdl_context.proofs.ReleaseLemmas.{left}
use Rattle.mdl_context.proofs.holdings.drop_numbers.Given as goal

abbrev pub invariant-loop-at : goal.invariant-loop-at
invariant-loop-at l = record {
  index : IsIndexOf (left (goes l.going) l.at l.tickets) l.by_place;
  room : (place : ℕ) → has_room_for place l.fn.by_place ≡ true → has_room_for place l.by_place ≡ true;
  others : (place : ℕ) → (marks l.spare place ≡ true) ⊎ (ticket_numbers place l.by_place ≡ ticket_numbers place l.fn.by_place);
  marked : (place : ℕ) → marks l.fn.spare place ≡ true → marks l.spare place ≡ true;
}
