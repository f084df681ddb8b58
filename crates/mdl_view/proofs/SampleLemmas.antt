-- What a sample says of requests.
use Rattle.std.proofs.Common.{◌≡◌, ◌∙◌, ℕ, Bool, true, false, not, ◌&&◌, ◌||◌, List, [], ◌∷◌, filter, cond, refl, sym, ap}
use Rattle.std.specs.Prelude.{◌==◌}
use Rattle.std.specs.List.{list_any}
use Rattle.mdl_view.specs.declared.lock_mode.LockKind.{LockKind}
use Rattle.mdl_view.specs.declared.lock_mode.LockMode.{LockMode}
use Rattle.mdl_view.specs.declared.ticket.Ticket.{Ticket}
use Rattle.mdl_view.specs.Blockings.{holds_against, is_blocked, is_unexplained, waits_before}
use Rattle.mdl_view.specs.Locks.{LockView}
use Rattle.mdl_view.specs.Modes.{lock_clashes, lock_waits_behind}
use Rattle.mdl_view.specs.Samples.{IsSample, IsSampleOf, is_apart}
use Rattle.mdl_view.proofs.AnyLemmas.{any_same}

twice : (a b : Bool) → (a && b) ≡ (a && (a && b))
twice true b = refl
twice false b = refl

-- a sample has a ticket of another session in a mode that passes, if all have
pub other_in : (few all : List Ticket) → IsSample few all → (test : LockMode → Bool) (session : ℕ)
    → list_any (λ ticket. not (ticket.session == session) && test ticket.mode) few ≡ list_any (λ ticket. not (ticket.session == session) && test ticket.mode) all
other_in few all sample test session =
    let point = λ (ticket : Ticket). twice (not (ticket.session == session)) (test ticket.mode) in
    any_same _ (is_apart test session session) point few ∙ sample test session session ∙ sym (any_same _ (is_apart test session session) point all)

module _ (all few : LockView) (sample : IsSampleOf all few) (ask : Ticket) where
  pub same_holders : list_any (holds_against few ask) few.granted ≡ list_any (holds_against all ask) all.granted
  same_holders =
      ap (λ (kind : LockKind). list_any (λ (held : Ticket). not (held.session == ask.session) && lock_clashes kind ask.mode held.mode) few.granted) sample.kind
      ∙ other_in few.granted all.granted sample.granted (lock_clashes all.kind ask.mode) ask.session

  same_behind : (tickets others : List Ticket) → IsSample tickets others → list_any (waits_before few ask) tickets ≡ list_any (waits_before all ask) others
  same_behind tickets others same =
      ap (λ (kind : LockKind). list_any (λ (held : Ticket). not (held.session == ask.session) && lock_waits_behind kind ask.mode held.mode) tickets) sample.kind
      ∙ other_in tickets others same (lock_waits_behind all.kind ask.mode) ask.session

  pub same_waiters : list_any (waits_before few ask) few.waiting ≡ list_any (waits_before all ask) all.waiting
  same_waiters = same_behind few.waiting all.waiting sample.waiting

  -- a request is blocked by the sample if it is by the lock
  pub same_blocked : is_blocked few ask ≡ is_blocked all ask
  same_blocked =
      ap (λ b. b || list_any (waits_before few ask) few.waiting) same_holders
      ∙ ap (λ b. list_any (holds_against all ask) all.granted || b) same_waiters

  pub same_unexplained : is_unexplained few ask ≡ is_unexplained all ask
  same_unexplained =
      ap (λ b. not b && not (list_any (waits_before few ask) few.settled)) same_blocked
      ∙ ap (λ b. not (is_blocked all ask) && not b) (same_behind few.settled all.settled sample.settled)

pub filter_same : {X : Type 0} (p q : X → Bool) → ((x : X) → p x ≡ q x) → (xs : List X) → filter p xs ≡ filter q xs
filter_same p q same [] = refl
filter_same p q same (x ∷ xs) = ap (λ b. cond b (x ∷ filter p xs) (filter p xs)) (same x) ∙ ap (λ ys. cond (q x) (x ∷ ys) ys) (filter_same p q same xs)
