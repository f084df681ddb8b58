-- No session ever has two tickets, so that a lock has at most as many as there are sessions.
use Rattle.std.proofs.Common.{◌≡◌, ℕ, ◌+◌, ◌-◌, ◌<◌, ◌≤◌, Bool, true, false, cond, nat_eq, List, [], ◌∷◌, ◌++◌, length, length-append, map, get_or, Option, Some, None, Result, Err, refl, ap, inl, inr, arith, add-one}
use Rattle.std.specs.List.{find, list_any, All, AllByRecursion, IsDistinct, count_by, sum_by, remove, position_or_len}
use Rattle.std.proofs.lemmas.Bool.{cases_eq, cases_lt, or_parts, or_cases, eqb-true, ne_eqb}
use Rattle.std.proofs.lemmas.Bool.Decides.{nat_tests}
use Rattle.std.proofs.lemmas.List.{take_all, drop_all, append-nil, length-map}
use Rattle.std.proofs.lemmas.List.Elements.{All-append, All-nil, All-head, All-tail, All-push}
use Rattle.std.proofs.lemmas.List.Sums.{sum_by-append, sum_by-cons, sum_by_push, sum_by-remove, passes_at_first}
use Rattle.std.proofs.lemmas.Map.Steps.{length-le_from_distinct_below}
use Rattle.mdl_book.specs.declared.ticket.Ticket.{Ticket}
use Rattle.mdl_key.specs.Refusals.{Refuses}
use Rattle.mdl_book.specs.declared.book_error.BookError.{BookError}
use Rattle.mdl_book.specs.declared.book_error.BookError.TheVariants.{OutOfMemory}
use Rattle.mdl_book.specs.declared.book_view.BookView.{BookView}
use Rattle.mdl_book.specs.Books.{lock_kind, full_fault, grant_fault}
use Rattle.mdl_book.specs.Granting.{is_compatible}
use Rattle.mdl_book.specs.Tickets.{is_ticket, without}
use Rattle.mdl_book.proofs.FastLemmas.{may_stand-none}
use Rattle.mdl_book.proofs.TicketLemmas.{All-without}
use Rattle.mdl_key.specs.declared.mode.Mode.{Mode}
use Rattle.mdl_key.specs.Limits.{most_sessions}
use Rattle.mdl_lines.specs.Sessions.{IsScriptSession}
use Rattle.mdl_lock.specs.Answers.{Lock, free_lock, new_ticket, holds_or_waits, admitted}
use Rattle.mdl_lock.specs.Locks.{lock_of, IsScriptTicket, IsOrderly, tickets_of}
use Rattle.mdl_lock.proofs.FindLemmas.{All-find, count-first, place_inside}

-- 1 where a ticket passes, and else 0
abbrev pub one_if : (Ticket → Bool) → Ticket → ℕ
one_if p ticket = cond (p ticket) 1 0

-- where none passes, none is counted
none_counted : (p : Ticket → Bool) (tickets : List Ticket) → list_any p tickets ≡ false → count_by p tickets ≡ 0
none_counted p [] none = refl
none_counted p (ticket ∷ tickets) none =
    let parts = or_parts (p ticket) (list_any p tickets) none in
    let first : one_if p ticket ≡ 0 = ap (λ b. cond b 1 0) parts.0 in
    omega (arith, sum_by-cons (one_if p) ticket tickets, first, none_counted p tickets parts.1)

-- a lock whose session has no ticket has room for one of that session
room_for : (lock : Lock) (session : ℕ) (mode : Mode) → IsOrderly lock → holds_or_waits session lock ≡ false → (other : ℕ)
    → tickets_of other lock + one_if (is_ticket other 1) (new_ticket session mode) ≤ 1
room_for lock session mode orderly absent other =
    elim (cases_eq session other) [
      | inl same ↦
          let parts = or_parts _ _ absent in
          let held = none_counted (is_ticket session 1) lock.granted parts.0 in
          let waited = none_counted (is_ticket session 1) lock.waiting parts.1 in
          rw (← same) (grind (arith, nat_tests))
      | inr differs ↦ let most = orderly.one_each other in rw (ne_eqb session other differs) (omega arith)
    ]

-- nobody has a ticket of a free lock
pub orderly_free : IsOrderly free_lock
orderly_free = record { holders = All-nil IsScriptTicket; waiters = All-nil IsScriptTicket; one_each = λ session. omega arith }

-- a session that has no ticket is granted one
pub orderly_grant : (lock : Lock) (session : ℕ) (mode : Mode) → IsScriptSession session → holds_or_waits session lock ≡ false → IsOrderly lock
    → IsOrderly (record lock { granted = lock.granted ++ new_ticket session mode ∷ [] })
orderly_grant lock session mode numbered absent orderly =
    let ticket = new_ticket session mode in
    record {
      holders = All-push IsScriptTicket lock.granted ticket orderly.holders (numbered, refl);
      waiters = orderly.waiters;
      one_each = λ other. omega (arith, sum_by_push (one_if (is_ticket other 1)) lock.granted ticket, room_for lock session mode orderly absent other);
    }

-- or waits with one
pub orderly_wait : (lock : Lock) (session : ℕ) (mode : Mode) → IsScriptSession session → holds_or_waits session lock ≡ false → IsOrderly lock
    → IsOrderly (record lock { waiting = lock.waiting ++ new_ticket session mode ∷ [] })
orderly_wait lock session mode numbered absent orderly =
    let ticket = new_ticket session mode in
    record {
      holders = orderly.holders;
      waiters = All-push IsScriptTicket lock.waiting ticket orderly.waiters (numbered, refl);
      one_each = λ other. omega (arith, sum_by_push (one_if (is_ticket other 1)) lock.waiting ticket, room_for lock session mode orderly absent other);
    }

-- a sum without one term is no larger
removed-le : (f : Ticket → ℕ) (tickets : List Ticket) (i : ℕ) → i < length tickets → sum_by f (remove tickets i) ≤ sum_by f tickets
removed-le f [] i inside = absurd (omega arith)
removed-le f (ticket ∷ tickets) i inside = omega (arith, sum_by-remove f (ticket ∷ tickets) i ticket inside)

-- no session has more tickets once one is gone
fewer_left : (p : Ticket → Bool) (session number : ℕ) (tickets : List Ticket) → count_by p (without session number tickets) ≤ count_by p tickets
fewer_left p session number tickets =
    let place : ℕ = position_or_len (is_ticket session number) tickets in
    elim (cases_lt place (length tickets)) [
      | inl inside ↦ rw (add-one place) (removed-le (one_if p) tickets place inside)
      | inr past ↦ rw (take_all place tickets past, drop_all (place + 1) tickets (omega arith), append-nil) (omega arith)
    ]

-- a granted ticket goes
pub orderly_release : (lock : Lock) (session number : ℕ) → IsOrderly lock → IsOrderly (record lock { granted = without session number lock.granted })
orderly_release lock session number orderly = record {
  holders = All-without IsScriptTicket (is_ticket session number) lock.granted orderly.holders;
  waiters = orderly.waiters;
  one_each = λ other. omega (arith, fewer_left (is_ticket other 1) session number lock.granted, orderly.one_each other);
}

-- a waiting ticket goes
pub orderly_cancel : (lock : Lock) (session number : ℕ) → IsOrderly lock → IsOrderly (record lock { waiting = without session number lock.waiting })
orderly_cancel lock session number orderly = record {
  holders = orderly.holders;
  waiters = All-without IsScriptTicket (is_ticket session number) lock.waiting orderly.waiters;
  one_each = λ other. omega (arith, fewer_left (is_ticket other 1) session number lock.waiting, orderly.one_each other);
}

-- two tickets of one session and number pass the same tests
same_test : (session : ℕ) (a b : Ticket) → is_ticket b.session b.number a ≡ true → is_ticket session 1 a ≡ is_ticket session 1 b
same_test session a b same = grind (arith, nat_tests)

-- what a session has left, and what was taken of it
count-taken : (session : ℕ) (p : Ticket → Bool) (tickets : List Ticket) (ticket : Ticket) → find p tickets ≡ Some ticket
    → count_by (is_ticket session 1) (without ticket.session ticket.number tickets) + one_if (is_ticket session 1) ticket ≡ count_by (is_ticket session 1) tickets
count-taken session p tickets ticket found =
    let test = is_ticket ticket.session ticket.number in
    let itself : test ticket ≡ true = grind (arith, nat_tests) in
    let place : ℕ = position_or_len test tickets in
    let inside = place_inside p test tickets ticket found itself in
    let first : Ticket = get_or tickets place ticket in
    let same : one_if (is_ticket session 1) first ≡ one_if (is_ticket session 1) ticket =
    ap (λ b. cond b 1 0) (same_test session first ticket (passes_at_first test tickets ticket inside)) in
    rw (add-one place) (omega (arith, same, sum_by-remove (one_if (is_ticket session 1)) tickets place ticket inside))

-- a waiting ticket is granted
pub orderly_admit : (lock : Lock) (p : Ticket → Bool) (ticket : Ticket) → find p lock.waiting ≡ Some ticket → IsOrderly lock → IsOrderly (admitted ticket lock)
orderly_admit lock p ticket found orderly = record {
  holders = All-push IsScriptTicket lock.granted ticket orderly.holders (All-find IsScriptTicket p lock.waiting ticket orderly.waiters found);
  waiters = All-without IsScriptTicket (is_ticket ticket.session ticket.number) lock.waiting orderly.waiters;
  one_each = λ other. omega (arith, sum_by_push (one_if (is_ticket other 1)) lock.granted ticket, count-taken other p lock.waiting ticket found, orderly.one_each other);
}

-- the sessions of tickets, counted from 0
abbrev places : List Ticket → List ℕ
places tickets = map (λ ticket. ticket.session - 1) tickets

-- a session without a ticket among these is apart from theirs
places_apart : (session : ℕ) (tickets : List Ticket) → 1 ≤ session → All IsScriptTicket tickets → count_by (is_ticket session 1) tickets ≡ 0
    → AllByRecursion (λ place. nat_eq (session - 1) place ≡ false) (places tickets)
places_apart session [] positive all none = tt
places_apart session (ticket ∷ tickets) positive all none =
    let this = All-head IsScriptTicket ticket tickets all in
    let e = sum_by-cons (one_if (is_ticket session 1)) ticket tickets in
    (grind (arith, nat_tests), places_apart session tickets positive (All-tail IsScriptTicket ticket tickets all) (omega arith))

-- where no session has two tickets, their sessions are distinct
places_distinct : (tickets : List Ticket) → All IsScriptTicket tickets → ((session : ℕ) → count_by (is_ticket session 1) tickets ≤ 1) → IsDistinct nat_eq (places tickets)
unfolding IsDistinct
places_distinct [] all one = tt
places_distinct (ticket ∷ tickets) all one =
    let this = All-head IsScriptTicket ticket tickets all in
    let rest = All-tail IsScriptTicket ticket tickets all in
    let itself : is_ticket ticket.session 1 ticket ≡ true = grind (arith, nat_tests) in
    let counted = count-first (is_ticket ticket.session 1) ticket tickets itself in
    let none : count_by (is_ticket ticket.session 1) tickets ≡ 0 = omega (arith, one ticket.session) in
    (places_apart ticket.session tickets this.0.0 rest none, places_distinct tickets rest (λ session. omega (arith, sum_by-cons (one_if (is_ticket session 1)) ticket tickets, one session)))

-- counted from 0, each session is below `most_sessions`
places_below : (tickets : List Ticket) (place : ℕ) → All IsScriptTicket tickets → list_any (nat_eq place) (places tickets) ≡ true → place < most_sessions
places_below [] place all there = cc
places_below (ticket ∷ tickets) place all there =
    let this = All-head IsScriptTicket ticket tickets all in
    elim (or_cases (nat_eq place (ticket.session - 1)) (list_any (nat_eq place) (places tickets)) there) [
      | inl here ↦ omega (arith, eqb-true place (ticket.session - 1) here)
      | inr later ↦ places_below tickets place (All-tail IsScriptTicket ticket tickets all) later
    ]

-- a lock has no more tickets than there are sessions
pub at_most_one_each : (lock : Lock) → IsOrderly lock → length lock.granted + length lock.waiting ≤ most_sessions
at_most_one_each lock orderly =
    let tickets : List Ticket = lock.granted ++ lock.waiting in
    let all = All-append IsScriptTicket lock.granted lock.waiting orderly.holders orderly.waiters in
    let apart = places_distinct tickets all (λ session. omega (arith, sum_by-append (one_if (is_ticket session 1)) lock.granted lock.waiting, orderly.one_each session)) in
    let few = length-le_from_distinct_below (places tickets) most_sessions apart (λ place there. places_below tickets place all there) in
    omega (arith, simp (length-map, length-append) at few)

-- so that its book is not full
pub never_full : (lock : Lock) → IsOrderly lock → full_fault (length lock.granted + length lock.waiting) ≡ None
never_full lock orderly = let few = at_most_one_each lock orderly in grind (arith, nat_tests)

-- nor is a ticket refused that doesn't clash
pub never_refused : (lists : BookView) (ticket : Ticket) → IsOrderly (lock_of lists) → is_compatible (lock_kind lists) lists.granted ticket.session ticket.mode ≡ true
    → grant_fault ticket 0 lists ≡ None
never_refused lists ticket orderly compatible = rw (may_stand-none (lock_kind lists) lists.granted ticket.session ticket.mode, compatible) (never_full (lock_of lists) orderly)

-- all that is left to fail is memory
pub only_memory : (fault : Option BookError) (result : Result (Unit {0}) BookError) → fault ≡ None → Refuses fault OutOfMemory result
    → (error : BookError) → result ≡ Err error → error ≡ OutOfMemory
only_memory fault result none refused error is = rw (none, is) at refused
