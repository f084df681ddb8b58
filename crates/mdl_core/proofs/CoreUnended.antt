-- The granted waits that aren't ended, in the lock space of one thread: whose they are, and what becomes of them where one
-- session's seat is written.
use Rattle.std.proofs.Common.{◌≡◌, ◌≢◌, ◌↔◌, ℕ, zero, suc, ◌+◌, ◌-◌, ◌<◌, ◌≤◌, true, inl, inr, List, [], ◌∷◌, length, Option, Some, None, refl, sym, ap, subst, ◌∙◌, arith}
use Rattle.std.specs.Prelude.{Contains, MatchOption, slice_index_or}
use Rattle.std.specs.Option.{option_to_list}
use Rattle.std.proofs.lemmas.List.Elements.{Contains-append_left, Contains-append_right, Contains-append_cases}
use Rattle.mdl_calls.specs.declared.answers.Held.{Held}
use Rattle.mdl_calls.specs.declared.answers.Settled.{Settled}
use Rattle.mdl_calls.specs.declared.answers.Settled.TheVariants as settled_as
use Rattle.mdl_core.specs.declared.pending.Pending.{Pending}
use Rattle.mdl_core.specs.Cores.{Core, seat_at, has_session, seating}
use Rattle.mdl_core.specs.CoreSystems.{unended_at, unended_of, unended_from, system_of}
use Rattle.mdl_core.specs.Seats.{SeatView, empty_seat}
use Rattle.mdl_system.specs.Systems.{GrantedWait}
use Rattle.mdl_core.specs.Ties.{HasRisingNumbers, IsTied}
use Rattle.mdl_core.proofs.CoreReads.{within, of_within, seated-same, seated-other, has_session-seating}
use Rattle.mdl_system.proofs.OrderLemmas.{Contains-here}

-- ---- a seat's granted wait

granted_at : (who : ℕ) (wait : Pending) (settled : Option Settled) (granted : GrantedWait) → unended_at who wait settled ≡ Some granted
    → (settled ≡ Some settled_as.Granted) × (record { session = who; wait = wait.number; ticket = wait.id } ≡ granted)
granted_at who wait None granted e = cc
granted_at who wait (Some settled_as.Granted) granted e = (refl, (cc))
granted_at who wait (Some settled_as.Victim) granted e = cc
granted_at who wait (Some settled_as.Timeout) granted e = cc
granted_at who wait (Some settled_as.Killed) granted e = cc

-- it is that of the seat's wait, which was granted
pub granted_of : (who : ℕ) (wait : Option Pending) (granted : GrantedWait) → unended_of who wait ≡ Some granted
    → (pending : Pending) × (wait ≡ Some pending) × (pending.settled ≡ Some settled_as.Granted) × (record { session = who; wait = pending.number; ticket = pending.id } ≡ granted)
granted_of who None granted e = cc
granted_of who (Some pending) granted e = let h = granted_at who pending pending.settled granted e in (pending, refl, h.0, h.1)

-- and of the session of the seat
pub granted_of-session : (who : ℕ) (wait : Option Pending) (granted : GrantedWait) → unended_of who wait ≡ Some granted → granted.session ≡ who
granted_of-session who wait granted e = let h = granted_of who wait granted e in sym (ap (λ (g : GrantedWait). g.session) h.3)

not_granted_at : (who : ℕ) (wait : Pending) (settled : Option Settled) → settled ≢ Some settled_as.Granted → unended_at who wait settled ≡ None
not_granted_at who wait None other = refl
not_granted_at who wait (Some settled_as.Granted) other = absurd (other refl)
not_granted_at who wait (Some settled_as.Victim) other = refl
not_granted_at who wait (Some settled_as.Timeout) other = refl
not_granted_at who wait (Some settled_as.Killed) other = refl

-- a wait that isn't granted gives none
pub not_granted : (who : ℕ) (wait : Pending) → wait.settled ≢ Some settled_as.Granted → unended_of who (Some wait) ≡ None
not_granted who wait other = not_granted_at who wait wait.settled other

-- ---- whose they are

from_option : {T : Type 0} → (o : Option T) (x : T) → Contains (option_to_list o) x → o ≡ Some x
from_option None x among = absurd (let lt = among.1 in omega arith)
from_option (Some y) x among = ap (λ z. Some z) (go among.0 among.1 among.2)
  where
    go : (k : ℕ) → k < 1 → slice_index_or (y ∷ []) k x ≡ x → y ≡ x
    go zero lt e = e
    go (suc k) lt e = absurd (omega arith)

to_list : {T : Type 0} → (o : Option T) (x : T) → o ≡ Some x → Contains (option_to_list o) x
to_list o x e = subst (λ p. Contains (option_to_list p) x) (sym e) (Contains-here x [])

-- the seat at this index has the granted wait, the first seat being that of the session `start`
abbrev At : ℕ → List SeatView → GrantedWait → ℕ → Type 0
At start seats wait k = (k < length seats) × (unended_of (start + k) (slice_index_or seats k empty_seat).wait ≡ Some wait)

from-seat : (start : ℕ) (seats : List SeatView) (wait : GrantedWait) → Contains (unended_from start seats) wait → (k : ℕ) × At start seats wait k
from-seat start [] wait among = absurd (let lt = among.1 in omega arith)
from-seat start (seat ∷ seats) wait among = elim (Contains-append_cases (option_to_list (unended_of start seat.wait)) (unended_from (start + 1) seats) wait among) [
  | inl here ↦ (
      let first : start + 0 ≡ start = omega arith in
      let is : unended_of (start + 0) seat.wait ≡ Some wait = ap (λ n. unended_of n seat.wait) first ∙ from_option _ wait here in
      (0, ((omega arith), is)))
  | inr later ↦ (
      let h = from-seat (start + 1) seats wait later in
      let next : start + suc h.0 ≡ start + 1 + h.0 = omega arith in
      let lt = h.1.0 in
      let is : unended_of (start + suc h.0) (slice_index_or seats h.0 empty_seat).wait ≡ Some wait =
      ap (λ n. unended_of n (slice_index_or seats h.0 empty_seat).wait) next ∙ h.1.1 in
      (suc h.0, ((omega arith), is)))
]

of-seat : (start : ℕ) (seats : List SeatView) (wait : GrantedWait) (k : ℕ) → At start seats wait k → Contains (unended_from start seats) wait
of-seat start [] wait k at = absurd (let lt = at.0 in omega arith)
of-seat start (seat ∷ seats) wait zero at =
    let first : start ≡ start + 0 = omega arith in
    let is : unended_of start seat.wait ≡ Some wait = ap (λ n. unended_of n seat.wait) first ∙ at.1 in
    Contains-append_left (option_to_list (unended_of start seat.wait)) (unended_from (start + 1) seats) wait (to_list _ wait is)
of-seat start (seat ∷ seats) wait (suc k) at =
    let next : start + 1 + k ≡ start + suc k = omega arith in
    let lt = at.0 in
    let is : unended_of (start + 1 + k) (slice_index_or seats k empty_seat).wait ≡ Some wait =
    ap (λ n. unended_of n (slice_index_or seats k empty_seat).wait) next ∙ at.1 in
    Contains-append_right (option_to_list (unended_of start seat.wait)) (unended_from (start + 1) seats) wait (of-seat (start + 1) seats wait k ((omega arith), is))

pub unended-members : (core : Core) (wait : GrantedWait)
    → Contains (system_of core).unended wait ↔ ((has_session wait.session core ≡ true) × (unended_of wait.session (seat_at wait.session core).wait ≡ Some wait))
unended-members core wait = (there, back)
  where
    there : Contains (system_of core).unended wait → (has_session wait.session core ≡ true) × (unended_of wait.session (seat_at wait.session core).wait ≡ Some wait)
    there among =
        let h = from-seat 1 core.seats wait among in
        let lt = h.1.0 in
        let own : wait.session ≡ 1 + h.0 = granted_of-session (1 + h.0) _ wait h.1.1 in
        let back : 1 + h.0 - 1 ≡ h.0 = omega arith in
        subst (λ n. (has_session n core ≡ true) × (unended_of n (seat_at n core).wait ≡ Some wait)) (sym own)
        (of_within (1 + h.0) (length core.seats) (omega arith) (omega arith), ap (λ n. unended_of (1 + h.0) (slice_index_or core.seats n empty_seat).wait) back ∙ h.1.1)

    back : (has_session wait.session core ≡ true) × (unended_of wait.session (seat_at wait.session core).wait ≡ Some wait) → Contains (system_of core).unended wait
    back h =
        let fits = within wait.session (length core.seats) h.0 in
        let on : 1 + (wait.session - 1) ≡ wait.session = omega arith in
        of-seat 1 core.seats wait (wait.session - 1) ((omega arith), ap (λ n. unended_of n (seat_at wait.session core).wait) on ∙ h.1)

-- those of one session
pub own-unended : (core : Core) (who : ℕ) (wait : GrantedWait) → has_session who core ≡ true → wait.session ≡ who
    → Contains (system_of core).unended wait ↔ (unended_of who (seat_at who core).wait ≡ Some wait)
own-unended core who wait has own = (
  (λ among. subst (λ n. unended_of n (seat_at n core).wait ≡ Some wait) own ((unended-members core wait).0 among).1),
  λ is. (unended-members core wait).1 (subst (λ n. (has_session n core ≡ true) × (unended_of n (seat_at n core).wait ≡ Some wait)) (sym own) (has, is)),
)

-- a held ticket has a smaller number than the one that is waited for
held_below : (seat : SeatView) (pending : Pending) (ticket : Held) → seat.wait ≡ Some pending → HasRisingNumbers seat → Contains seat.held ticket → ticket.id < pending.id
held_below seat pending ticket is numbered among =
    let h = subst (λ o. MatchOption o (Unit {0}) (λ (wait : Pending).
    (wait.id ≡ seat.last_ticket) × (wait.number ≤ seat.last_wait) × ((ticket : Held) → Contains seat.held ticket → ticket.id < wait.id))) is numbered.wait in
    h.2 ticket among

-- a held ticket is none of a granted wait that isn't ended
pub not_unended : (core : Core) (who : ℕ) (ticket : Held) → IsTied core → has_session who core ≡ true → Contains (seat_at who core).held ticket
    → (wait : GrantedWait) → Contains (system_of core).unended wait → wait.session ≡ who → wait.ticket ≢ ticket.id
not_unended core who ticket tied has held wait among own e =
    let h = granted_of who (seat_at who core).wait wait ((own-unended core who wait has own).0 among) in
    let below : ticket.id < h.0.id = held_below (seat_at who core) h.0 ticket h.1 (tied.numbered who has) held in
    let is : h.0.id ≡ wait.ticket = ap (λ (g : GrantedWait). g.ticket) h.3 in
    omega arith

-- ---- after a seat was written

module _ (core : Core) (who : ℕ) (seat : SeatView) (has : has_session who core ≡ true) where
  -- those of others are the same
  pub others-unended : (wait : GrantedWait) → wait.session ≢ who
      → Contains (system_of (seating who seat core)).unended wait ↔ Contains (system_of core).unended wait
  others-unended wait other = (
    (λ among. let h = (unended-members (seating who seat core) wait).0 among in
        let is : has_session wait.session core ≡ true = sym (has_session-seating core who wait.session seat) ∙ h.0 in
        (unended-members core wait).1 (is, ap (λ (s : SeatView). unended_of wait.session s.wait) (sym (seated-other core who wait.session seat has is other)) ∙ h.1)),
    λ among. let h = (unended-members core wait).0 among in
        (unended-members (seating who seat core) wait).1 (
          has_session-seating core who wait.session seat ∙ h.0,
          ap (λ (s : SeatView). unended_of wait.session s.wait) (seated-other core who wait.session seat has h.0 other) ∙ h.1,
        ),
  )

  -- and one's own is that of the seat
  pub seated-unended : (wait : GrantedWait) → wait.session ≡ who → Contains (system_of (seating who seat core)).unended wait ↔ (unended_of who seat.wait ≡ Some wait)
  seated-unended wait own =
      let has_still : has_session who (seating who seat core) ≡ true = has_session-seating core who who seat ∙ has in
      subst (λ (s : SeatView). Contains (system_of (seating who seat core)).unended wait ↔ (unended_of who s.wait ≡ Some wait)) (seated-same core who seat has)
      (own-unended (seating who seat core) who wait has_still own)
