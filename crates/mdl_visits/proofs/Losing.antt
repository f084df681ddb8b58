-- A list of tickets that loses one has nothing that it hadn't.
use Rattle.std.proofs.Common.{◌≡◌, ℕ, ◌+◌, ◌<◌, ◌≤◌, Bool, true, false, ◌||◌, List, [], ◌∷◌, length, Some, None, refl, sym, ap, ◌∙◌, subst, arith, is_some, Option, Result, OnOk, ltb-true, lt-ltb}
use Rattle.mdl_steps.specs.declared.slot.Slot.TheVariants as slot
use Rattle.mdl_visits.proofs.FirstLemmas.{Arrives, BookError, BookView, Flagged, HasTicket, HasWorked, KnowsPlace, Lose, NotHere, NotWaited, SeatState, Ticket, any_obtrusive, booked, by_bool, is_ticket, list_any, lock_kind, ok_or, or_right, own_found, removing, rest, ticket_of, without, without-hit, without-miss, written}
use Rattle.mdl_visits.proofs.Arriving.{has_worked, number_kept, unwaited_there}

module _ (session number : ℕ) where
  pub any_before : (p : Ticket → Bool) (ts : List Ticket) → list_any p (without session number ts) ≡ true → list_any p ts ≡ true
  any_before p [] e = e
  any_before p (t ∷ ts) e =
      by_bool (p t)
      (λ yes. rw yes refl)
      (λ no. by_bool (is_ticket session number t)
      (λ hit. rw no (sym (ap (list_any p) (without-hit session number t ts hit)) ∙ e))
      (λ miss. let rest = sym (ap (list_any p) (without-miss session number t ts miss)) ∙ e in let later = rw no at rest in rw no (any_before p ts later)))

  pub no_longer : (ts : List Ticket) → length (without session number ts) ≤ length ts
  no_longer [] = omega arith
  no_longer (t ∷ ts) =
      by_bool (is_ticket session number t)
      (λ hit. let is : length (without session number (t ∷ ts)) ≡ length ts = ap length (without-hit session number t ts hit) in omega arith)
      (λ miss.
      let is : length (without session number (t ∷ ts)) ≡ length (t ∷ without session number ts) = ap length (without-miss session number t ts miss) in
      let rest = no_longer ts in
      omega arith)

  -- so flags that tell of each ticket in the lists do so still
  pub still_flagged : (book : BookView) (slow obtrusive : Bool) → Flagged book slow obtrusive → Flagged (removing session number book) slow obtrusive
  still_flagged book slow obtrusive flagged = (
    λ e. (
        let shorter = no_longer book.granted in
        let some = ltb-true 0 (length (without session number book.granted) + length book.waiting) e in
        let more : 0 < length book.granted + length book.waiting = omega arith in
        flagged.0 (lt-ltb 0 (length book.granted + length book.waiting) more)),
    λ e. flagged.1
        (by_bool (any_obtrusive (lock_kind book) book.waiting)
        (λ waits. rw waits (or_right (any_obtrusive (lock_kind book) book.granted) true refl))
        (λ none. let granted = rw none at e in rw none (or_false (any_obtrusive (lock_kind book) book.granted) (any_before _ book.granted (or_only (any_obtrusive (lock_kind book) (without session number book.granted)) granted))))),
  )
    where
      or_false : (b : Bool) → b ≡ true → (b || false) ≡ true
      or_false true e = refl
      or_false false e = e

      or_only : (b : Bool) → (b || false) ≡ true → b ≡ true
      or_only true e = refl
      or_only false e = e

-- ---- in hand

-- a ticket that is there was taken out
pub taken_out : {P : Type 0} {Fault : Type 0} (found : Option Ticket) (fault : Fault) (result : Result Ticket Fault) → is_some found ≡ true → result ≡ ok_or found fault → OnOk result P → P
taken_out {P = P} (Some t) fault result there is done = subst (λ r. OnOk r P) is done
taken_out None fault result there is done = absurd (cc)

-- one that is there is one
pub found_one : (found : Option Ticket) → is_some found ≡ true → (t : Ticket) × (found ≡ Some t)
found_one (Some t) there = (t, refl)
found_one None there = absurd (cc)

module _ {place : ℕ} {s : SeatState} {q : ℕ} {c : SeatState} (a : Arrives place s q c) (number : ℕ) (unwaited : NotWaited s.me.0 number) (held : HasTicket place number s.me.0.slow) where
  -- the session's ticket stands in the book that is met
  pub there : is_some (ticket_of c.me.0.number number a.latch.book.granted) ≡ true
  there =
      subst (λ (who : ℕ). is_some (ticket_of who number a.latch.book.granted) ≡ true) (number_kept a)
      (ap is_some (a.fresh.own number unwaited) ∙ own_found s.me.0.number place number s.me.0.slow held)

  -- so it is taken out
  pub lost : (w : SeatState) (result : Result Ticket BookError)
      → ((book : BookView) → c.me.1 ≡ (q, slot.Place book) ∷ rest c.me.1 → result ≡ ok_or (ticket_of c.me.0.number number book.granted) NotHere)
      → ((book : BookView) → c.me.1 ≡ (q, slot.Place book) ∷ rest c.me.1 → OnOk result (w ≡ record c { me = written q (booked c.me.0.number (Lose number) book) c.me }))
      → w ≡ record c { me = written q (booked c.me.0.number (Lose number) a.latch.book) c.me }
  lost w result refused wrote =
      taken_out (ticket_of c.me.0.number number a.latch.book.granted) NotHere result there (refused a.latch.book a.holds.carried) (wrote a.latch.book a.holds.carried)

  pub has_lost : (w : SeatState) → KnowsPlace s.me.0 place → w ≡ record c { me = written q (booked c.me.0.number (Lose number) a.latch.book) c.me } → HasWorked q (Lose number ∷ []) true w
  has_lost w known is =
      let ticket = found_one (ticket_of c.me.0.number number a.latch.book.granted) there in
      has_worked a (Lose number ∷ []) w known (ticket.0, (ticket.1, unwaited_there a number unwaited))
      (still_flagged c.me.0.number number a.latch.book a.latch.slow a.latch.obtrusive ((λ e. a.fresh.exact.0 ∙ e), λ e. a.fresh.exact.1 ∙ e))
      is
