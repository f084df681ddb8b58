-- A session has written into the book in hand what its own ticket covers, and may give the latch back.
use Rattle.std.proofs.Common.{◌≡◌, ℕ, true, false, [], ◌∷◌, Some, None, Result, Err, ap, sym, ◌∙◌, inr, ◌⊎◌, ◌≤◌, is_some, OnOk}
use Rattle.mdl_book.specs.declared.book_error.BookError.TheVariants as fault
use Rattle.mdl_visits.proofs.FirstLemmas.{Alter, Arrives, BookError, FitsAt, Gain, HasWorked, IsCovered, Mine, Mode, NotWaited, Refuses, RefusesJust, SeatState, SessionTicket, altered, altered_flagged, booked, change_fault, covered_by, covers, downgrade-listed, fits_lock, gained_flagged, grant_fault, may_downgrade, numbered, own_there, stands, ticket_by, ticket_count, ticket_of, written}
use Rattle.mdl_visits.proofs.Arriving.{has_worked, number_kept, unwaited_there}
use Rattle.mdl_visits.proofs.Trying.{refusal}

module _ (held : SessionTicket) {s : SeatState} {q : ℕ} {c : SeatState} (a : Arrives held.place s q c) (unwaited : NotWaited s.me.0 held.number) (found : numbered held.number s.me.0.slow ≡ Some held) where
  -- the session's ticket stands in the book that is met
  pub there : ticket_of c.me.0.number held.number a.latch.book.granted ≡ Some (ticket_by c.me.0.number held)
  there = own_there c.me.0.number held.number held a.latch s.me (number_kept a) a.fresh unwaited found

  module _ (mode : Mode) (fits : FitsAt s.me.0 held.place mode) (strong : covers held.mode mode ≡ true) where
    covered : IsCovered c.me.0.number mode a.latch
    covered = covered_by held.place c.me.0.number held.number held mode a.latch s.me a.fresh there strong (fits_lock held.place mode a.latch s.me a.fresh fits)

    -- so it gets a mode to which it may be brought down
    pub lowered_to : (w : SeatState) (result : Result Unit BookError) → RefusesJust (change_fault c.me.0.number held.number mode 0 a.latch.book) result
        → OnOk result (w ≡ record c { me = written q (booked c.me.0.number (Alter held.number mode) a.latch.book) c.me })
        → w ≡ record c { me = written q (booked c.me.0.number (Alter held.number mode) a.latch.book) c.me }
    lowered_to w result refused wrote = altered c.me.0.number mode a.latch covered held.number result (ap is_some there) refused wrote

    pub has_altered : (w : SeatState) → may_downgrade held.mode mode ≡ true → w ≡ record c { me = written q (booked c.me.0.number (Alter held.number mode) a.latch.book) c.me }
        → HasWorked q (Alter held.number mode ∷ []) true w
    has_altered w weaker is =
        has_worked a (Alter held.number mode ∷ []) w
        (fits.0, fits.1, fits.2, fits.3)
        (inr (record {
          ticket = ticket_by c.me.0.number held;
          held = (there, unwaited_there a held.number unwaited);
          is_mode = covered.is_mode;
          weaker = downgrade-listed held.mode mode weaker;
        }))
        (altered_flagged c.me.0.number mode a.latch covered held.number)
        is

    -- or a second one beside it
    pub has_gained : (number : ℕ) (w : SeatState) → s.me.0.asks ≡ None → number ≡ s.me.0.next
        → w ≡ record c { me = written q (booked c.me.0.number (Gain number mode) a.latch.book) c.me } → HasWorked q (Gain number mode ∷ []) false w
    has_gained number w idle next is =
        has_worked a (Gain number mode ∷ []) w
        (fits.0, fits.1, fits.2, fits.3) (
          next ∙ sym (ap (λ (x : Mine). x.0.next) a.came.1.now),
          inr (record {
            idle = ap (λ (x : Mine). x.0.asks) a.came.1.now ∙ idle;
            is_mode = covered.is_mode;
            cloned = (covered.stronger, covered.there, covered.own, covered.at_least);
          }),
        )
        (gained_flagged c.me.0.number mode a.latch covered number)
        is

    -- which is refused for want of room alone
    pub no_room : (T : Type 0) (number : ℕ) (cause : BookError)
        → Refuses {T = T} (grant_fault (record { session = c.me.0.number; number = number; mode = mode }) 0 a.latch.book) fault.OutOfMemory (Err cause)
        → (cause ≡ fault.OutOfMemory) ⊎ ((cause ≡ fault.Full) × (65535 ≤ ticket_count a.latch.book))
    no_room T number cause refuses =
        refusal T (record { session = c.me.0.number; number = number; mode = mode }) 0 a.latch.book cause (stands c.me.0.number mode a.latch covered) refuses
