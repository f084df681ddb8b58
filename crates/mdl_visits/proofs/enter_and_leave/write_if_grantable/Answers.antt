-- The request waits behind nobody, so the book tells whether it can be granted.
use Rattle.std.proofs.Common.{◌≡◌, ℕ, true, false, List, [], ◌∷◌, length, arith, subst, sym, refl, ◌∙◌, OnErr, OnOk, nat_lt, lt-ltb}
use Rattle.mdl_book.specs.declared.book_error.BookError.TheVariants as fault
use Rattle.mdl_visits.proofs.Lemmas.{BookView, Gain, HasBookInHand, Kind, Mode, OfBook, Refuses, SeatState, Ticket, and_parts, booked, by_bool, goes_first, grant_fault, lock_kind, may_stand, request_fault, written}
use Rattle.mdl_visits.proofs.enter_and_leave.write_if_grantable.Goals as goal
use Rattle.mdl_visits.proofs.enter_and_leave.write_if_grantable.Goals.{else-has_waiters-via-then-has_waiters+else-not-can_grant, else-has_waiters-via-else-has_waiters}

-- nobody goes before where nobody waits
none_first : (kind : Kind) (ts : List Ticket) (session : ℕ) (mode : Mode) → nat_lt 0 (length ts) ≡ false → goes_first kind ts session mode ≡ true
none_first kind [] session mode none = refl
none_first kind (t ∷ ts) session mode none = let some = lt-ltb 0 (length (t ∷ ts)) (omega arith) in absurd (cc)

-- so the faults are the same
same_fault : (t : Ticket) (word : ℕ) (book : BookView) → goes_first (lock_kind book) book.waiting t.session t.mode ≡ true → grant_fault t word book ≡ request_fault t word book
same_fault t word book first =
    by_bool (may_stand (lock_kind book) book.granted word t.session t.mode)
    (λ stands. rw stands (rw first refl))
    (λ clashes. rw clashes refl)

pub returns : goal.returns
returns c =
    let place = c.args.latch.now.place in
    let seat = c.args.seat.now in
    let number = c.args.number in
    let mode = c.args.mode in
    let result = c.write_gain.result in
    let now = c.write_gain.new.self in
    let same : c.else-has_waiters.seat ≡ seat = elim c.else-has_waiters.branch [
      | else-has_waiters-via-then-has_waiters+else-not-can_grant w ↦ w.seat-is ∙ w.can_grant.ensures.same ∙ c.has_waiters.ensures.same
      | else-has_waiters-via-else-has_waiters w ↦ w.seat-is ∙ c.has_waiters.ensures.same
    ] in
    let first : (book : BookView) → HasBookInHand place book seat → goes_first (lock_kind book) book.waiting seat.me.0.number mode ≡ true = λ book has. elim c.else-has_waiters.branch [
      | else-has_waiters-via-then-has_waiters+else-not-can_grant w ↦
          let here = subst (HasBookInHand place book) (sym c.has_waiters.ensures.same) has in
          let can = sym (w.can_grant.ensures.told book here) ∙ w.if-not-can_grant.false in
          subst (λ (x : SeatState). goes_first (lock_kind book) book.waiting x.me.0.number mode ≡ true) c.has_waiters.ensures.same (and_parts _ _ can).1
      | else-has_waiters-via-else-has_waiters w ↦
          none_first (lock_kind book) book.waiting seat.me.0.number mode (sym (c.has_waiters.ensures.told book has) ∙ w.if-has_waiters.false)
    ] in
    record {
      written = subst (λ (x : SeatState). OfBook place x (λ book. OnOk result (now ≡ record x { me = written place (booked x.me.0.number (Gain number mode) book) x.me }))) same
          c.write_gain.ensures.written;
      unchanged = subst (λ (x : SeatState). OnErr result (now ≡ x)) same c.write_gain.ensures.unchanged;
      refused = λ book has.
          let t : Ticket = record { session = seat.me.0.number; number = number; mode = mode } in
          subst (λ f. Refuses f fault.OutOfMemory result) (same_fault t c.args.word.0 book (first book has))
          (subst (λ (x : SeatState). OfBook place x (λ b. Refuses (grant_fault (record { session = x.me.0.number; number = number; mode = mode }) c.args.word.0 b) fault.OutOfMemory result)) same
          c.write_gain.ensures.refused book has);
    }
