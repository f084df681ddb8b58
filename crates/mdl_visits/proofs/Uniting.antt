-- One ticket takes the mode of another, and this is taken out of the book in hand.
use Rattle.std.proofs.Common.{◌≡◌, ◌≢◌, ℕ, true, false, List, [], ◌∷◌, Some, None, refl, sym, ap, ◌∙◌, subst, is_some, OnOk, Result}
use Rattle.mdl_steps.specs.declared.slot.Slot.TheVariants as slot
use Rattle.mdl_visits.proofs.FirstLemmas.{Alter, Arrives, BookError, BookView, HasWorked, IsCovered, IsFresh, KnowsPlace, Lose, Mine, Mode, NotHere, RefusesJust, SeatState, SessionTicket, Ticket, altered, altered_flagged, booked, change_fault, covered_by_own, covers, covers-at_least, idle_waits_not, is_passed, lock_kind, numbered, of-mode_other, of_other_number, ok_or, own_mode, own_there, rest, ticket_by, ticket_of, with_mode, written}
use Rattle.mdl_visits.proofs.Arriving.{has_worked, number_kept}
use Rattle.mdl_visits.proofs.Losing.{still_flagged, taken_out}

-- a ticket stays where another one gets another mode
other_there : (who number other : ℕ) (mode : Mode) (ts : List Ticket) → number ≢ other → is_some (ticket_of who other ts) ≡ true → is_some (ticket_of who other (with_mode who number mode ts)) ≡ true
other_there who number other mode ts two there =
    ap is_some (of-mode_other who number who other (λ t is. of_other_number who other t (λ e. two (sym (is_passed who number t is).1 ∙ e))) mode ts) ∙ there

module _ (kept gone : SessionTicket) {s : SeatState} {q : ℕ} {c : SeatState} (a : Arrives kept.place s q c) (here : kept.place ≡ gone.place) (idle : s.me.0.asks ≡ None) (two : kept.number ≢ gone.number)
    (held : (numbered kept.number s.me.0.slow ≡ Some kept) × (numbered gone.number s.me.0.slow ≡ Some gone)) where
  -- both tickets stand in the book that is met
  pub first : ticket_of c.me.0.number kept.number a.latch.book.granted ≡ Some (ticket_by c.me.0.number kept)
  first = own_there c.me.0.number kept.number kept a.latch s.me (number_kept a) a.fresh (idle_waits_not s.me.0 kept.number idle) held.0

  pub second : ticket_of c.me.0.number gone.number a.latch.book.granted ≡ Some (ticket_by c.me.0.number gone)
  second =
      own_there c.me.0.number gone.number gone a.latch s.me (number_kept a) (subst (λ (p : ℕ). IsFresh p a.latch s.me) here a.fresh)
      (idle_waits_not s.me.0 gone.number idle) held.1

  covered : IsCovered c.me.0.number gone.mode a.latch
  covered = covered_by_own kept.place c.me.0.number gone.number gone a.latch s.me a.fresh second

  -- the book with the first in its new mode, and then without the second
  abbrev pub changed : BookView
  changed = booked c.me.0.number (Alter kept.number gone.mode) a.latch.book

  module _ (d : SeatState) (result : Result Unit BookError) (refused : RefusesJust (change_fault c.me.0.number kept.number gone.mode 0 a.latch.book) result)
      (wrote : OnOk result (d ≡ record c { me = written q changed c.me })) where
    pub changed_first : d ≡ record c { me = written q changed c.me }
    changed_first = altered c.me.0.number gone.mode a.latch covered kept.number result (ap is_some first) refused wrote

    pub carries_changed : d.me.1 ≡ (q, slot.Place changed) ∷ rest d.me.1
    carries_changed = subst (λ (x : SeatState). x.me.1 ≡ (q, slot.Place changed) ∷ rest x.me.1) (sym changed_first) refl

    pub united : (w : SeatState) (lost : Result Ticket BookError)
        → ((b : BookView) → d.me.1 ≡ (q, slot.Place b) ∷ rest d.me.1 → lost ≡ ok_or (ticket_of d.me.0.number gone.number b.granted) NotHere)
        → ((b : BookView) → d.me.1 ≡ (q, slot.Place b) ∷ rest d.me.1 → OnOk lost (w ≡ record d { me = written q (booked d.me.0.number (Lose gone.number) b) d.me }))
        → w ≡ record c { me = written q (booked c.me.0.number (Lose gone.number) changed) c.me }
    united w lost told wrote =
        let stays = other_there c.me.0.number kept.number gone.number gone.mode a.latch.book.granted two (ap is_some second) in
        let there = subst (λ (x : SeatState). is_some (ticket_of x.me.0.number gone.number changed.granted) ≡ true) (sym changed_first) stays in
        taken_out (ticket_of d.me.0.number gone.number changed.granted) NotHere lost there (told changed carries_changed) (wrote changed carries_changed)
        ∙ ap (λ (x : SeatState). record x { me = written q (booked x.me.0.number (Lose gone.number) changed) x.me }) changed_first

  -- the first one's mode was covered by the second's
  pub has_united : (w : SeatState) → KnowsPlace s.me.0 kept.place → covers gone.mode kept.mode ≡ true
      → w ≡ record c { me = written q (booked c.me.0.number (Lose gone.number) changed) c.me } → HasWorked q (Alter kept.number gone.mode ∷ Lose gone.number ∷ []) false w
  has_united w known strong is =
      let idle_there = ap (λ (x : Mine). x.0.asks) a.came.1.now ∙ idle in
      let kind = lock_kind a.latch.book in
      has_worked a (Alter kept.number gone.mode ∷ Lose gone.number ∷ []) w known
      (record {
        idle = idle_there;
        two = two;
        old = ticket_by c.me.0.number kept;
        old_held = (first, idle_waits_not c.me.0 kept.number idle_there);
        new = ticket_by c.me.0.number gone;
        new_held = (second, idle_waits_not c.me.0 gone.number idle_there);
        mode_is = refl;
        is_mode = covered.is_mode;
        at_least = covers-at_least kind gone.mode kept.mode (own_mode kept.place c.me.0.number gone.number gone a.latch s.me a.fresh second)
            (own_mode kept.place c.me.0.number kept.number kept a.latch s.me a.fresh first) strong;
      })
      (still_flagged c.me.0.number gone.number changed a.latch.slow a.latch.obtrusive (altered_flagged c.me.0.number gone.mode a.latch covered kept.number))
      is
