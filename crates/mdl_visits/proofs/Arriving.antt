-- A session that came to a place has its latch, and does its deeds there.
use Rattle.std.proofs.Common.{Bool, List, Some, [], ◌∷◌, ◌++◌, ap, append_assoc, false, inl, inr, refl, subst, sym, true, ℕ, ◌||◌, ◌∙◌, ◌≡◌, Option, ◌⊎◌, ◌≤◌, is_some}
use Rattle.mdl_book.specs.declared.book_error.BookError.TheVariants as fault
use Rattle.mdl_visits.proofs.FirstLemmas.{AllQuiet, Arrives, AtItsTable, BookError, BookView, CameTo, Deed, DidUnder, DoesToOwn, Flagged, HasStep, HasWorked, Holds, IsFresh, IsInside, IsPlace, IsRising, IsStepOf, Keys, KnowsPlace, LacksRoom, LatchRecord, Lingers, MayDo, MayVisit, MeetsOwn, Mine, MissLatch, NotWaited, SeatState, StaysOn, StaysWithin, StepRecord, TakesLatch, VisitsOnce, all_booked, and_made, frees, fresh_before, held_at, holds_written, inside_at, inside_taken, inside_written, latch_word, latched, lock_word, mine, missed_latch, place_there, plain, stays_taken, step_later, table_of, ticket_count, ticket_of, visit_after, within_one, within_same, within_taken, within_then, within_written, written}

-- by what the wait for the latch promises
pub arrived : (place : ℕ) (s : SeatState) → MayVisit place s → (q : ℕ) (c : SeatState) → q ≡ place → (h : LatchRecord) → IsFresh place h s.me → Holds place h h.book c.me
    → AtItsTable s c (IsInside place) → StaysOn s.me c.me → TakesLatch place s.me c.me → StaysWithin false s.me c.me → Arrives place s q c
arrived place s may q c at h fresh holds inside stays taken within = record {
  at = at;
  is_place = place_there q inside.0 (subst (IsPlace s.table) (sym at) may.is_place);
  latch = h;
  fresh = fresh;
  holds = subst (λ (p : ℕ). Holds p h h.book c.me) (sym at) holds;
  came = (inside.0, subst (λ (p : ℕ). IsInside p s.me c.me) (sym at) inside.1, stays);
  taken = taken;
  within = within;
}

-- it took the latch after steps that only met something
pub taken_after : (place : ℕ) (s a : SeatState) → MayVisit place s → a.table ≡ s.table → Lingers s.me a.me → (q : ℕ) (c : SeatState) → q ≡ place → (h : LatchRecord) → IsFresh place h a.me
    → Holds place h h.book c.me → c ≡ record a { me = latched place h a.me } → Arrives place s q c
taken_after place s a may table steps q c at h later holds is =
    let now : c.me ≡ latched place h (and_made steps.0 s.me) = mine is ∙ ap (latched place h) steps.1 in
    let fresh = fresh_before place h s.me a.me (steps.0, steps.1, steps.3) later in
    arrived place s may q c at h fresh holds
    (table_of is ∙ table, inside_taken place h s.me c.me steps.0 may.rising fresh.here now steps.3)
    (stays_taken place h s.me c.me steps.0 now steps.4)
    (h, fresh, holds, (steps.0, now, steps.2, steps.3))
    (within_taken false s.me c.me place h steps.0 now steps.2 steps.4)

-- it found the latch taken before
module _ (place found : ℕ) (s a : SeatState) (missed : a ≡ record s { me = missed_latch place found s.me }) where
  pub may_still : MayVisit place s → MayVisit place a
  may_still may = record { is_place = place_there place (table_of missed) may.is_place; rising = subst (IsRising place) (sym (mine missed)) may.rising }

  abbrev miss : StepRecord
  miss = record { kind = MissLatch; deeds = []; word = latch_word place; found = found; held = s.me.0.latches; directory = s.me.0.directory }

  before : (made : List StepRecord) → a.me.0.log ++ made ≡ s.me.0.log ++ miss ∷ made
  before made = ap (λ (x : Mine). x.0.log ++ made) (mine missed) ∙ append_assoc s.me.0.log (miss ∷ []) made

  inside_before : (q : ℕ) (m : Mine) → IsInside q a.me m → IsInside q s.me m
  inside_before q m inside = record {
    latches = inside.latches;
    made = miss ∷ inside.made;
    book = inside.book;
    now = inside.now ∙ ap (λ (x : Mine). inside_at q inside.latches inside.book x (x.0.log ++ inside.made)) (mine missed)
        ∙ (λ i. inside_at q inside.latches inside.book s.me (append_assoc s.me.0.log (miss ∷ []) inside.made i));
    others = inside.others ∙ ap (λ (x : Mine). x.0.latches) (mine missed);
    did = inside.did;
  }

  pub arrives_later : (q : ℕ) (c : SeatState) → Arrives place a q c → Arrives place s q c
  arrives_later q c later =
      let stays = later.came.2 in
      let took = later.taken in
      let fresh : (h : LatchRecord) → IsFresh place h a.me → IsFresh place h s.me = λ h. fresh_before place h s.me a.me (miss ∷ [], mine missed, refl) in
      record {
        at = later.at;
        is_place = later.is_place;
        latch = later.latch;
        fresh = fresh later.latch later.fresh;
        holds = later.holds;
        came = (later.came.0 ∙ table_of missed, inside_before q c.me later.came.1, (miss ∷ stays.0, stays.1 ∙ before stays.0, ((refl, refl), stays.2)));
        taken = (
          took.0,
          fresh took.0 took.1,
          took.2,
          (
            miss ∷ took.3.0,
            took.3.1 ∙ ap (λ (x : Mine). latched place took.0 (and_made took.3.0 x)) (mine missed)
                ∙ (λ i. latched place took.0 (record s.me.0 { log = append_assoc s.me.0.log (miss ∷ []) took.3.0 i }, s.me.1)),
            ((refl, refl), subst (λ (d : Option Keys). AllQuiet d took.3.0) (ap (λ (x : Mine). x.0.directory) (mine missed)) took.3.2),
            took.3.3,
          ),
        );
        within = within_then false s.me a.me c.me
            (within_one false s.me a.me miss (ap (λ (x : Mine). x.0.log) (mine missed)) (ap (λ (x : Mine). x.0.directory) (mine missed)) (refl, plain false, refl)) later.within;
      }

-- the step on the word that did its deeds met the record of the latch
module _ (place : ℕ) (s : SeatState) (q : ℕ) (w n : SeatState) (at : q ≡ place) (inside : IsInside q s.me w.me) (h : LatchRecord) (recorded : held_at q w.me.0.latches ≡ Some h)
    (ds : List Deed) (step : HasStep w n (DidUnder q ds w)) where
  pub met : (e : StepRecord) × IsStepOf s.me n.me e × (e.word ≡ lock_word place) × (held_at place e.held ≡ Some h) × (e.deeds ≡ ds)
  met =
      let told = step.2 in (
        step.0,
        step_later q s.me w.me n.me inside step.0 step.1,
        told.0 ∙ ap lock_word at,
        subst (λ (p : ℕ). held_at p step.0.held ≡ Some h) at (ap (held_at q) told.1 ∙ recorded),
        told.2,
      )

  -- which was full, where the book was
  pub met_full : (cause : BookError) → (cause ≡ fault.OutOfMemory) ⊎ ((cause ≡ fault.Full) × (65535 ≤ ticket_count h.book)) → LacksRoom place cause s n
  met_full cause (inl memory) = inl memory
  met_full cause (inr full) = let m = met in inr (full.0, (m.0, m.1, record { word = m.2; latch = h; held = m.3; full = full.1 }))

module _ {place : ℕ} {s : SeatState} {q : ℕ} {c : SeatState} (a : Arrives place s q c) where
  pub inside_there : IsInside place s.me c.me
  inside_there = subst (λ (p : ℕ). IsInside p s.me c.me) a.at a.came.1

  pub number_kept : s.me.0.number ≡ c.me.0.number
  number_kept = sym (ap (λ (x : Mine). x.0.number) a.came.1.now)

  pub unwaited_there : (number : ℕ) → NotWaited s.me.0 number → NotWaited c.me.0 number
  unwaited_there number unwaited = subst (λ (x : Mine). NotWaited x.0 number) (sym a.came.1.now) unwaited

  -- another book was written
  pub came_written : (book : BookView) (w : SeatState) → w ≡ record c { me = written q book c.me } → CameTo q s w
  came_written book w is = (
    table_of is ∙ a.came.0,
    inside_written q book s.me c.me w.me a.came.1 (mine is),
    subst (λ (x : SeatState). StaysOn s.me x.me) (sym is) a.came.2,
  )

  -- and it went on there, and left
  pub went_on : (w n : SeatState) → StaysWithin false c.me w.me → VisitsOnce q w.me n.me → VisitsOnce place s.me n.me
  went_on w n more visit =
      subst (λ (p : ℕ). VisitsOnce p s.me n.me) a.at
      (visit_after false s.me w.me n.me (within_then false s.me c.me w.me a.within more) q visit)

  pub went_written : (book : BookView) (w n : SeatState) → w ≡ record c { me = written q book c.me } → VisitsOnce q w.me n.me → VisitsOnce place s.me n.me
  went_written book w n is visit = went_on w n (within_written false c.me w.me q book (mine is)) visit

  pub went_same : (w n : SeatState) → w ≡ c → VisitsOnce q w.me n.me → VisitsOnce place s.me n.me
  went_same w n is visit =
      went_on w n (within_same false c.me w.me (ap (λ (x : SeatState). x.me.0.log) is) (ap (λ (x : SeatState). x.me.0.directory) is)) visit

  -- what it may do and has written it has done
  pub has_worked : (ds : List Deed) (w : SeatState) → KnowsPlace s.me.0 place → MayDo c.me.0 a.latch.book a.latch.noted ds
      → Flagged (all_booked c.me.0.number ds a.latch.book) a.latch.slow a.latch.obtrusive
      → w ≡ record c { me = written q (all_booked c.me.0.number ds a.latch.book) c.me } → HasWorked q ds (frees ds) w
  has_worked ds w known may flagged is =
      let here = subst (λ (x : Mine). KnowsPlace x.0 place) (sym a.came.1.now) known in
      subst (HasWorked q ds (frees ds)) (sym is) (record {
        is_place = a.is_place;
        latch = a.latch;
        done = record {
          holds = holds_written q a.latch a.latch.book (all_booked c.me.0.number ds a.latch.book) c.me a.holds;
          act = inl (subst (KnowsPlace c.me.0) (sym a.at) here);
          may = may;
        };
        flagged = flagged;
        once = record { once = a.fresh.once; single = a.fresh.single };
        freed_is = ap (λ (b : Bool). b || frees ds) a.fresh.unfreed;
      })

  -- or it has done nothing
  pub has_rested : HasWorked q [] false c
  has_rested = record {
    is_place = a.is_place;
    latch = a.latch;
    done = record { holds = a.holds; act = inr refl; may = tt };
    flagged = ((λ e. a.fresh.exact.0 ∙ e), λ e. a.fresh.exact.1 ∙ e);
    once = record { once = a.fresh.once; single = a.fresh.single };
    freed_is = ap (λ (b : Bool). b || false) a.fresh.unfreed;
  }

  -- and so the session's ticket
  pub meets_own : (number : ℕ) (e : StepRecord) → is_some (ticket_of c.me.0.number number a.latch.book.granted) ≡ true → e.word ≡ lock_word place → held_at place e.held ≡ Some a.latch
      → MeetsOwn place s.me.0.number number e
  meets_own number e there word held = record {
    word = word;
    latch = a.latch;
    held = held;
    there = subst (λ (who : ℕ). is_some (ticket_of who number a.latch.book.granted) ≡ true) (sym number_kept) there;
  }

  pub met_here : (ds : List Deed) (w n : SeatState) → CameTo q s w → w.me.0.latches ≡ c.me.0.latches → HasStep w n (DidUnder q ds w)
      → (e : StepRecord) × IsStepOf s.me n.me e × (e.word ≡ lock_word place) × (held_at place e.held ≡ Some a.latch) × (e.deeds ≡ ds)
  met_here ds w n came same step = met place s q w n a.at came.1 a.latch (ap (held_at q) same ∙ a.holds.recorded) ds step

  pub met_own : (number : ℕ) (ds : List Deed) (w n : SeatState) → is_some (ticket_of c.me.0.number number a.latch.book.granted) ≡ true
      → CameTo q s w → w.me.0.latches ≡ c.me.0.latches → HasStep w n (DidUnder q ds w) → DoesToOwn place number ds s n
  met_own number ds w n there came same step = let m = met_here ds w n came same step in (m.0, m.1, meets_own number m.0 there m.2 m.3, m.4)
