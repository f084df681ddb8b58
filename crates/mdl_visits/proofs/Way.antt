-- Waits are granted step by step.
use Rattle.std.proofs.Common.{◌≡◌, ℕ, ◌%◌, ◌<◌, ◌==◌, ◌&&◌, nat_lt, not, false, List, filter, [], ◌∷◌, ◌++◌, Some, None, refl, sym, ap, ◌∙◌, subst, append_assoc, append-nil, inl, inr, arith, Option, eqb-true, ltb-true}
use Rattle.mdl_steps.specs.declared.slot.Slot.TheVariants as slot
use Rattle.mdl_visits.proofs.FirstLemmas.{AreGranted, ArePassedOver, BookView, Each, GrantWait, GrantsWaits, HasJustMet, Holds, IsGrantableTicket, IsLookedThrough, IsStepAfter, IsStepOf, Keys, LatchRecord, MakesMoreSteps, MeetsGranted, Mine, OnlyMeets, ReadWord, Settlement, StaysHere, StaysOn, StaysThere, StaysTold, StaysWithin, StepKind, StepRecord, TableId, TellsOwn, Ticket, View, WasSettled, ahead_of, and_parts, by_bool, changed, deeds_of, each_append, each_map, elsewhere, elsewhere-stepped, gives_back, goes_none, held_at, held_at-changed, kind_raises_flags, lock_word, meeting, met_wait_by, none_then, noting, rest, settled_granted, step_after, stepped, wait_in, wait_word, with_admitted, within_here, written}
use Rattle.mdl_visits.proofs.Steps.{goes_on}

-- ---- what is told of one's own wait

-- after a word of a session's wait another is met, which is the same where that wait isn't unsettled: it agrees with what the session was told of its own
-- wait, and a session without a wait meets none of its own that is settled
pub own_told : (slots session word now : ℕ) (v : View) → TellsOwn slots session word v → ((word % 8 ≡ 1 → ⊥) → now ≡ word)
    → StaysTold v.told (meeting session now v).told × (v.asks ≡ None → (meeting session now v).told ≡ v.told)
own_told slots session word now v own same =
    by_bool (session == v.number && nat_lt 1 (now % 8))
    (λ mine.
    let parts = and_parts (session == v.number) (nat_lt 1 (now % 8)) mine in
    let tells = own (eqb-true session v.number parts.0) in
    let over : 1 < now % 8 = ltb-true 1 (now % 8) parts.1 in (
      λ state told.
          let was : (1 < state) × (word % 8 ≡ state) = tells.told state told in
          let more = was.0 in
          let met = was.1 in
          let still : now % 8 ≡ word % 8 = ap (λ (n : ℕ). n % 8) (same (λ one. omega (arith, more, met, one))) in
          rw mine (ap (λ (n : ℕ). Some n) (still ∙ met)),
      λ none.
          let idle : word % 8 ≡ 0 = tells.idle none in
          let still : now % 8 ≡ word % 8 = ap (λ (n : ℕ). n % 8) (same (λ one. omega (arith, idle, one))) in
          absurd (omega (arith, over, still, idle)),
    ))
    (λ other. ((λ state told. rw other told), (λ none. rw other refl)))

-- ---- what was met between two was met between any two that are farther apart

module _ (a b c d : Mine) (wider : (e : StepRecord) → IsStepOf a b e → IsStepOf c d e) where
  pub settled_within : (slots place session number : ℕ) → WasSettled slots place session number a b → WasSettled slots place session number c d
  settled_within slots place session number was = record {
    read = was.read;
    read_then = wider was.read was.read_then;
    of_wait = was.of_wait;
    met = was.met;
    met_then = wider was.met was.met_then;
    of_same = was.of_same;
    settled = was.settled;
  }

  module _ (id : TableId) (place : ℕ) (h : LatchRecord) (tickets : List Ticket) where
    passed_within : (word : ℕ) → ArePassedOver id place word h tickets a b → ArePassedOver id place word h tickets c d
    passed_within word passed t among known is = elim (passed t among known is) [
      | inl settled ↦ inl (settled_within id.slots place t.session t.number settled)
      | inr cannot ↦ inr cannot
    ]

    pub looked_within : IsLookedThrough id place h tickets a b → IsLookedThrough id place h tickets c d
    looked_within looked = record {
      read = looked.read;
      read_then = wider looked.read looked.read_then;
      kind = looked.kind;
      of_lock = looked.of_lock;
      noted = looked.noted;
      passed = passed_within looked.read.found looked.passed;
    }

-- ---- and what was granted

-- it is told from an earlier start on
meets_since : (id : TableId) (place : ℕ) (first start x : Mine) (g : Settlement) (e : StepRecord) → MakesMoreSteps first start → MeetsGranted id place start x g e → MeetsGranted id place first x g e
meets_since id place first start x g e more met = record {
  state = met.state;
  kind = met.kind;
  word = met.word;
  unsettled = met.unsettled;
  before = met.before;
  just = met.just;
  wish = met.wish;
  held = met.held;
  waits = met.waits;
  beside = met.beside;
  first = met.first;
  earliest = looked_within start x first x (step_after first start x more) id place met.before (ahead_of g.session met.wish.number met.before.book.waiting) met.earliest;
}

module _ (id : TableId) (place : ℕ) (first start c a b d : Mine) (since : MakesMoreSteps first start) (before : MakesMoreSteps c a) (after : MakesMoreSteps b d) where
  pub granted_within : (grants : List Settlement) → AreGranted id place grants start a b → AreGranted id place grants first c d
  granted_within [] all = tt
  granted_within (g ∷ more) all =
      let met = all.0 in (
        (
          met.0,
          met.1,
          (goes_on c a met.1 before met.2.0, met.2.1 ++ after.0, after.1 ∙ ap (λ (log : List StepRecord). log ++ after.0) met.2.2 ∙ append_assoc met.1.0.log (met.0 ∷ met.2.1) after.0),
          meets_since id place first start met.1 g met.0 since met.3,
        ),
        granted_within more all.1,
      )

-- ---- waits are granted

-- who only meets something stays
only_stays : (kind : StepKind) → OnlyMeets kind → (gives_back kind ≡ false) × (kind_raises_flags kind ≡ false)
only_stays kind (inl read) = rw read (refl, refl)
only_stays kind (inr missed) = rw missed (refl, refl)

module _ (id : TableId) (place : ℕ) (start : Mine) where
  -- nobody is granted
  nobody_granted : (latches : List LatchRecord) (told : Option ℕ) (made : List StepRecord) (book : BookView) (m m′ : Mine)
      → m′ ≡ (record m.0 { latches = latches; told = told; log = m.0.log ++ made }, (place, slot.Place book) ∷ rest m.1) → filter (λ h. not (h.place == place)) latches ≡ elsewhere place m
      → StaysTold m.0.told told × (m.0.asks ≡ None → told ≡ m.0.told) → deeds_of made ≡ [] → Each (StaysHere m.0.directory) made → GrantsWaits id place start m m′
  nobody_granted latches told made book m m′ is others tells did kept = record {
    latches = latches;
    told = told;
    grants = [];
    made = made;
    book = book;
    now = is ∙ (λ i. (record m.0 { latches = latches; told = told; settles = sym (append-nil m.0.settles) i; log = m.0.log ++ made }, (place, slot.Place book) ∷ rest m.1));
    others = others;
    stays = tells.0;
    unasked = tells.1;
    granted = tt;
    did = did;
    kept = kept;
  }

  -- the book in hand was written
  pub rescheduled_written : (next : BookView) (m m′ : Mine) → m′ ≡ written place next m → GrantsWaits id place start m m′
  rescheduled_written next m m′ is =
      nobody_granted m.0.latches m.0.told [] next m m′ (is ∙ (λ i. (record m.0 { log = sym (append-nil m.0.log) i }, (place, slot.Place next) ∷ rest m.1))) refl
      ((λ state e. e), (λ none. refl)) refl tt

  -- or nothing was done yet
  pub rescheduled_none : (book : BookView) (m : Mine) → m.1 ≡ (place, slot.Place book) ∷ rest m.1 → GrantsWaits id place start m m
  rescheduled_none book m carried = rescheduled_written book m m (λ i. (m.0, carried i))

  -- a wait's word was met
  pub rescheduled_met : (kind : StepKind) → OnlyMeets kind → (session found : ℕ) (book : BookView) (m m′ : Mine) → m.1 ≡ (place, slot.Place book) ∷ rest m.1 → TellsOwn id.slots session found m.0
      → m′ ≡ met_wait_by kind id.slots session found m → GrantsWaits id place start m m′
  rescheduled_met kind only session found book m m′ carried own is =
      nobody_granted m.0.latches (meeting session found m.0).told
      (record { kind = kind; deeds = []; word = wait_word id.slots session; found = found; held = m.0.latches; directory = m.0.directory } ∷ []) book m m′
      (is ∙ (λ i. ((met_wait_by kind id.slots session found m).0, carried i))) refl (own_told id.slots session found found m.0 own (λ _. refl)) refl ((only_stays kind only, refl), tt)

  -- the lock's word was read
  pub rescheduled_read : (word : ℕ) (book : BookView) (m m′ : Mine) → m.1 ≡ (place, slot.Place book) ∷ rest m.1 → m′ ≡ stepped ReadWord place word (noting word) m → GrantsWaits id place start m m′
  rescheduled_read word book m m′ carried is =
      let latches = (changed place (noting word) m.0).latches in
      nobody_granted latches m.0.told (record { kind = ReadWord; deeds = []; word = lock_word place; found = word; held = latches; directory = m.0.directory } ∷ []) book m m′
      (is ∙ (λ i. ((stepped ReadWord place word (noting word) m).0, carried i))) (elsewhere-stepped ReadWord place word (noting word) m (λ x. refl))
      ((λ state e. e), (λ none. refl)) refl (((refl, refl), refl), tt)

  module _ (session ticket number : ℕ) (h : LatchRecord) (book : BookView) (m m′ : Mine) (has : Holds place h book m) (ready : IsGrantableTicket session ticket h) (just : HasJustMet id.slots place session h m)
      (looked : IsLookedThrough id place h (ahead_of session ticket h.book.waiting) start m) (is : m′ ≡ settled_granted id.slots place session ticket number m) where
    latches_then : List LatchRecord
    latches_then = (changed place (with_admitted session ticket) m.0).latches

    grants_it : StepRecord
    grants_it = record { kind = GrantWait; deeds = []; word = wait_word id.slots session; found = wait_in number 1; held = latches_then; directory = m.0.directory }

    meets : (wish_number : ready.wish.number ≡ ticket) → MeetsGranted id place start m (record { session = session; wait = number; state = 2 }) grants_it
    unfolding grants_it latches_then
    meets wish_number = record {
      state = refl;
      kind = refl;
      word = refl;
      unsettled = refl;
      before = h;
      just = just;
      wish = ready.wish;
      held = subst (λ (n : ℕ). held_at place latches_then ≡ Some (with_admitted session n h)) (sym wish_number)
          (held_at-changed place (with_admitted session ticket) (λ x. refl) m.0.latches h has.recorded);
      waits = subst (λ (n : ℕ). Rattle.mdl_book.specs.Tickets.ticket_of session n h.book.waiting ≡ Some ready.wish) (sym wish_number) ready.waits;
      beside = ready.beside;
      first = ready.first;
      earliest = subst (λ (n : ℕ). IsLookedThrough id place h (ahead_of session n h.book.waiting) start m) (sym wish_number) looked;
    }

    pub rescheduled_granted : ready.wish.number ≡ ticket → TellsOwn id.slots session (wait_in number 1) m.0 → GrantsWaits id place start m m′
    unfolding grants_it latches_then
    rescheduled_granted wish_number own = let tells = own_told id.slots session (wait_in number 1) (wait_in number 2) m.0 own (λ no. absurd (no (omega arith))) in record {
      latches = latches_then;
      told = (meeting session (wait_in number 2) m.0).told;
      grants = record { session = session; wait = number; state = 2 } ∷ [];
      made = grants_it ∷ [];
      book = book;
      now = is ∙ (λ i. ((settled_granted id.slots place session ticket number m).0, has.carried i));
      others = elsewhere-stepped GrantWait place 0 (with_admitted session ticket) m (λ x. refl);
      stays = tells.0;
      unasked = tells.1;
      granted = (
        (grants_it, m, (([], sym (append-nil m.0.log)), [], ap (λ (x : Mine). x.0.log) is), meets wish_number),
        tt,
      );
      did = refl;
      kept = (((refl, refl), refl), tt);
    }

  -- ---- one after another

  pub steps_of : (m m′ : Mine) → GrantsWaits id place start m m′ → MakesMoreSteps m m′
  steps_of m m′ way = (way.made, ap (λ (x : Mine). x.0.log) way.now)

  pub stays_of : (m m′ : Mine) → GrantsWaits id place start m m′ → StaysOn m m′
  stays_of m m′ way = (
    way.made,
    ap (λ (x : Mine). x.0.log) way.now,
    each_map (StaysHere m.0.directory) StaysThere (λ e so. so.0) way.made way.kept,
  )

  pub within_of : (m m′ : Mine) → GrantsWaits id place start m m′ → StaysWithin false m m′
  within_of m m′ way = within_here false m m′ way.made (ap (λ (x : Mine). x.0.log) way.now) (ap (λ (x : Mine). x.0.directory) way.now) way.kept

  pub rescheduled_then : (a b c : Mine) → GrantsWaits id place start a b → GrantsWaits id place start b c → GrantsWaits id place start a c
  rescheduled_then a b c x y = record {
    latches = y.latches;
    told = y.told;
    grants = x.grants ++ y.grants;
    made = x.made ++ y.made;
    book = y.book;
    now = y.now
        ∙ ap (λ (w : Mine). (record w.0 { latches = y.latches; told = y.told; settles = w.0.settles ++ y.grants; log = w.0.log ++ y.made }, (place, slot.Place y.book) ∷ rest w.1)) x.now
        ∙ (λ i. (record a.0 { latches = y.latches; told = y.told; settles = append_assoc a.0.settles x.grants y.grants i; log = append_assoc a.0.log x.made y.made i }, (place, slot.Place y.book) ∷ rest a.1));
    others = y.others ∙ ap (elsewhere place) x.now ∙ x.others;
    stays = λ state e. y.stays state (ap (λ (w : Mine). w.0.told) x.now ∙ x.stays state e);
    unasked = λ none. y.unasked (ap (λ (w : Mine). w.0.asks) x.now ∙ none) ∙ ap (λ (w : Mine). w.0.told) x.now ∙ x.unasked none;
    granted = each_append (λ (g : Settlement). (e : StepRecord) × (s : Mine) × IsStepAfter a s c e × MeetsGranted id place start s g e) x.grants y.grants
        (granted_within id place start start a a b c (goes_none start) (goes_none a) (steps_of b c y) x.grants x.granted)
        (granted_within id place start start a b c c (goes_none start) (steps_of a b x) (goes_none c) y.grants y.granted);
    did = none_then x.made y.made [] x.did y.did;
    kept = each_append (StaysHere a.0.directory) x.made y.made x.kept
        (subst (λ (d : Option Keys). Each (StaysHere d) y.made) (ap (λ (w : Mine). w.0.directory) x.now) y.kept);
  }
