-- A session's fast tickets at a place come to stand in the book there, under the latch, and the lock's word no longer counts them.
use Rattle.std.proofs.Common.{◌≡◌, ℕ, ◌+◌, ◌<◌, ◌==◌, ◌||◌, Bool, true, false, cond, List, [], ◌∷◌, ◌++◌, length, map, Some, None, refl, sym, ap, ◌∙◌, subst, inl, inr, arith, append_assoc, append-nil, ◌⊎◌, ◌≢◌, not, nat_lt, lt-ltb, length-append}
use Rattle.mdl_book.specs.declared.book_error.BookError.TheVariants as fault
use Rattle.mdl_steps.proofs.Unmixed.{unmixed_apart}
use Rattle.mdl_visits.proofs.FirstLemmas.{AreUngranted, Arrives, AtItsTable, BookError, BookView, CanStand, DidUnder, Each, HasStep, HasWorked, Holds, IsFresh, IsInside, IsPlace, IsStepOf, KeyName, Kind, KnowsKind, KnowsPlace, LacksRoomFor, LatchRecord, Materialise, Materialises, MayMaterialise, MayPut, Mine, Once, PutLatch, RaiseFlags, SeatState, SessionTicket, StaysWithin, StepRecord, TellsLists, Ticket, Visits, VisitsOnce, WasMaterialised, all_slow, any_obtrusive, but_at, by_bool, each_map, elsewhere-stepped, filter, granting_all, granting_own, held_at, holds_written, idle_waits_not, inside_at, inside_stepped, inside_written, interleaved, is_compatible, is_obtrusive, kind_of, latch_word, length_mapped, list_any-append, lock_kind, lock_word, materialised, mine, moved, none_then, own_at, place_there, plain, raised, stepped, table_of, ticket_by, ticket_count, ticket_of, unlatched, visit_put, weight_of, with_book, with_granted, within_one, within_then, within_written}
use Rattle.mdl_visits.proofs.Arriving.{met, went_on}

-- ---- flags

-- a book with some more tickets has one
some_tickets : (ts granted waiting : List Ticket) → 0 < length ts → true ≡ nat_lt 0 (length (granted ++ ts) + length waiting)
some_tickets ts granted waiting some = let longer = length-append granted ts in sym (lt-ltb 0 _ (omega arith))

-- unobtrusive ones are none that are obtrusive
none_obtrusive : (kind : Kind) (session : ℕ) (ts : List SessionTicket) → Each (λ (t : SessionTicket). not (is_obtrusive kind t.mode) ≡ true) ts
    → any_obtrusive kind (map (ticket_by session) ts) ≡ false
none_obtrusive kind session [] all = refl
none_obtrusive kind session (t ∷ ts) all = by_bool (is_obtrusive kind t.mode)
    (λ is. (let never = rw is at all.0 in absurd (cc)))
    (λ isnt. rw isnt (none_obtrusive kind session ts all.1))

or_none : (b : Bool) → (b || false) ≡ b
or_none true = refl
or_none false = refl

-- so the flag SLOW is right with them, and OBTRUSIVE as it was
tells_more : (book : BookView) (slow obtrusive : Bool) (ts : List Ticket) → TellsLists book slow obtrusive → 0 < length ts
    → any_obtrusive (lock_kind book) ts ≡ false → TellsLists (granting_all ts book) true obtrusive
tells_more book slow obtrusive ts exact some plain = (
  some_tickets ts book.granted book.waiting some,
  exact.1
      ∙ ap (λ (b : Bool). b || any_obtrusive (lock_kind book) book.waiting)
      (sym (list_any-append (λ (x : Ticket). is_obtrusive (lock_kind book) x.mode) book.granted ts
      ∙ ap (λ (b : Bool). any_obtrusive (lock_kind book) book.granted || b) plain
      ∙ or_none (any_obtrusive (lock_kind book) book.granted))),
)

-- ---- without any

none_taken : (place : ℕ) (ts : List SessionTicket) → own_at place ts ≡ [] → but_at place ts ≡ ts
none_taken place [] none = refl
none_taken place (t ∷ ts) none = by_bool (t.place == place)
    (λ here. (let some = rw here at none in absurd (cc)))
    (λ away. rw away (ap (λ (us : List SessionTicket). t ∷ us) (none_taken place ts (rw away at none))))

-- a session that has none there has materialised them
pub nothing_fast : (place : ℕ) (s : SeatState) → own_at place s.me.0.fast ≡ [] → WasMaterialised place s s
nothing_fast place s none = (
  (
    refl,
    record {
      made = [];
      now = λ i. (
        record (all_slow place s.me.0) {
          fast = sym (none_taken place s.me.0.fast none) i;
          slow = ap (λ (ts : List SessionTicket). interleaved s.me.0.slow ts) (sym none) i;
          log = sym (append-nil s.me.0.log) i;
        },
        s.me.1,
      );
      did = refl;
      once = λ some. absurd (some none);
      none = λ _. refl;
    },
  ),
  λ some. absurd (some none),
)

-- ---- the step, and the latch given back

module _ (place found : ℕ) (m m′ m″ m‴ : Mine) (inside : IsInside place m m′) (makes : m″ ≡ materialised place found m′)
    (puts : m‴ ≡ unlatched place [] m″) where
  abbrev in_hand : Mine
  in_hand = inside_at place inside.latches inside.book m (m.0.log ++ inside.made)

  abbrev latches : List LatchRecord
  latches = map (λ (h : LatchRecord). cond (h.place == place) (with_granted (moved place m.0) h) h) inside.latches

  abbrev materialises : StepRecord
  materialises = record { kind = Materialise; deeds = []; word = lock_word place; found = found; held = latches; directory = m.0.directory }

  abbrev gives : StepRecord
  gives = record { kind = PutLatch; deeds = []; word = latch_word place; found = m.0.number; held = latches; directory = m.0.directory }

  there : m″ ≡ materialised place found in_hand
  there = makes ∙ ap (materialised place found) inside.now

  others : filter (λ (h : LatchRecord). not (h.place == place)) latches ≡ m.0.latches
  others = elsewhere-stepped Materialise place found (with_granted (moved place m.0)) in_hand (λ x. refl) ∙ inside.others

  both : ((m.0.log ++ inside.made) ++ materialises ∷ []) ++ gives ∷ [] ≡ (m.0.log ++ inside.made) ++ materialises ∷ gives ∷ []
  both = append_assoc (m.0.log ++ inside.made) (materialises ∷ []) (gives ∷ [])

  longer : ((m.0.log ++ inside.made) ++ materialises ∷ []) ++ gives ∷ [] ≡ m.0.log ++ (inside.made ++ materialises ∷ gives ∷ [])
  longer = both ∙ append_assoc m.0.log inside.made (materialises ∷ gives ∷ [])

  pub slow_then : own_at place m.0.fast ≢ [] → VisitsOnce place m m‴ → Materialises place m m‴
  slow_then some once = record {
    made = inside.made ++ materialises ∷ gives ∷ [];
    now = puts ∙ ap (unlatched place []) there ∙ (λ i. (record (all_slow place m.0) { latches = others i; log = longer i }, m.1));
    did = none_then inside.made (materialises ∷ gives ∷ []) [] inside.did refl;
    once = λ _. once;
    none = λ none. absurd (some none);
  }

  -- the step shows the tickets, as the record of the latch had them then
  pub step_then : (h : LatchRecord) → held_at place m″.0.latches ≡ Some h
      → (e : StepRecord) × IsStepOf m m‴ e × (e.kind ≡ Materialise) × (e.word ≡ lock_word place) × (held_at place e.held ≡ Some h)
  step_then h recorded = (
    materialises,
    (inside.made, gives ∷ [], ap (λ (x : Mine). x.0.log) (puts ∙ ap (unlatched place []) there) ∙ both),
    refl,
    refl,
    ap (λ (x : Mine). held_at place x.0.latches) (sym there) ∙ recorded,
  )

-- ---- one visit

-- the session came to the place and raised the flag SLOW, and gave the latch back
module _ {place : ℕ} {s : SeatState} {q : ℕ} {c : SeatState} (a : Arrives place s q c) (b : SeatState)
    (raises : (met : ℕ) × (b ≡ record c { me = stepped (RaiseFlags true false) q met (raised true false) c.me })) where
  rose : StaysWithin false c.me b.me
  rose =
      let raise : StepRecord = record {
        kind = RaiseFlags true false;
        deeds = [];
        word = lock_word q;
        found = raises.0;
        held = map (λ (h : LatchRecord). cond (h.place == q) (raised true false h) h) c.me.0.latches;
        directory = c.me.0.directory;
      } in
      within_one false c.me b.me raise (ap (λ (x : SeatState). x.me.0.log) raises.1) (ap (λ (x : SeatState). x.me.0.directory) raises.1) (refl, plain false, refl)

  -- with nothing done
  pub refused_once : (w n : SeatState) → w ≡ b → VisitsOnce q w.me n.me → VisitsOnce place s.me n.me
  refused_once w n same visit = went_on a w n (subst (λ (x : SeatState). StaysWithin false c.me x.me) (sym same) rose) visit

  -- or with its tickets made slow
  pub done_once : (book : BookView) (w d n : SeatState) → w ≡ with_book q book b → (met : ℕ) × (d ≡ record w { me = materialised q met w.me })
      → n ≡ record d { me = unlatched q [] d.me } → VisitsOnce place s.me n.me
  done_once book w d n wrote makes puts =
      let materialises : StepRecord = record {
        kind = Materialise;
        deeds = [];
        word = lock_word q;
        found = makes.0;
        held = map (λ (h : LatchRecord). cond (h.place == q) (with_granted (moved q w.me.0) h) h) w.me.0.latches;
        directory = w.me.0.directory;
      } in
      let there = within_then false c.me b.me w.me rose (within_written false b.me w.me q book (mine wrote)) in
      let made = within_one false w.me d.me materialises (ap (λ (x : SeatState). x.me.0.log) makes.1) (ap (λ (x : SeatState). x.me.0.directory) makes.1) (refl, plain false, refl) in
      went_on a d n (within_then false c.me w.me d.me there made) (visit_put false d.me n.me q [] (mine puts))

-- ---- of a session that came to the place, and raised the flag SLOW

-- it waits for nothing, and has these fast tickets there
pub record IsReady (place : ℕ) (s : SeatState) (q : ℕ) (fast : List SessionTicket) (b : SeatState) : Type 0 where
  pub idle : s.me.0.asks ≡ None
  pub these : fast ≡ own_at place s.me.0.fast
  pub at : q ≡ place
  pub is_place : IsPlace b.table q
  pub table : b.table ≡ s.table
  pub found : LatchRecord
  pub fresh : IsFresh place found s.me
  pub holds : Holds q (raised true false found) found.book b.me
  pub inside : IsInside q s.me b.me

pub ready : {place : ℕ} {s : SeatState} {q : ℕ} {c : SeatState} (a : Arrives place s q c) (fast : List SessionTicket) (b : SeatState)
    → (met : ℕ) × (b ≡ record c { me = stepped (RaiseFlags true false) q met (raised true false) c.me })
    → ((h : LatchRecord) (k : BookView) → Holds q h k c.me → Holds q (raised true false h) k b.me)
    → fast ≡ own_at place s.me.0.fast → s.me.0.asks ≡ None → IsReady place s q fast b
ready {place} {s} {q} {c} a fast b raises keeps these idle = record {
  idle = idle;
  these = these;
  at = a.at;
  is_place = place_there q (table_of raises.1) a.is_place;
  table = table_of raises.1 ∙ a.came.0;
  found = a.latch;
  fresh = a.fresh;
  holds = keeps a.latch a.latch.book a.holds;
  inside = inside_stepped (RaiseFlags true false) q raises.0 (raised true false) s.me c.me b.me (λ x. refl) a.came.1 (mine raises.1);
}

module _ {place : ℕ} {s : SeatState} {q : ℕ} {fast : List SessionTicket} {b : SeatState} (r : IsReady place s q fast b) where
  abbrev up : LatchRecord
  up = raised true false r.found

  abbrev book : BookView
  book = r.found.book

  abbrev session : ℕ
  session = s.me.0.number

  who : s.me.0.number ≡ b.me.0.number
  who = sym (ap (λ (x : Mine). x.0.number) r.inside.now)

  none_granted : AreUngranted session (own_at place s.me.0.fast) book
  none_granted = each_map
      (λ (t : SessionTicket). ticket_of session t.number (map (ticket_by session) (own_at place s.me.0.slow)) ≡ None)
      (λ (t : SessionTicket). ticket_of session t.number book.granted ≡ None)
      (λ t none. r.fresh.own t.number (idle_waits_not s.me.0 t.number r.idle) ∙ none)
      (own_at place s.me.0.fast)
      (unmixed_apart session place s.me.0.fast s.me.0.slow r.fresh.unmixed)

  -- the tickets may stand in the book
  pub can_stand : CanStand q fast book b
  can_stand =
      let Beside : ℕ → List SessionTicket → Type 0 = λ n ts. Each (λ (t : SessionTicket). is_compatible (lock_kind book) book.granted n t.mode ≡ true) ts in
      record {
        in_hand = r.holds.carried;
        ungranted = subst (λ (n : ℕ). AreUngranted n fast book) who (subst (λ (ts : List SessionTicket). AreUngranted session ts book) (sym r.these) none_granted);
        beside = subst (λ (n : ℕ). Beside n fast) who (subst (λ (ts : List SessionTicket). Beside session ts) (sym r.these) r.fresh.fast_beside);
      }

  -- ---- if there is no room for them

  module _ {w : SeatState} (same : w ≡ b) where
    pub rests : HasWorked q [] false w
    rests = subst (HasWorked q [] false) (sym same) (record {
      is_place = r.is_place;
      latch = up;
      done = record { holds = r.holds; act = inr refl; may = tt };
      flagged = ((λ some. refl), λ some. r.fresh.exact.1 ∙ some);
      once = record { once = r.fresh.once; single = r.fresh.single };
      freed_is = ap (λ (b : Bool). b || false) r.fresh.unfreed;
    })

    inside_still : AtItsTable s w (IsInside q)
    inside_still = subst (λ (x : SeatState). AtItsTable s x (IsInside q)) (sym same) (r.table, r.inside)

    pub nothing_done : (n : SeatState) → ((x : SeatState) → AtItsTable x w (IsInside q) → AtItsTable x n (Visits q [])) → AtItsTable s n (Visits place [])
    nothing_done n visited = subst (λ (p : ℕ). AtItsTable s n (Visits p [])) r.at (visited s inside_still)

    pub lacks_room : (count : ℕ) (cause : BookError) (n : SeatState) → HasStep w n (DidUnder q [] w)
        → (cause ≡ fault.OutOfMemory) ⊎ ((cause ≡ fault.Full) × (65535 < ticket_count book + count)) → LacksRoomFor count place cause s n
    lacks_room count cause n step (inl memory) = inl memory
    lacks_room count cause n step (inr full) =
        let recorded = ap (λ (x : SeatState). held_at q x.me.0.latches) same ∙ r.holds.recorded in
        let m = met place s q w n r.at inside_still.1 up recorded [] step in
        inr (full.0, (m.0, m.1, record { word = m.2; latch = up; held = m.3; full = full.1 }))

  -- ---- if they stand there

  module _ {w : SeatState} (wrote : w ≡ with_book q (granting_own b.me.0.number fast book) b) where
    abbrev book_then : BookView
    book_then = granting_own b.me.0.number fast book

    holds_then : Holds q up book_then w.me
    holds_then = subst (λ (x : SeatState). Holds q up book_then x.me) (sym wrote) (holds_written q up book book_then b.me r.holds)

    inside_then : IsInside q s.me w.me
    inside_then = inside_written q book_then s.me b.me w.me r.inside (mine wrote)

    pub place_then : IsPlace w.table q
    place_then = place_there q (table_of wrote) r.is_place

    all_moved : moved q w.me.0 ≡ moved place s.me.0
    all_moved = ap (λ (x : Mine). moved q x.0) inside_then.now ∙ ap (λ (p : ℕ). moved p s.me.0) r.at

    all_granted : map (ticket_by b.me.0.number) fast ≡ moved q w.me.0
    all_granted = ap (λ (n : ℕ). map (ticket_by n) fast) (sym who) ∙ ap (map (ticket_by session)) r.these ∙ sym all_moved

    pub may_materialise : (kind : Kind) → KnowsKind s.me.0 place kind → Once (moved place s.me.0) → (weight : ℕ)
        → ((n : ℕ) → weight ≡ weight_of kind (map (ticket_by n) fast)) → MayMaterialise q weight up w.me
    may_materialise kind knows once weight weighs =
        let named = r.fresh.named knows.0 knows.1 knows.2 knows.3 in
        let kind_is : lock_kind book ≡ kind = ap (λ (key : KeyName). kind_of key.namespace) named ∙ knows.4 in
        let known = subst (λ (x : Mine). KnowsPlace x.0 place) (sym inside_then.now) (knows.0, knows.1, knows.2, knows.3) in
        record {
          recorded = holds_then.recorded;
          raised = refl;
          idle = ap (λ (x : Mine). x.0.asks) inside_then.now ∙ r.idle;
          known = subst (KnowsPlace w.me.0) (sym r.at) known;
          once = subst Once (sym all_moved) once;
          weight_is = weighs b.me.0.number ∙ ap (weight_of kind) all_granted ∙ ap (λ (k : Kind). weight_of k (moved q w.me.0)) (sym kind_is);
        }

    -- so they are slow ones
    module _ {d : SeatState} (makes : (met : ℕ) × (d ≡ record w { me = materialised q met w.me }))
        (keeps : (h : LatchRecord) (k : BookView) → Holds q h k w.me → Holds q (with_granted (moved q w.me.0) h) k d.me) where
      abbrev latch_then : LatchRecord
      latch_then = with_granted (moved q w.me.0) up

      holds_last : Holds q latch_then latch_then.book d.me
      holds_last =
          subst (λ (k : BookView). Holds q latch_then k d.me) (ap (λ (ts : List Ticket). granting_all ts book) all_granted)
          (keeps up book_then holds_then)

      pub place_last : IsPlace d.table q
      place_last = place_there q (table_of makes.1) place_then

      pub may_put : 0 < length fast → MayPut q [] d.me
      may_put some =
          let plain = none_obtrusive (lock_kind book) session (own_at place s.me.0.fast) r.fresh.fast_plain in
          let mapped = length_mapped (ticket_by b.me.0.number) fast in
          let longer : length (moved q w.me.0) ≡ length fast = ap length (sym all_granted) ∙ mapped in (
            latch_then,
            record { holds = holds_last; act = inr refl; may = tt },
            tells_more book r.found.slow r.found.obtrusive (moved q w.me.0) r.fresh.exact (omega arith)
                (ap (any_obtrusive (lock_kind book)) all_moved ∙ plain),
            tt,
            r.fresh.unfreed,
          )

      pub was_materialised : (n : SeatState) → n ≡ record d { me = unlatched q [] d.me } → own_at place s.me.0.fast ≢ [] → VisitsOnce place s.me n.me
          → WasMaterialised place s n
      was_materialised n puts some once =
          let some_there = subst (λ (p : ℕ). own_at p s.me.0.fast ≢ []) (sym r.at) some in
          let step = step_then q makes.0 s.me w.me d.me n.me inside_then (mine makes.1) (mine puts) latch_then holds_last.recorded in (
            (
              table_of puts ∙ table_of makes.1 ∙ table_of wrote ∙ r.table,
              subst (λ (p : ℕ). Materialises p s.me n.me) r.at
                  (slow_then q makes.0 s.me w.me d.me n.me inside_then (mine makes.1) (mine puts) some_there (subst (λ (p : ℕ). VisitsOnce p s.me n.me) (sym r.at) once)),
            ),
            λ _. (
              step.0,
              step.1,
              record {
                kind = step.2;
                word = step.3 ∙ ap lock_word r.at;
                latch = latch_then;
                held = subst (λ (p : ℕ). held_at p step.0.held ≡ Some latch_then) r.at step.4;
                before = book.granted;
                granted = ap (λ (ts : List Ticket). book.granted ++ ts) all_moved;
              },
            ),
          )
