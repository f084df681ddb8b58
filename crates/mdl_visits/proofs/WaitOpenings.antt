-- A session opens a wait under the latch, and gives the latch back.
use Rattle.std.proofs.Common.{◌≡◌, ℕ, ◌+◌, ◌==◌, map, Bool, true, false, cond, ◌||◌, List, [], ◌∷◌, ◌++◌, length, Some, refl, sym, ap, ◌∙◌, subst, inr, append_assoc, length-append, arith, nat_lt, lt-ltb}
use Rattle.mdl_steps.specs.declared.slot.Slot.TheVariants as slot
use Rattle.mdl_visits.proofs.FirstLemmas.{AreStepsOf, BookView, Enters, HasEntered, Holds, IsInside, LatchRecord, MayOpen, MayPut, MeetsBlocked, MeetsOpening, Mine, Mode, OpenWait, Opens, PutLatch, ReadWord, SeatBeginsWait, SeatState, StepRecord, TableId, TellsLists, Ticket, VisitsOnce, any_obtrusive, asked_ticket, elsewhere-stepped, enqueueing, held_at, held_at-changed, holds_written, idle_state, is_obtrusive, latch_word, list_any-append, lock_kind, lock_word, mine, none_then, noting, opened, plain, raised, table_of, unlatched, view_awaiting, visit_after, visit_put, wait_in, wait_word, with_waiting, within_one, within_then, within_written, written}
use Rattle.mdl_visits.proofs.Trying.{asks_here, entered_holds, entered_idle, entered_known, entered_latch, is_mode_here, told_here}

-- ---- flags

some_waiter : (t : Ticket) (granted waiting : List Ticket) → true ≡ nat_lt 0 (length granted + length (waiting ++ t ∷ []))
some_waiter t granted waiting = let longer = length-append waiting (t ∷ []) in sym (lt-ltb 0 _ (omega (arith, longer)))

joined : (asks granted waiting : Bool) → (asks || (granted || waiting)) ≡ (granted || (waiting || (asks || false)))
joined true true waiting = refl
joined true false true = refl
joined true false false = refl
joined false true waiting = refl
joined false false true = refl
joined false false false = refl

-- the flag OBTRUSIVE was up for the lists, or was raised for the ticket that waits
waits_exactly : (t : Ticket) (book : BookView) (slow obtrusive asks : Bool) → TellsLists book slow obtrusive → asks ≡ is_obtrusive (lock_kind book) t.mode
    → TellsLists (enqueueing t book) true (asks || obtrusive)
waits_exactly t book slow obtrusive asks exact is = (
  some_waiter t book.granted book.waiting,
  ap (λ (b : Bool). asks || b) exact.1
      ∙ joined asks (any_obtrusive (lock_kind book) book.granted) (any_obtrusive (lock_kind book) book.waiting)
      ∙ ap (λ (b : Bool). any_obtrusive (lock_kind book) book.granted || (any_obtrusive (lock_kind book) book.waiting || (b || false))) is
      ∙ ap (λ (b : Bool). any_obtrusive (lock_kind book) book.granted || b) (sym (list_any-append (λ (x : Ticket). is_obtrusive (lock_kind book) x.mode) book.waiting (t ∷ []))),
)

-- ---- as the place was entered

-- under a latch with its book in hand, the session may open a wait for a mode, and the flags tell the lists exactly once it has
record MayQueue (place : ℕ) (mode : Mode) (h : LatchRecord) (m : Mine) : Type 0 where
  pub holds : Holds place h h.book m
  pub may : MayOpen place mode h m
  pub exact : TellsLists (enqueueing (asked_ticket mode m.0) h.book) h.slow h.obtrusive
  pub unfreed : h.freed ≡ false

may_queue : {place q word : ℕ} {mode : Mode} {s c : SeatState} (has : HasEntered place q word mode false s c) → c.me.0.fast ≡ [] → MayQueue q mode (entered_latch has) c.me
may_queue {word = word} {mode = mode} {c = c} has unfast =
    let found = has.entered.1.found in
    let holds = entered_holds has in
    let exact = waits_exactly (asked_ticket mode c.me.0) found.book found.slow found.obtrusive has.obtrusive has.entered.1.fresh.exact (asks_here has) in
    record {
      holds = holds;
      may = record {
        recorded = holds.recorded;
        idle = entered_idle has;
        unfast = unfast;
        known = entered_known has;
        mode_is = is_mode_here has;
        flagged = ((λ some. exact.0 ∙ some), λ some. exact.1 ∙ some);
        word = word;
        read = λ up. rw up (refl, refl);
        blocked = told_here has;
      };
      exact = exact;
      unfreed = has.entered.1.fresh.unfreed;
    }

-- ---- the steps

module _ (place : ℕ) (mode : Mode) (h : LatchRecord) (m m₁ : Mine) (may : MayQueue place mode h m) (wrote : m₁ ≡ written place (enqueueing (asked_ticket mode m.0) h.book) m) where
  holds_wish : Holds place h (enqueueing (asked_ticket mode m.0) h.book) m₁
  holds_wish = subst (Holds place h (enqueueing (asked_ticket mode m.0) h.book)) (sym wrote) (holds_written place h h.book (enqueueing (asked_ticket mode m.0) h.book) m may.holds)

  may_open : MayOpen place mode h m₁
  may_open =
      let o = may.may in
      subst (MayOpen place mode h) (sym wrote) (record { recorded = o.recorded; idle = o.idle; unfast = o.unfast; known = o.known; mode_is = o.mode_is; flagged = o.flagged; word = o.word; read = o.read; blocked = o.blocked })

  -- the latch may be given back
  may_put : (m₂ : Mine) → Holds place (with_waiting (asked_ticket mode m₁.0) h) (enqueueing (asked_ticket mode m.0) h.book) m₂ → MayPut place [] m₂
  may_put m₂ holds =
      let same : asked_ticket mode m₁.0 ≡ asked_ticket mode m.0 = ap (λ (x : Mine). asked_ticket mode x.0) wrote in (
        with_waiting (asked_ticket mode m.0) h,
        record {
          holds = subst (λ (t : Ticket). Holds place (with_waiting t h) (enqueueing (asked_ticket mode m.0) h.book) m₂) same holds;
          act = inr refl;
          may = tt;
        },
        may.exact,
        tt,
        may.unfreed,
      )

-- ---- the visit

module _ (slots place : ℕ) (mode : Mode) (m m′ m″ : Mine) (inside : IsInside place m m′) (made : m″ ≡ unlatched place [] (opened slots place mode m′)) where
  came : Mine
  came = (record m.0 { latches = inside.latches; log = m.0.log ++ inside.made }, (place, slot.Place inside.book) ∷ m.1)

  held : List LatchRecord
  held = map (λ (h : LatchRecord). cond (h.place == place) (with_waiting (asked_ticket mode m.0) h) h) inside.latches

  opens_step : StepRecord
  opens_step = record { kind = OpenWait; deeds = []; word = wait_word slots m.0.number; found = wait_in m.0.waits idle_state; held = held; directory = m.0.directory }

  puts_step : StepRecord
  puts_step = record { kind = PutLatch; deeds = []; word = latch_word place; found = m.0.number; held = held; directory = m.0.directory }

  log : ((m.0.log ++ inside.made) ++ opens_step ∷ []) ++ puts_step ∷ [] ≡ m.0.log ++ (inside.made ++ opens_step ∷ puts_step ∷ [])
  log = append_assoc (m.0.log ++ inside.made) (opens_step ∷ []) (puts_step ∷ []) ∙ append_assoc m.0.log inside.made (opens_step ∷ puts_step ∷ [])

  opens : Opens place mode m m″
  unfolding came held opens_step puts_step
  opens =
      let others = elsewhere-stepped OpenWait place 0 (with_waiting (asked_ticket mode m.0)) came (λ x. refl) ∙ inside.others in
      let is_log = log in record {
        made = inside.made ++ opens_step ∷ puts_step ∷ [];
        now = made ∙ ap (λ (x : Mine). unlatched place [] (opened slots place mode x)) inside.now
            ∙ (λ i. (record (view_awaiting place mode m.0) { latches = others i; log = is_log i }, m.1));
        did = none_then inside.made (opens_step ∷ puts_step ∷ []) [] inside.did refl;
      }

  -- the two steps of it, by what the session had before
  abbrev opens_there : StepRecord
  opens_there = record { kind = OpenWait; deeds = []; word = wait_word slots m′.0.number; found = wait_in m′.0.waits idle_state; held = (opened slots place mode m′).0.latches; directory = m′.0.directory }

  abbrev puts_there : StepRecord
  puts_there = record { kind = PutLatch; deeds = []; word = latch_word place; found = m′.0.number; held = (opened slots place mode m′).0.latches; directory = m′.0.directory }

  log_there : m″.0.log ≡ m′.0.log ++ opens_there ∷ puts_there ∷ []
  log_there = ap (λ (x : Mine). x.0.log) made ∙ append_assoc m′.0.log (opens_there ∷ []) (puts_there ∷ [])

  -- the first opens the wait
  opening : (h : LatchRecord) → held_at place m′.0.latches ≡ Some h → MeetsOpening slots place m.0.number m.0.waits m.0.next mode opens_there
  opening h recorded = record {
    kind = refl;
    word = ap (λ (x : Mine). wait_word slots x.0.number) inside.now;
    idle = ap (λ (x : Mine). wait_in x.0.waits idle_state) inside.now;
    latch = with_waiting (asked_ticket mode m′.0) h;
    held = held_at-changed place (with_waiting (asked_ticket mode m′.0)) (λ x. refl) m′.0.latches h recorded;
    before = h.book.waiting;
    last = ap (λ (x : Mine). h.book.waiting ++ asked_ticket mode x.0 ∷ []) inside.now;
  }

  -- right after the one that read the word
  blocked_then : (word : ℕ) (asks : Bool) (entered : Enters place asks word mode false m m′)
      → (e f : StepRecord) × AreStepsOf m m″ e f × MeetsBlocked place m.0.number mode e × MeetsOpening slots place m.0.number m.0.waits m.0.next mode f
  blocked_then word asks entered =
      let read : StepRecord = record { kind = ReadWord; deeds = []; word = lock_word place; found = word; held = m′.0.latches; directory = m′.0.directory } in (
        read,
        opens_there,
        (
          entered.read.0,
          puts_there ∷ [],
          log_there ∙ ap (λ (all : List StepRecord). all ++ opens_there ∷ puts_there ∷ []) entered.read.1 ∙ append_assoc (m.0.log ++ entered.read.0) (read ∷ []) (opens_there ∷ puts_there ∷ []),
        ),
        record { kind = refl; word = refl; latch = noting word (raised true asks entered.found); held = entered.holds.recorded; blocked = entered.told },
        opening (noting word (raised true asks entered.found)) entered.holds.recorded,
      )

-- ---- the call

-- a ticket was written, the wait opened and the latch given back
pub visit_opened : (q : ℕ) (mode : Mode) (book : BookView) (c w v n : SeatState) → w ≡ record c { me = written q book c.me }
    → v ≡ record w { me = opened w.table.slots q mode w.me } → n ≡ record v { me = unlatched q [] v.me } → VisitsOnce q c.me n.me
visit_opened q mode book c w v n wrote opens_wait puts =
    let e : StepRecord = record {
      kind = OpenWait;
      deeds = [];
      word = wait_word w.table.slots w.me.0.number;
      found = wait_in w.me.0.waits idle_state;
      held = (opened w.table.slots q mode w.me).0.latches;
      directory = w.me.0.directory;
    } in
    let opening = within_one false w.me v.me e (ap (λ (x : SeatState). x.me.0.log) opens_wait) (ap (λ (x : SeatState). x.me.0.directory) opens_wait) (refl, plain false, refl) in
    visit_after false c.me v.me n.me (within_then false c.me w.me v.me (within_written false c.me w.me q book (mine wrote)) opening) q
    (visit_put false v.me n.me q [] (mine puts))

module _ {place q word : ℕ} {mode : Mode} {s c : SeatState} (has : HasEntered place q word mode false s c) (number : ℕ) (next : number ≡ c.me.0.next) (w : SeatState)
    (wrote : w ≡ record c { me = written q (enqueueing (record { session = c.me.0.number; number = number; mode = mode }) has.entered.1.found.book) c.me }) where
  abbrev latch : LatchRecord
  latch = entered_latch has

  wished : w.me ≡ written q (enqueueing (asked_ticket mode c.me.0) latch.book) c.me
  wished = subst (λ (n : ℕ). w.me ≡ written q (enqueueing (record { session = c.me.0.number; number = n; mode = mode }) latch.book) c.me) next (mine wrote)

  pub wish_opens : c.me.0.fast ≡ [] → MayOpen q mode latch w.me
  wish_opens unfast = may_open q mode latch c.me w.me (may_queue has unfast) wished

  pub wish_puts : c.me.0.fast ≡ [] → (m : Mine) → ((h : LatchRecord) (book : BookView) → Holds q h book w.me → Holds q (with_waiting (asked_ticket mode w.me.0) h) book m) → MayPut q [] m
  wish_puts unfast m keeps =
      let may = may_queue has unfast in
      may_put q mode latch c.me w.me may wished m (keeps latch _ (holds_wish q mode latch c.me w.me may wished))

  pub begins : (v n : SeatState) → v ≡ record w { me = opened w.table.slots q mode w.me } → n ≡ record v { me = unlatched q [] v.me } → SeatBeginsWait place mode number s n
  begins v n opens_wait puts =
      let slots = s.table.slots in
      let there = table_of wrote ∙ has.entered.0 in
      let made = mine puts ∙ ap (λ (x : SeatState). unlatched q [] x.me) opens_wait
      ∙ ap (λ (t : TableId). unlatched q [] (opened t.slots q mode w.me)) there
      ∙ ap (λ (x : Mine). unlatched q [] (opened slots q mode x)) wished in
      let here : n.me ≡ unlatched place [] (opened slots place mode c.me) = subst (λ (p : ℕ). n.me ≡ unlatched p [] (opened slots p mode c.me)) has.at made in
      let inside = has.entered.1.inside in
      let steps = blocked_then slots place mode s.me c.me n.me inside here word has.obtrusive has.entered.1 in
      let asked = next ∙ ap (λ (x : Mine). x.0.next) inside.now in (
        (table_of puts ∙ table_of opens_wait ∙ there, opens slots place mode s.me c.me n.me inside here),
        (steps.0, steps.1, steps.2, steps.3, subst (λ (k : ℕ). MeetsOpening slots place s.me.0.number s.me.0.waits k mode steps.1) (sym asked) steps.4),
      )
