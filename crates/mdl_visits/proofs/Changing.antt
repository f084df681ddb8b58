-- What stands under a key is changed in hand, and then its version is written.
use Rattle.std.proofs.Common.{◌≡◌, ℕ, ◌+◌, ◌-◌, ◌==◌, map, true, false, List, [], ◌∷◌, ◌++◌, Option, Some, None, Result, Ok, Err, refl, sym, ap, ◌∙◌, subst, inl, inr, ⊎_elim, append_assoc, arith, ◌⊎◌, is_some, eq-eqb}
use Rattle.mdl_steps.specs.declared.slot.Slot.TheVariants as slot
use Rattle.mdl_visits.proofs.FirstLemmas.{AreStepsOf, Arrives, AtItsTable, BookView, Change, ChangeError, Drop, Follows, HasExclusive, HasExclusiveAt, HasRedefined, Holds, IsChangeRefused, IsFresh, IsInside, IsNamed, IsRising, LatchRecord, Learns, MayPut, MeetsChangeFault, Mine, NotWaited, OutOfMemory, PutLatch, Redefines, Refuses, RefusesJust, SeatState, SessionTicket, StepRecord, TakeLatch, TakesLatch, VersionedDefinition, VisitsOnce, WriteVersion, and_false, and_from, and_made, as_reads, by_bool, elsewhere-redefined, find-contains, has_number, held_at-changed, held_at-first, holds_there, holds_written, is_ask_apart, is_ticket, knowing_read, latch_word, latched, mine, no_steps, none_then, not_waited, numbered, own_at, plain, redefined, redefined_and_put, redefining, restood, standing_after, standing_fault, table_of, ticket_by, ticket_of, unlatched, version_word, visit_put, within_one, within_then, within_written, written}
use Rattle.mdl_visits.proofs.Arriving.{went_on}
use Rattle.mdl_visits.proofs.Gathering.{gives_back}
use Rattle.mdl_visits.proofs.Reading.{follows}

-- ---- the session's ticket

-- the ticket of a number is the one that a book has of it
pub own_is : (who place number : ℕ) (t : SessionTicket) (slow : List SessionTicket) → numbered number slow ≡ Some t → t.place ≡ place
    → ticket_of who number (map (ticket_by who) (own_at place slow)) ≡ Some (ticket_by who t)
own_is who place number t [] e here = absurd (cc)
own_is who place number t (x ∷ xs) e here =
    by_bool (x.number == number)
    (λ hit.
    let is : x ≡ t = let first = rw hit at e in cc in
    let at : (x.place == place) ≡ true = eq-eqb x.place place (ap (λ (o : SessionTicket). o.place) is ∙ here) in
    let test : is_ticket who number (ticket_by who x) ≡ true = and_from _ _ (eq-eqb who who refl) hit in
    rw (at, test) (ap (λ (o : SessionTicket). Some (ticket_by who o)) is))
    (λ miss.
    let later = own_is who place number t xs (rw miss at e) here in
    let test : is_ticket who number (ticket_by who x) ≡ false = rw miss (and_false (who == who)) in
    by_bool (x.place == place) (λ at. rw (at, test) later) (λ elsewhere. rw elsewhere later))

-- a session that has an exclusive ticket at a place has it in the book there
pub exclusive_there : (place : ℕ) (h : LatchRecord) (m : Mine) → IsFresh place h m → is_ask_apart m.0.next m.0.slow m.0.asks ≡ true → HasExclusiveAt place m.0.slow → HasExclusive h m
exclusive_there place h m fresh apart held =
    let number = held.0 in
    let t = held.1 in
    let who = m.0.number in
    let unwaited = not_waited m.0 number (ap is_some held.2) apart in
    let unwaited_so = subst (λ (n : ℕ). NotWaited m.0 n) (sym (has_number number t m.0.slow held.2)) unwaited in
    let there = fresh.own number unwaited ∙ own_is who place number t m.0.slow held.2 held.3 in
    (ticket_by who t, find-contains (is_ticket who number) h.book.granted (ticket_by who t) there, refl, held.4, unwaited_so)

-- ---- a visit that changes

module _ (place : ℕ) (standing : VersionedDefinition) (m m′ m″ : Mine) (put : m″ ≡ redefined_and_put place standing m′) where
  -- the step that wrote the version came right after the one that took the latch
  steps : (h : LatchRecord) (made : List StepRecord) → m′ ≡ latched place h (and_made made m)
      → AreStepsOf m m″ (record { kind = TakeLatch; deeds = []; word = latch_word place; found = 0; held = h ∷ m.0.latches; directory = m.0.directory })
      (record { kind = WriteVersion; deeds = []; word = version_word place; found = standing.version - 1; held = (redefined place standing m′).0.latches; directory = m′.0.directory })
  steps h made took =
      let takes : StepRecord = record { kind = TakeLatch; deeds = []; word = latch_word place; found = 0; held = h ∷ m.0.latches; directory = m.0.directory } in
      let writes : StepRecord = record { kind = WriteVersion; deeds = []; word = version_word place; found = standing.version - 1; held = (redefined place standing m′).0.latches; directory = m′.0.directory } in
      let puts : StepRecord = record { kind = PutLatch; deeds = []; word = latch_word place; found = m′.0.number; held = (redefined place standing m′).0.latches; directory = m′.0.directory } in (
        made,
        puts ∷ [],
        ap (λ (x : Mine). x.0.log) put
            ∙ ap (λ (x : Mine). (x.0.log ++ writes ∷ []) ++ puts ∷ []) took
            ∙ append_assoc ((m.0.log ++ made) ++ takes ∷ []) (writes ∷ []) (puts ∷ [])
            ∙ append_assoc (m.0.log ++ made) (takes ∷ []) (writes ∷ puts ∷ []),
      )

  learns : IsInside place m m′ → Learns place standing m m″
  learns inside =
      let came : Mine = (record m.0 { latches = inside.latches; log = m.0.log ++ inside.made }, (place, slot.Place inside.book) ∷ m.1) in
      let writes : StepRecord = record { kind = WriteVersion; deeds = []; word = version_word place; found = standing.version - 1; held = (redefined place standing came).0.latches; directory = came.0.directory } in
      let puts : StepRecord = record { kind = PutLatch; deeds = []; word = latch_word place; found = m.0.number; held = (redefined place standing came).0.latches; directory = came.0.directory } in
      let others = elsewhere-redefined place standing came ∙ inside.others in
      let log = append_assoc (m.0.log ++ inside.made) (writes ∷ []) (puts ∷ []) ∙ append_assoc m.0.log inside.made (writes ∷ puts ∷ []) in (
        inside.made ++ writes ∷ puts ∷ [],
        put ∙ ap (redefined_and_put place standing) inside.now ∙ (λ i. (record (knowing_read place standing m.0) { latches = others i; log = log i }, m.1)),
        none_then inside.made (writes ∷ puts ∷ []) [] inside.did refl,
      )

-- where nothing is told but memory, there is no fault
pub no_fault : {T : Type 0} (fault : Option ChangeError) (done : T) → Refuses fault OutOfMemory (Ok done) → fault ≡ None
no_fault None done told = refl
no_fault (Some why) done told = absurd (cc)

-- a change that was made told its fault, or memory ran out
refusal : (change : Change) (fault : Option ChangeError) (why : ChangeError) → Refuses {T = ℕ} fault OutOfMemory (Err why) → (change ≡ Drop → RefusesJust {T = ℕ} fault (Err why))
    → (fault ≡ Some why) ⊎ ((why ≡ OutOfMemory) × (change ≡ Drop → ⊥))
refusal change None why memory drop = inr (memory, λ is. let told = drop is in absurd (cc))
refusal change (Some fault) why told drop = inl (ap Some (sym (same told)))
  where
    same : ◌≡◌ {A = Result ℕ ChangeError} (Err why) (Err fault) → why ≡ fault
    same e = cc

-- ---- the whole call

-- the definition was changed in hand, its version written and the latch given back
pub went_changed : {place : ℕ} {s : SeatState} {q : ℕ} {c : SeatState} (a : Arrives place s q c) (book : BookView) (standing : VersionedDefinition) (w v n : SeatState)
    → w ≡ record c { me = written q book c.me } → v ≡ record w { me = redefined q standing w.me } → n ≡ record v { me = unlatched q [] v.me } → VisitsOnce place s.me n.me
went_changed {place} {s} {q} {c} a book standing w v n wrote published put =
    let writes : StepRecord = record {
      kind = WriteVersion;
      deeds = [];
      word = version_word q;
      found = standing.version - 1;
      held = (redefined q standing w.me).0.latches;
      directory = w.me.0.directory;
    } in
    let newer = within_one false w.me v.me writes (ap (λ (x : SeatState). x.me.0.log) published) (ap (λ (x : SeatState). x.me.0.directory) published) (refl, plain false, refl) in
    went_on a v n (within_then false c.me w.me v.me (within_written false c.me w.me q book (mine wrote)) newer) (visit_put false v.me n.me q [] (mine put))

module _ (place q : ℕ) (change : Change) (a b w : SeatState) (at : q ≡ place) (taken : TakesLatch place a.me b.me) where
  abbrev book : BookView
  book = taken.0.book

  abbrev after : VersionedDefinition
  after = standing_after change book.standing

  abbrev fault : Option ChangeError
  fault = standing_fault book.key.namespace change book.standing

  -- the change was made in hand
  module _ (table : b.table ≡ a.table) (wrote : w ≡ record b { me = written q (redefining change book) b.me }) (allowed : fault ≡ None)
      (apart : is_ask_apart a.me.0.next a.me.0.slow a.me.0.asks ≡ true) (exclusive : HasExclusiveAt place a.me.0.slow) where
    pub has_redefined : HasRedefined q taken.0 change w.me
    has_redefined = subst (HasRedefined q taken.0 change) (sym (mine wrote)) (record {
      holds = holds_written q taken.0 book (redefining change book) b.me (holds_there place q a b b at taken table refl);
      allowed = allowed;
      exclusive = subst (HasExclusive taken.0) (sym taken.3.1) (exclusive_there place taken.0 a.me taken.1 apart exclusive);
    })

    pub may_put_changed : (v : SeatState) → ((h : LatchRecord) (some : BookView) → Holds q h some w.me → Holds q (restood some.standing h) some v.me) → MayPut q [] v.me
    may_put_changed v keeps = (
      restood after taken.0,
      record { holds = keeps taken.0 (redefining change book) has_redefined.holds; act = inr refl; may = tt },
      taken.1.exact,
      tt,
      taken.1.unfreed,
    )

    -- its version was written, and the latch was given back
    pub changed : (v e : SeatState) → v ≡ record w { me = redefined q after w.me } → e ≡ record v { me = unlatched q [] v.me } → IsInside place a.me b.me → (version : ℕ) → version ≡ after.version
        → AtItsTable a e (Redefines place change version) × ((standing : VersionedDefinition) × (standing.version ≡ version) × Learns place standing a.me e.me)
    changed v e published put inside version newer =
        let went : e.me ≡ redefined_and_put place after b.me =
        mine put ∙ ap (unlatched q []) (mine published ∙ ap (redefined q after) (mine wrote)) ∙ ap (λ (p : ℕ). redefined_and_put p after b.me) at in
        let knows = learns place after a.me b.me e.me went inside in (
          (
            table_of put ∙ table_of published ∙ table_of wrote ∙ table,
            record {
              take = record { kind = TakeLatch; deeds = []; word = latch_word place; found = 0; held = taken.0 ∷ a.me.0.latches; directory = a.me.0.directory };
              write = record { kind = WriteVersion; deeds = []; word = version_word place; found = after.version - 1; held = (redefined place after b.me).0.latches; directory = b.me.0.directory };
              steps = steps place after a.me b.me e.me went taken.0 taken.3.0 taken.3.1;
              meets = record {
                takes = refl;
                writes = refl;
                latched = refl;
                free = refl;
                latch = taken.0;
                held = held_at-first place taken.0 a.me.0.latches taken.1.here;
                allowed = allowed;
                newer = newer;
                written = refl;
                older = let before : ℕ = book.standing.version in let less : (before + 1) - 1 ≡ before = omega arith in less;
                stands = held_at-changed place (restood after) (λ x. refl) b.me.0.latches taken.0 taken.2.recorded;
              };
              follows = follows taken.1;
              named = taken.1.named;
              learnt = ap (λ (x : Mine). x.0.reads) knows.1;
            },
          ),
          (after, sym newer, knows),
        )

  -- it was refused, and the latch was given back
  pub refused : (e : SeatState) (table : b.table ≡ a.table) → w ≡ b → e ≡ record w { me = unlatched q [] w.me } → IsRising place a.me → (why : ChangeError) → Refuses {T = ℕ} fault OutOfMemory (Err why)
      → (change ≡ Drop → RefusesJust {T = ℕ} fault (Err why)) → IsChangeRefused place a.me.0.number change why a.me e.me
  refused e table same put rising why told drop = ⊎_elim
      (λ is.
      let shows = gives_back place q a b w at taken table same w (as_reads w w (refl, no_steps w.me)) e put rising
      (λ x. (met : MeetsChangeFault place a.me.0.number change why x) × Follows place met.latch.book.standing a.me × IsNamed place met.latch.book.key a.me) (
        record { kind = refl; word = refl; freed = refl; latch = taken.0; held = held_at-first place taken.0 a.me.0.latches taken.1.here; fault = is },
        follows taken.1,
        taken.1.named,
      ) in
      inl (shows.0, shows.1, shows.2.0, shows.2.1, shows.2.2))
      (λ memory. inr memory) (refusal change fault why told drop)
