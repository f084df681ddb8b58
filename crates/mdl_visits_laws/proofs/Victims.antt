-- The victim of a search falls in a standing deadlock.
use Rattle.std.proofs.Common.{◌≡◌, ℕ, ◌+◌, ◌*◌, ◌%◌, ◌<◌, ◌≤◌, ◌==◌, ◌&&◌, not, Bool, true, false, inl, inr, List, [], ◌∷◌, length, get_or, Some, None, refl, sym, ap, ◌∙◌, subst, arith, All, Contains, IsTrue, MatchOption, Option, eqb-true}
use Rattle.mdl_graph.proofs.DeadlockLemmas.{deadlock_waits}
use Rattle.mdl_graph.specs.Graphs.{deadlock_in}
use Rattle.mdl_graph.specs.Victims.{victim_of}
use Rattle.mdl_steps_laws.proofs.Sights.{IsAmong, WasMetSettled, tied}
use Rattle.mdl_steps_laws.proofs.Wells.{reached_tables_are_well_numbered, rule_of}
use Rattle.mdl_system.proofs.CycleLemmas.{some-of_books}
use Rattle.mdl_system.specs.Systems.{Victim}
use Rattle.mdl_visits.specs.declared.audited.Audited.{Audited}
use Rattle.mdl_visits_laws.proofs.Common.{All-contains, AreRecorded, BookView, Contains-cons_cases, Contains-here, Contains-later, Contains-map_from, Contains-none, Definition, HasReadAll, IsCycle, IsDeadlock, IsStandingDeadlock, IsStandingVictimOf, IsTold, IsWaiting, KeyName, Keys, Killed, LatchRecord, Member, Reached, Slot, StandsBehind, StandsWith, State, System, TimedOut, Unsettled, VictimsFallInStandingDeadlocks, View, WaitRead, WaitState, Waiter, WaitsFor, WasReadBefore, Wishes, and_parts, any-found, books_of, code_of, get_elem?, held_at, is_chosen_before, nat_told, option_map, sessions_of, settled_by, settling_of, some, wait_word, waits, waits_for}
use Rattle.mdl_visits_laws.proofs.Settlings.{settling_shows}
use Rattle.mdl_visits_laws.proofs.Standings.{IsOfLatch, deadlock_open, one_weight, stands_behind, stands_with, victim_open}

-- ---- the books

-- each book is that of a place
book_recorded : (place : ℕ) (latches : List LatchRecord) (audited : List Audited) → AreRecorded place latches audited → (b : BookView) → Contains (books_of audited) b
    → (p : ℕ) × (place ≤ p) × (p < place + length audited) × ((h : LatchRecord) × (held_at p latches ≡ Some h) × (b ≡ h.book))
book_recorded place latches [] recorded b among = absurd (Contains-none b among)
book_recorded place latches (x ∷ xs) (first, rest) b among = elim (Contains-cons_cases x.book (books_of xs) b among) [
  | inl later ↦ (let q = book_recorded (place + 1) latches xs rest b later in let least = q.1 in let most = q.2 in (q.0, omega arith, omega arith, q.3))
  | inr here ↦ (place, omega arith, omega arith, (first.1.0, first.1.1, here ∙ first.1.2))
]

-- and each place has its book among them
place_recorded : (place : ℕ) (latches : List LatchRecord) (audited : List Audited) → AreRecorded place latches audited → (p : ℕ) → place ≤ p → p < place + length audited
    → IsAmong latches (books_of audited) p
place_recorded place latches [] recorded p least most = absurd (omega arith)
place_recorded place latches (x ∷ xs) (first, rest) p least most = elim (nat_told p place) [
  | inl here ↦ (
    first.1.0,
    ap (λ (n : ℕ). held_at n latches) here ∙ first.1.1,
    subst (λ (b : BookView). Contains (books_of (x ∷ xs)) b) first.1.2 (Contains-here x.book (books_of xs)),
  )
  | inr else ↦ (let q = place_recorded (place + 1) latches xs rest p (omega arith) (omega arith) in (q.0, q.1, Contains-later x.book (books_of xs) q.0.book q.2))
]

-- ---- the words

-- a session that is settled by the words was met settled
met_settled : (slots : ℕ) (v : View) (words : List WaitRead) → All (WasReadBefore slots v) words → (session : ℕ) → settled_by words session ≡ true → WasMetSettled slots v session
met_settled slots v words read session settled =
    let found = any-found (λ (r : WaitRead). r.session == session && not (r.word.0 % 8 == 1)) words settled in
    let parts = and_parts (found.0.session == session) (not (found.0.word.0 % 8 == 1)) found.2 in
    let was = All-contains (WasReadBefore slots v) words found.0 read found.1 in (
      was.0,
      was.1,
      inl was.2,
      was.3 ∙ ap (wait_word slots) (eqb-true found.0.session session parts.0),
      was.5,
      λ is. false_true (sym (ap (λ (n : ℕ). not (n == 1)) (ap (λ (n : ℕ). n % 8) (sym was.4) ∙ is)) ∙ parts.1),
    )
  where
    false_true : ◌≡◌ {A = Bool} false true → ⊥
    false_true e = cc

-- an unsettled wait, by its word
by_word : (state : WaitState) (number wait : ℕ) → 8 * number + 1 ≡ 8 * wait + code_of state → (state ≡ Unsettled) × (wait ≡ number)
by_word Unsettled number wait same = (refl, omega arith)
by_word Victim number wait same = absurd (omega arith)
by_word TimedOut number wait same = absurd (omega arith)
by_word Killed number wait same = absurd (omega arith)

-- ---- the deadlock

-- the members that were found, of which this is the victim
members_of : (victim : ℕ) (o : Option (List Member)) → option_map victim_of o ≡ Some victim → (members : List Member) × (o ≡ Some members) × (victim_of members ≡ victim)
members_of victim None e = absurd (cc)
members_of victim (Some members) e = (let same : victim_of members ≡ victim = cc in (members, refl, same))

module _ (s : State Slot View) (reached : Reached s) (seat : ℕ) (v : View) (there : get_elem? s.views seat ≡ some v) (a : System Definition) (told : IsTold s a)
    (slots : ℕ) (size : slots ≡ length s.homes) (k : Keys) (fit : length k.keys < slots) (audited : List Audited) (all : length audited ≡ length k.keys)
    (recorded : AreRecorded 1 v.latches audited) (words : List WaitRead) (who : ℕ) (members : List Member) (found : deadlock_in (settled_by words) (books_of audited) who ≡ Some members) where
  of_latch : (b : BookView) → Contains (books_of audited) b → IsOfLatch s v b
  of_latch b among =
      let q = book_recorded 1 v.latches audited recorded b among in
      let least = q.1 in
      let most = q.2 in (
        q.0,
        (omega arith, omega (arith, least, most, all, fit, size)),
        q.3,
      )

  behind : (x y : ℕ) → waits_for (settled_by words) (books_of audited) x y ≡ true → StandsBehind a x y
  behind = stands_behind s (rule_of s reached) seat v there a told (settled_by words) (books_of audited) of_latch

  -- by a relation of which the books show all
  by_books : (Waits : ℕ → ℕ → Type 0) → ((x y z : ℕ) → Waits x y → Waits y z → waits_for (settled_by words) (books_of audited) x y ≡ true)
      → IsStandingDeadlock a who (sessions_of members) × ((other : List ℕ) → IsCycle Waits who other → IsTrue (is_chosen_before (sessions_of members) other))
      × IsStandingVictimOf a (sessions_of members) (victim_of members)
  by_books Waits passes =
      some-of_books (settled_by words) (books_of audited) who (StandsBehind a) Waits behind passes (StandsWith a)
      (one_weight a (reached_tables_are_well_numbered s reached a told))
      (stands_with s (rule_of s reached) seat v there a told (settled_by words) (books_of audited) of_latch) members found

  pub stands : IsStandingDeadlock a who (sessions_of members) × IsStandingVictimOf a (sessions_of members) (victim_of members)
  stands = let h = by_books (λ x y. ⊥) (λ x y z tie on. absurd tie) in (h.0, h.2)

  pub met_open : (session : ℕ) → Contains (sessions_of members) session → settled_by words session ≡ false
  met_open session among =
      let waiting : All (IsWaiting (settled_by words) (books_of audited)) members =
      subst (λ o. MatchOption o (Unit {0}) (All (IsWaiting (settled_by words) (books_of audited)))) found (deadlock_waits (settled_by words) (books_of audited) who) in
      let from = Contains-map_from (λ (m : Member). m.session) members session among in
      ap (settled_by words) from.2 ∙ (All-contains (IsWaiting (settled_by words) (books_of audited)) members from.0 waiting from.1).0

  pub chosen : HasReadAll slots k words v → (other : List ℕ) → IsDeadlock a who other → IsTrue (is_chosen_before (sessions_of members) other)
  chosen (directory, read) =
      let copied : (p : ℕ) → 0 < p → p ≤ length k.keys → IsAmong v.latches (books_of audited) p = λ p first last. place_recorded 1 v.latches audited recorded p (omega arith) (omega arith) in
      let met : (session : ℕ) → settled_by words session ≡ true → WasMetSettled (length s.homes) v session = λ session settled.
      subst (λ (n : ℕ). WasMetSettled n v session) size (met_settled slots v words read session settled) in
      (by_books (WaitsFor a) (tied s reached seat v there k directory (books_of audited) copied (settled_by words) met a told)).1

  -- the victim's wait, whose word is that of an unsettled one
  pub victim_waits : (victim number : ℕ) → IsStandingVictimOf a (sessions_of members) victim → waits s victim ≡ 8 * number + 1
      → (key : KeyName) × (wish : Waiter) × Wishes a victim key wish × (wish.wait ≡ number)
  victim_waits victim number (among, (weight, (key, wish, stands_there, weighs), least)) word =
      let same : 8 * number + 1 ≡ 8 * wish.wait + code_of wish.state = sym word ∙ ap (waits s) (sym stands_there.1) ∙ told.3.waiting key wish stands_there.0 in
      let is = by_word wish.state number wish.wait same in
      (key, wish, (stands_there.0, stands_there.1, is.0), is.1)

-- ---- the law

pub victims_fall_in_standing_deadlocks : VictimsFallInStandingDeadlocks
victims_fall_in_standing_deadlocks victim old new found s t reached size turn whole seat step a told =
    let searched = found.2 in
    let settles = settling_of victim old new found in
    let shows = settling_shows s t turn whole seat step.old step.new step.before step.after settles.moment step.log settles.kind in
    let latches : step.old.latches ≡ searched.moment.held = sym shows.latches ∙ settles.held in
    let recorded = subst (λ (ls : List LatchRecord). AreRecorded 1 ls searched.audited) (sym latches) searched.recorded in
    let members = members_of victim (deadlock_in (settled_by searched.judges.words) (books_of searched.audited) old.me.0.number) searched.judges.outcome.0 in
    let stand = stands s reached seat step.old step.before a told old.table.slots size found.0 found.1.recorded.fit searched.audited searched.all recorded
    searched.judges.words old.me.0.number members.0 members.1 in
    let falls = subst (λ (n : ℕ). IsStandingVictimOf a (sessions_of members.0) n) members.2 stand.1 in
    let word : waits s victim ≡ 8 * settles.wait + 1 =
    ap (λ (n : ℕ). get_or s.words (wait_word n victim) 0) (sym size) ∙ ap (λ (n : ℕ). get_or s.words n 0) (sym settles.met.word) ∙ sym shows.found ∙ settles.met.found in
    let waiting = victim_waits s reached seat step.old step.before a told old.table.slots size found.0 found.1.recorded.fit searched.audited searched.all recorded
    searched.judges.words old.me.0.number members.0 members.1 victim settles.wait falls word in
    record {
      cycle = sessions_of members.0;
      standing = stand.0;
      met_open = met_open s reached seat step.old step.before a told old.table.slots size found.0 found.1.recorded.fit found.2.audited found.2.all recorded
          found.2.judges.words old.me.0.number members.0 members.1;
      falls = falls;
      key = waiting.0;
      wish = waiting.1;
      wishes = waiting.2;
      number_is = waiting.3;
      all_wait = λ wait. (
        deadlock_open a (sessions_of members.0) wait old.me.0.number stand.0,
        victim_open a (sessions_of members.0) wait victim falls,
      );
      chosen = chosen s reached seat step.old step.before a told old.table.slots size found.0 found.1.recorded.fit searched.audited searched.all recorded
          searched.judges.words old.me.0.number members.0 members.1;
    }
