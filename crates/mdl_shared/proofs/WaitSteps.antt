-- What becomes of a session that does no deed: it only looks, or it reads the word of a wait, or settles the wait.
use Rattle.std.proofs.Common.{◌≡◌, ◌⊎◌, ℕ, ◌<◌, ◌≤◌, ◌==◌, ◌&&◌, Bool, true, false, is_some, List, [], ◌∷◌, ◌++◌, length, Option, Some, None, IfSome, inl, inr, refl, sym, ap, subst, ◌∙◌, append_assoc, append-nil, length-append, arith, nat_lt, eq-eqb, eqb-true, lt-ltb, ltb-true}
use Rattle.mdl_shared.proofs.FirstLemmas.{Answer, DidDeeds, Does, IsMember, IsSession, IsSettled, IsStepOf, KeepsRoom, Lists, MakesNoStep, MeetsWord, Member, Mine, No_cycle, Refused, Room, Search, SeatState, SessionView, Settlement, StaysFor, StaysOn, StaysThere, StaysTold, StepKind, StepRecord, StepSpec, TakesSteps, TellsOwn, and_parts, but_searching, by_bool, does_then, done-debts, done-nothing, done-order, done-then, each_append, false≢true, gained_by, gives_back, joins-still, keeps-before, keeps-equal, keeps-more, kept, kind_raises_flags, lists_seen, logged, meeting, same-fast, session_at, speaks, tickets_seen, wait_state, wait_word}

-- visits without a deed, after which the session may have no search left to make
pub quietly-searched : {seat seat′ : SeatState} {log : List StepRecord} {told : Option ℕ} {settles : List Settlement} (sessions : ℕ) {room room′ : Room} {pins : List ℕ} → seat′.table ≡ seat.table
    → (but_searching seat seat′).me ≡ (record seat.me.0 { told = told; settles = settles; log = log }, seat.me.1) → StaysTold seat.me.0.told told
    → (seat.me.0.asks ≡ None → told ≡ seat.me.0.told) → DidDeeds 0 [] (session_at seat sessions room pins) (session_at seat′ sessions room′ pins)
quietly-searched {seat = seat} {seat′ = seat′} {log = log} {told = told} {settles = settles} sessions {room′ = room′} {pins = pins} table me stays unasked = record {
  slow = seat.me.0.slow;
  fast = seat.me.0.fast;
  told = told;
  owes = seat.me.0.owes;
  searches = seat′.me.0.searches;
  settles = settles;
  log = log;
  room = room′;
  now = λ i. record { table = table i; sessions = sessions; me = (record (me i).0 { searches = seat′.me.0.searches }, (me i).1); room = room′; pins = pins };
  tickets = refl;
  fasts = same-fast seat.me.0.known seat.me.0.asks seat.me.0.fast;
  stays = stays;
  owed = λ p owed. owed;
  unasked = unasked;
}

-- a visit without a deed
pub quietly : {seat seat′ : SeatState} {log : List StepRecord} {told : Option ℕ} {settles : List Settlement} (sessions : ℕ) {room room′ : Room} {pins : List ℕ} → seat′.table ≡ seat.table
    → seat′.me ≡ (record seat.me.0 { told = told; settles = settles; log = log }, seat.me.1) → StaysTold seat.me.0.told told
    → (seat.me.0.asks ≡ None → told ≡ seat.me.0.told) → DidDeeds 0 [] (session_at seat sessions room pins) (session_at seat′ sessions room′ pins)
quietly {seat = seat} {seat′ = seat′} sessions table me = quietly-searched {seat = seat} {seat′ = seat′} sessions table (λ i. (record (me i).0 { searches = seat.me.0.searches }, (me i).1))

-- of a session that waits what is told of no wait is so
pub asked : {P : Type 0} (s : SessionView) → is_some s.me.0.asks ≡ true → s.me.0.asks ≡ None → P
asked s waiting none = absurd (false≢true (sym (ap is_some none) ∙ waiting))

-- what is always so of a session stays so where it does no deed
pub still-member : {place : ℕ} {s s′ : SessionView} → DidDeeds place [] s s′ → IsMember s → IsMember s′
still-member {s = s} {s′ = s′} done is =
    kept (Search s.me.0.number) {answer = No_cycle} is (done-order done is (inr refl))
    (joins-still s s′ (Search s.me.0.number) No_cycle (done-nothing done) (speaks is) refl refl refl tt refl (λ state how met. cc) (λ how told. cc) refl (λ r. r) tt)

-- the word of a session's wait is one of the table's
pub session-there : (s : SessionView) → IsMember s → (session : ℕ) → 0 < session → session ≤ s.sessions → IsSession s.table session
session-there s is session some within = (some, subst (λ (n : ℕ). wait_word s.table.slots session < n) (sym is.words) (omega (arith, within)))

-- whether it waits, by its own lists
pub waits-seen : (m : Member) (b : Bool) → is_some m.asks ≡ b → is_some m.seat.me.0.asks ≡ b
waits-seen m b asks = ap (λ (l : Lists). is_some l.asks) (sym m.lists) ∙ asks

-- ---- steps at which it stays

-- it did no deed, and gave nothing up
pub record Watches (s s′ : SessionView) : Type 0 where
  pub done : DidDeeds 0 [] s s′
  pub lists : lists_seen s′.me.0 ≡ lists_seen s.me.0
  pub owes : s′.me.0.owes ≡ s.me.0.owes
  pub searches : s′.me.0.searches ≡ s.me.0.searches
  pub did : Does [] s.me s′.me
  pub stayed : StaysOn s.me s′.me
  pub keeps : KeepsRoom 0 s.room s′.room

-- a call shows what its steps show
pub shows : {call : StepSpec} {answer : Answer} {s s′ : SessionView} → Watches s s′ → IfSome (call.fault s.pins (lists_seen s.me.0)) (λ why. (answer ≡ Refused why) × MakesNoStep s s′)
    → Does (call.did answer (tickets_seen s.me.0)) s.me s′.me → call.settled answer (lists_seen s.me.0) s s′ → call.told s s′
    → (s′.me.0.owes ≡ s.me.0.owes → s′.me.0.searches ≡ s.me.0.searches → call.owes answer s s′) → call.met answer (lists_seen s.me.0) s s′
    → TakesSteps call answer s s′
shows {answer = answer} {s = s} {s′ = s′} watches refused did settled told owes met = record {
  table = ap (λ (x : SessionView). x.table) watches.done.now;
  sessions = ap (λ (x : SessionView). x.sessions) watches.done.now;
  refused = refused;
  did = did;
  settled = settled;
  told = told;
  met = met;
  room = keeps-more (gained_by answer) s.room s′.room watches.keeps;
  debts = done-debts watches.done;
  owes = owes watches.owes watches.searches;
}

pub watches-then : (a b c : SessionView) → Watches a b → Watches b c → Watches a c
watches-then a b c first later = record {
  done = done-then first.done later.done;
  lists = later.lists ∙ first.lists;
  owes = later.owes ∙ first.owes;
  searches = later.searches ∙ first.searches;
  did = does_then [] [] a.me b.me c.me first.did later.did;
  stayed = (
    first.stayed.0 ++ later.stayed.0,
    later.stayed.1 ∙ ap (λ (log : List StepRecord). log ++ later.stayed.0) first.stayed.1 ∙ append_assoc a.me.0.log first.stayed.0 later.stayed.0,
    each_append StaysThere first.stayed.0 later.stayed.0 first.stayed.2 later.stayed.2,
  );
  keeps = keeps-before 0 a.room b.room c.room first.keeps later.keeps;
}

-- one step is at most two, and so is one after another
pub stays-more : (m m′ : Mine) → StaysFor 1 m m′ → StaysFor 2 m m′
stays-more m m′ (made, log, stay, few) = (made, log, stay, omega (arith, few))

pub stays-twice : (a b c : Mine) → StaysFor 1 a b → StaysFor 1 b c → StaysFor 2 a c
stays-twice a b c (made, log, stay, few) (more, longer, still, fewer) =
    let all = length-append made more in (
      made ++ more,
      longer ∙ ap (λ (log : List StepRecord). log ++ more) log ∙ append_assoc a.0.log made more,
      each_append StaysThere made more stay still,
      omega (arith, all, few, fewer),
    )

-- ---- a step on the word of a session's wait, which was found so and left so

-- what the session knows then, with these waits settled
abbrev pub word-step : StepKind → ℕ → ℕ → ℕ → List Settlement → SessionView → SessionView
word-step kind session found left settles s =
    record s { me = (logged kind [] (wait_word s.table.slots session) found s.me.0.latches (record (meeting session left s.me.0) { settles = settles }), s.me.1) }

module _ (kind : StepKind) (session found left : ℕ) (settles : List Settlement) (s s′ : SessionView) (now : s′ ≡ word-step kind session found left settles s) where
  -- the step met the word
  pub met-word : (e : StepRecord) × IsStepOf s.me s′.me e × MeetsWord s.table.slots session found e
  met-word =
      let e : StepRecord = record { kind = kind; deeds = []; word = wait_word s.table.slots session; found = found; held = s.me.0.latches; directory = s.me.0.directory } in (
        e,
        ([], [], ap (λ (x : SessionView). x.me.0.log) now ∙ ap (λ (log : List StepRecord). log ++ e ∷ []) (sym (append-nil s.me.0.log))),
        record { word_is = refl; found = refl },
      )

  -- and it was the only one
  pub stays-once : gives_back kind ≡ false → kind_raises_flags kind ≡ false → StaysFor 1 s.me s′.me
  stays-once keeps quiet =
      let e : StepRecord = record { kind = kind; deeds = []; word = wait_word s.table.slots session; found = found; held = s.me.0.latches; directory = s.me.0.directory } in
      let one : length (e ∷ []) ≤ 1 = omega arith in
      (e ∷ [], ap (λ (x : SessionView). x.me.0.log) now, ((keeps, quiet), tt), one)

  -- where it is the session's own and settled, the session knows that
  pub told-own : session ≡ s.me.0.number → IsSettled (wait_state left) → s′.me.0.told ≡ Some (wait_state left)
  told-own mine settled =
      ap (λ (x : SessionView). x.me.0.told) now ∙
      (rw (eq-eqb session s.me.0.number mine) (rw (lt-ltb 1 (wait_state left) settled) refl))

  -- it was settled by this step, or not
  module _ (own : TellsOwn s.table.slots session found s.me.0) (agrees : (left ≡ found) ⊎ (wait_state found ≡ 1)) where
    -- what the session knew of its wait it knows
    told-by : (P : Option ℕ → Type 0) → P s.me.0.told → (session ≡ s.me.0.number → IsSettled (wait_state left) → P (Some (wait_state left)))
        → P (meeting session left s.me.0).told
    told-by P same own-told =
        by_bool (session == s.me.0.number && nat_lt 1 (wait_state left))
        (λ hit.
        let parts = and_parts (session == s.me.0.number) (nat_lt 1 (wait_state left)) hit in
        rw hit (own-told (eqb-true session s.me.0.number parts.0) (ltb-true 1 (wait_state left) parts.1)))
        (λ miss. rw miss same)

    keeps-told : (state : ℕ) → s.me.0.told ≡ Some state → (meeting session left s.me.0).told ≡ Some state
    keeps-told state is =
        told-by (λ o. o ≡ Some state) is (λ mine settled. let told = (own mine).told state is in again agrees settled told.0 told.1)
      where
        again : (left ≡ found) ⊎ (wait_state found ≡ 1) → IsSettled (wait_state left) → IsSettled state → wait_state found ≡ state → ◌≡◌ {A = Option ℕ} (Some (wait_state left)) (Some state)
        again (inl same) settled more its = ap (λ (w : ℕ). Some (wait_state w)) same ∙ ap Some its
        again (inr odd) settled more its = absurd (omega (arith, odd, more, its))

    keeps-none : s.me.0.asks ≡ None → (meeting session left s.me.0).told ≡ s.me.0.told
    keeps-none none = told-by (λ o. o ≡ s.me.0.told) refl (λ mine settled. absurd (by agrees settled ((own mine).idle none)))
      where
        by : (left ≡ found) ⊎ (wait_state found ≡ 1) → IsSettled (wait_state left) → wait_state found ≡ 0 → ⊥
        by (inl same) settled idle = let is : wait_state left ≡ 0 = ap wait_state same ∙ idle in omega (arith, settled, is)
        by (inr odd) settled idle = omega (arith, odd, idle)

    pub watches : gives_back kind ≡ false → kind_raises_flags kind ≡ false → Watches s s′
    watches keeps quiet =
        let e : StepRecord = record { kind = kind; deeds = []; word = wait_word s.table.slots session; found = found; held = s.me.0.latches; directory = s.me.0.directory } in
        let log = ap (λ (x : SessionView). x.me.0.log) now in
        record {
          done = record {
            slow = s.me.0.slow;
            fast = s.me.0.fast;
            told = (meeting session left s.me.0).told;
            owes = s.me.0.owes;
            searches = s.me.0.searches;
            settles = settles;
            log = s.me.0.log ++ e ∷ [];
            room = s.room;
            now = now;
            tickets = refl;
            fasts = same-fast s.me.0.known s.me.0.asks s.me.0.fast;
            stays = keeps-told;
            owed = λ p owed. owed;
            unasked = keeps-none;
          };
          lists = ap (λ (x : SessionView). lists_seen x.me.0) now;
          owes = ap (λ (x : SessionView). x.me.0.owes) now;
          searches = ap (λ (x : SessionView). x.me.0.searches) now;
          did = (e ∷ [], log, refl);
          stayed = (e ∷ [], log, ((keeps, quiet), tt));
          keeps = keeps-equal s.room s′.room (ap (λ (x : SessionView). x.room) now);
        }
