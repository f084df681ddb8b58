-- What a search comes to: nobody waits in a cycle, or the victim's wait was settled.
use Rattle.std.proofs.Common.{◌≡◌, ◌≢◌, ℕ, Bool, false, ◌+◌, ◌*◌, ◌<◌, ◌==◌, ◌&&◌, nat_lt, List, [], ◌∷◌, ◌++◌, length, take, drop, get_or, Some, None, inl, inr, refl, sym, ap, subst, ◌∙◌, arith, append-nil, ◌%◌, All, IfSome, Option, eq-eqb, eqb-true, take-append-drop}
use Rattle.mdl_visits.proofs.FirstLemmas.{All-nil, AreOfWishes, AreRead, AtItsTable, Audited, FindsAtOnce, GraphView, IsBuiltOf, IsOutcome, Judges, KnowsVictim, LatchRecord, MakesMoreSteps, Member, Mine, MissWait, NoCycle, OnlyReadsWaits, ReadsWaitsQuietly, Search, SearchFinds, SeatState, SettleWait, Settlement, SettlesNothing, SettlesVictim, StaysTold, StepRecord, TableId, TellsOwn, TriesToSettle, Victim, View, WaitRead, WasOther, WasRead, and_parts, books_of, by_bool, deadlock, deadlock_in, false≢true, find-append, goes_nowhere, graph_finds, meeting, mine, missed_wait, nobody, option_map, option_or, other, read_of, settled_by, settled_lost, step_after, step_within, table_of, take_more, victim_in, victim_of, wait_in, wait_word, wishes_in}
use Rattle.mdl_visits.proofs.Words.{all_within, at_first, goes_reading, reads_none, reads_word}

-- ---- a wait is settled as the victim's

-- an unsettled wait of its own was told as settled nowhere
stays_lost : (slots session number : ℕ) (v : View) → TellsOwn slots session (wait_in number 1) v → StaysTold v.told (meeting session (wait_in number 3) v).told
stays_lost slots session number v own state told =
    by_bool (session == v.number && nat_lt 1 (wait_in number 3 % 8))
    (λ mine.
    let who = eqb-true session v.number (and_parts (session == v.number) (nat_lt 1 (wait_in number 3 % 8)) mine).0 in
    let was : (1 < state) × (wait_in number 1 % 8 ≡ state) = (own who).told state told in
    let more = was.0 in
    let same : (8 * number + 1) % 8 ≡ state = was.1 in
    absurd (omega arith))
    (λ other. rw other told)

module _ (slots session number : ℕ) (m m′ : Mine) (lost : m′ ≡ settled_lost slots session number 3 m) where
  abbrev settle : StepRecord
  settle = record { kind = SettleWait; deeds = []; word = wait_word slots session; found = wait_in number 1; held = m.0.latches; directory = m.0.directory }

  reads_lost : TellsOwn slots session (wait_in number 1) m.0 → ReadsWaitsQuietly m m′
  reads_lost own = record {
    reads = record {
      made = settle ∷ [];
      told = (meeting session (wait_in number 3) m.0).told;
      settles = m.0.settles ++ record { session = session; wait = number; state = 3 } ∷ [];
      now = lost;
      did = refl;
      stays = stays_lost slots session number m.0 own;
    };
    had = ((refl, refl), tt);
  }

  settles_victim : SettlesVictim slots session m.0.latches m m′
  settles_victim = record {
    wait = number;
    settles = ap (λ (x : Mine). x.0.settles) lost;
    moment = settle;
    step = ([], [], ap (λ (x : Mine). x.0.log) lost ∙ ap (λ (log : List StepRecord). log ++ settle ∷ []) (sym (append-nil m.0.log)));
    kind = refl;
    met = record { word = refl; found = refl };
    held = refl;
  }

  -- the session's own wait is known to be lost then
  knows_lost : session ≡ m.0.number → m′.0.told ≡ Some 3
  knows_lost own =
      let word : (8 * number + 3) % 8 ≡ 3 = omega arith in
      ap (λ (x : Mine). x.0.told) lost ∙ rw word (rw (eq-eqb session m.0.number own) refl)

-- by the exchange that settles a wait, whichever word it met
pub tries_to_settle : (number found : ℕ) (r : WaitRead) (done : Bool) (a b : SeatState) → r.word.0 ≡ wait_in number 1 → done ≡ (found == r.word.0) → TellsOwn a.table.slots r.session found a.me.0
    → (found ≡ wait_in number 1 → b ≡ record a { me = settled_lost a.table.slots r.session number 3 a.me })
    → (found ≢ wait_in number 1 → b ≡ record a { me = missed_wait a.table.slots r.session found a.me }) → TriesToSettle r.session (Some r) done a b
tries_to_settle number found r done a b unsettled told own settled missed =
    by_bool (found == r.word.0)
    (λ same.
    let is : found ≡ wait_in number 1 = eqb-true found r.word.0 same ∙ unsettled in
    let lost = mine (settled is) in
    record {
      reads = (table_of (settled is), reads_lost a.table.slots r.session number a.me b.me lost (rw (sym is) own));
      settled = λ yes. (settles_victim a.table.slots r.session number a.me b.me lost, knows_lost a.table.slots r.session number a.me b.me lost);
      missed = λ no. absurd (false≢true (sym no ∙ told ∙ same));
    })
    (λ differ.
    let differs : found ≢ r.word.0 = λ is. false≢true (sym differ ∙ eq-eqb found r.word.0 is) in
    let other_word = missed (λ is. differs (is ∙ sym unsettled)) in
    let met = mine other_word in
    let e : StepRecord = record { kind = MissWait; deeds = []; word = wait_word a.table.slots r.session; found = found; held = a.me.0.latches; directory = a.me.0.directory } in
    record {
      reads = (table_of other_word, reads_word MissWait refl a.table.slots r.session found a.me b.me own met);
      settled = λ yes. absurd (false≢true (sym differ ∙ sym told ∙ yes));
      missed = λ no. (
        ap (λ (x : Mine). x.0.settles) met,
        inr (e, ([], [], ap (λ (x : Mine). x.0.log) met ∙ ap (λ (log : List StepRecord). log ++ e ∷ []) (sym (append-nil a.me.0.log))), record { word_is = refl; differs = differs }),
      );
    })

-- where nothing was done, since the word that was read isn't that of an open wait, or no word was read
pub tries_nothing : (victim : ℕ) (read : Option WaitRead) (a : SeatState) → IfSome read (WasOther a.table.slots a.me a.me) → TriesToSettle victim read false a a
tries_nothing victim read a other_word = record {
  reads = (refl, reads_none a.me);
  settled = λ yes. absurd (false≢true yes);
  missed = λ no. (refl, other_word);
}

-- of a session of which no word was read before the next one
module _ (session : ℕ) (words : List WaitRead) (i : ℕ) (d : WaitRead) (inside : i < length words) (none : read_of session (take i words) ≡ None) where
  with_next : (o : Option WaitRead) → read_of session (get_or words i d ∷ []) ≡ o → read_of session (take (i + 1) words) ≡ o
  with_next o next =
      ap (read_of session) (take_more words i d inside)
      ∙ find-append (λ (x : WaitRead). x.session == session) (take i words) (get_or words i d ∷ [])
      ∙ ap (λ (before : Option WaitRead). option_or before (read_of session (get_or words i d ∷ []))) none
      ∙ next

  pub none_still : (get_or words i d).session ≢ session → read_of session (take (i + 1) words) ≡ None
  none_still differs = with_next None (rw (other (get_or words i d).session session differs) refl)

  pub read_first : (get_or words i d).session ≡ session → read_of session words ≡ Some (get_or words i d)
  read_first same =
      let next : read_of session (take (i + 1) words) ≡ Some (get_or words i d) = with_next (Some (get_or words i d)) (rw (eq-eqb (get_or words i d).session session same) refl) in
      ap (read_of session) (sym (take-append-drop (i + 1) words))
      ∙ find-append (λ (x : WaitRead). x.session == session) (take (i + 1) words) (drop (i + 1) words)
      ∙ ap (λ (before : Option WaitRead). option_or before (read_of session (drop (i + 1) words))) next

-- ---- of a call that did something before and after

-- what is met otherwise is so of a call that did something before
other_after : (slots : ℕ) (a b c : Mine) (o : Option WaitRead) → MakesMoreSteps a b → IfSome o (WasOther slots b c) → IfSome o (WasOther slots a c)
other_after slots a b c None before none = tt
other_after slots a b c (Some r) before (inl settled) = inl settled
other_after slots a b c (Some r) before (inr met) = inr (met.0, step_after a b c before met.0 met.1, met.2)

module _ (slots who : ℕ) (latches : List LatchRecord) (audited : List Audited) (words : List WaitRead) (a b c d : Mine)
    (before : MakesMoreSteps a b) (same : b.0.settles ≡ a.0.settles) (after : MakesMoreSteps c d) (kept : d.0.settles ≡ c.0.settles) where
  victim_within : (victim : ℕ) → SettlesVictim slots victim latches b c → SettlesVictim slots victim latches a d
  victim_within victim fells = record {
    wait = fells.wait;
    settles = kept ∙ fells.settles ∙ ap (λ (all : List Settlement). all ++ record { session = victim; wait = fells.wait; state = 3 } ∷ []) same;
    moment = fells.moment;
    step = step_within a b c d fells.moment before fells.step after;
    kind = fells.kind;
    met = record { word = fells.met.word; found = fells.met.found };
    held = fells.held;
  }

  outcome_within : (found : Search) → IsOutcome slots who latches audited words b c found → IsOutcome slots who latches audited words a d found
  outcome_within NoCycle none = (none.0, kept ∙ none.1 ∙ same)
  outcome_within (Victim victim) one = (one.0, victim_within victim one.1)

pub judges_within : (id : TableId) (who : ℕ) (latches : List LatchRecord) (audited : List Audited) (found : Search) (a b c d : Mine) → MakesMoreSteps a b → b.0.settles ≡ a.0.settles
    → MakesMoreSteps c d → d.0.settles ≡ c.0.settles → Judges id who latches audited found b c → Judges id who latches audited found a d
judges_within id who latches audited found a b c d before same after kept judges = record {
  words = judges.words;
  enough = judges.enough;
  read = all_within id.slots latches a b c d judges.words before after judges.read;
  outcome = outcome_within id.slots who latches audited judges.words a b c d before same after kept found judges.outcome;
}

-- a session that is the victim knows that as long as it is told so
pub knows_on : (who : ℕ) (found : Search) (m m′ : Mine) → m′.0.told ≡ m.0.told → KnowsVictim who found m → KnowsVictim who found m′
knows_on who NoCycle m m′ same knows = tt
knows_on who (Victim victim) m m′ same knows = λ own. same ∙ knows own

none_mapped : {A B : Type 0} (f : A → B) (o : Option A) → option_map f o ≡ None → o ≡ None
none_mapped f None none = refl
none_mapped f (Some x) none = absurd (cc)

-- where there is no cycle even if nobody is settled, no word is read
pub finds_free : (graph : GraphView) (a : SeatState) → deadlock graph a.me.0.number ≡ None → SearchFinds graph a a NoCycle
finds_free graph a free = (
  λ audited built.
      let none : deadlock_in nobody (books_of audited) a.me.0.number ≡ None = sym (graph_finds nobody (books_of audited) graph a.me.0.number built) ∙ free in
      record { words = []; enough = inr none; read = All-nil (WasRead a.table.slots a.me.0.latches a.me a.me); outcome = (none, refl) },
  tt,
)

module _ (graph : GraphView) (a b c : SeatState) (first : OnlyReadsWaits a b) where
  pub finds_after : (found : Search) → SearchFinds graph b c found → SearchFinds graph a c found
  finds_after found finds = (
    λ audited built.
        judges_within a.table a.me.0.number a.me.0.latches audited found a.me b.me c.me c.me (goes_reading a.me b.me first.0.1) first.1 (goes_nowhere c.me) refl
        (at_first a b first.0 (λ id latches who. Judges id who latches audited found b.me c.me) (finds.0 audited built)),
    at_first a b first.0 (λ id latches who. KnowsVictim who found c.me) finds.1,
  )

  -- the words were read, and by these and the books there is a victim, or none
  module _ (words : List WaitRead) (read : AreRead graph.wishes words a b) where
    of_books : (audited : List Audited) → IsBuiltOf audited graph → AreOfWishes a.table (wishes_in nobody (books_of audited)) words
    of_books audited built = subst (λ (wishes : List Member). AreOfWishes a.table wishes words) built.same_wishes read.0

    pub finds_none : b ≡ c → ((audited : List Audited) → IsBuiltOf audited graph → victim_in (settled_by words) (books_of audited) a.me.0.number ≡ None) → SearchFinds graph a c NoCycle
    finds_none same is = subst (λ (x : SeatState). SearchFinds graph a x NoCycle) same (
      λ audited built. record {
        words = words;
        enough = inl (of_books audited built);
        read = read.1;
        outcome = (none_mapped victim_of (deadlock_in (settled_by words) (books_of audited) a.me.0.number) (is audited built), first.1);
      },
      tt,
    )

    module _ (victim : ℕ) (then : AtItsTable b c ReadsWaitsQuietly)
        (is : (audited : List Audited) → IsBuiltOf audited graph → victim_in (settled_by words) (books_of audited) a.me.0.number ≡ Some victim) where
      still : All (WasRead a.table.slots a.me.0.latches a.me c.me) words
      still = all_within a.table.slots a.me.0.latches a.me a.me b.me c.me words (goes_nowhere a.me) (goes_reading b.me c.me then.1) read.1

      pub finds_victim : SettlesVictim b.table.slots victim b.me.0.latches b.me c.me × KnowsVictim b.me.0.number (Victim victim) c.me → SearchFinds graph a c (Victim victim)
      finds_victim settled = (
        λ audited built. record {
          words = words;
          enough = inl (of_books audited built);
          read = still;
          outcome = (
            is audited built,
            victim_within a.table.slots a.me.0.number a.me.0.latches audited words a.me b.me c.me c.me (goes_reading a.me b.me first.0.1) first.1 (goes_nowhere c.me) refl victim
                (at_first a b first.0 (λ id latches who. SettlesVictim id.slots victim latches b.me c.me) settled.0),
          );
        },
        at_first a b first.0 (λ id latches who. KnowsVictim who (Victim victim) c.me) settled.1,
      )

      pub misses_victim : SettlesNothing b.me c.me × IfSome (read_of victim words) (WasOther b.table.slots b.me c.me) → FindsAtOnce graph a c None
      misses_victim missed = (
        missed.0 ∙ first.1,
        λ audited built. record {
          words = words;
          all = of_books audited built;
          read = still;
          victim = victim;
          found = is audited built;
          other = other_after a.table.slots a.me b.me c.me (read_of victim words) (goes_reading a.me b.me first.0.1)
              (at_first a b first.0 (λ id latches who. IfSome (read_of victim words) (WasOther id.slots b.me c.me)) missed.1);
        },
      )
