-- The words of waits are read, or settled, while latches are held.
use Rattle.std.proofs.Common.{◌≡◌, ◌⊎◌, ℕ, true, false, List, [], ◌∷◌, ◌++◌, map, inl, inr, refl, sym, ap, ◌∙◌, subst, append_assoc, append-nil, All, Contains, Option}
use Rattle.mdl_visits.proofs.FirstLemmas.{All-nil, All-push, All-weaker, AllQuiet, AreRead, AtItsTable, Contains-append_cases, Contains-append_left, Contains-cons_cases, Contains-none, Contains-push, IsQuiet, IsSession, Keys, LatchRecord, MakesMoreSteps, Member, Mine, OnlyReadsWaits, ReadWait, ReadsWaitsQuietly, SeatState, StepKind, StepRecord, TableId, TellsOwn, WaitRead, WasRead, each_append, goes_nowhere, is_session, kind_raises_flags, map-append, meeting, met_wait, met_wait_by, mine, none_then, step_within, table_of, wait_word, with_waits_read}
use Rattle.mdl_visits.proofs.Way.{own_told}

-- ---- what becomes of the session

-- nothing was done
pub reads_none : (m : Mine) → ReadsWaitsQuietly m m
reads_none m = record {
  reads = record {
    made = [];
    told = m.0.told;
    settles = m.0.settles;
    now = ap (λ (log : List StepRecord). (record m.0 { log = log }, m.1)) (sym (append-nil m.0.log));
    did = refl;
    stays = λ state told. told;
  };
  had = tt;
}

-- one after the other
pub reads_on : (a b c : SeatState) → AtItsTable a b ReadsWaitsQuietly → AtItsTable b c ReadsWaitsQuietly → AtItsTable a c ReadsWaitsQuietly
reads_on a b c first second =
    let one = first.1.reads in
    let two = second.1.reads in (
      second.0 ∙ first.0,
      record {
        reads = record {
          made = one.made ++ two.made;
          told = two.told;
          settles = two.settles;
          now = two.now ∙ ap (with_waits_read two.made two.told two.settles) one.now
              ∙ (λ i. (record a.me.0 { log = append_assoc a.me.0.log one.made two.made i; told = two.told; settles = two.settles }, a.me.1));
          did = none_then one.made two.made [] one.did two.did;
          stays = λ state told. two.stays state (ap (λ (x : Mine). x.0.told) one.now ∙ one.stays state told);
        };
        had = each_append (IsQuiet a.me.0.directory) one.made two.made first.1.had
            (subst (λ (d : Option Keys). AllQuiet d two.made) (ap (λ (x : Mine). x.0.directory) one.now) second.1.had);
      },
    )

pub only_reads_on : (a b c : SeatState) → OnlyReadsWaits a b → OnlyReadsWaits b c → OnlyReadsWaits a c
only_reads_on a b c first second = (reads_on a b c first.0 second.0, second.1 ∙ first.1)

pub goes_reading : (m m′ : Mine) → ReadsWaitsQuietly m m′ → MakesMoreSteps m m′
goes_reading m m′ reads = (reads.reads.made, ap (λ (x : Mine). x.0.log) reads.reads.now)

-- the table, the latches and the session's number stay
pub at_first : (a b : SeatState) → AtItsTable a b ReadsWaitsQuietly → (Is : TableId → List LatchRecord → ℕ → Type 0) → Is b.table b.me.0.latches b.me.0.number
    → Is a.table a.me.0.latches a.me.0.number
at_first a b reads Is is =
    subst (λ (id : TableId). Is id a.me.0.latches a.me.0.number) reads.0 (subst (λ (m : Mine). Is b.table m.0.latches m.0.number) reads.1.reads.now is)

-- a word was met
pub reads_word : (kind : StepKind) → kind_raises_flags kind ≡ false → (slots session found : ℕ) (m m′ : Mine) → TellsOwn slots session found m.0 → m′ ≡ met_wait_by kind slots session found m
    → ReadsWaitsQuietly m m′
reads_word kind none slots session found m m′ own met = record {
  reads = record {
    made = record { kind = kind; deeds = []; word = wait_word slots session; found = found; held = m.0.latches; directory = m.0.directory } ∷ [];
    told = (meeting session found m.0).told;
    settles = m.0.settles;
    now = met;
    did = refl;
    stays = (own_told slots session found found m.0 own (λ _. refl)).0;
  };
  had = ((refl, none), tt);
}

pub only_reads_word : (slots session found : ℕ) (a b : SeatState) → TellsOwn slots session found a.me.0 → b ≡ record a { me = met_wait slots session found a.me } → OnlyReadsWaits a b
only_reads_word slots session found a b own met =
    ((table_of met, reads_word ReadWait refl slots session found a.me b.me own (mine met)), ap (λ (s : SeatState). s.me.0.settles) met)

-- ---- one word more

-- what was read stays so of a call that did something before and after
pub all_within : (slots : ℕ) (latches : List LatchRecord) (a b c d : Mine) (words : List WaitRead) → MakesMoreSteps a b → MakesMoreSteps c d → All (WasRead slots latches b c) words → All (WasRead slots latches a d) words
all_within slots latches a b c d words before after all =
    All-weaker (WasRead slots latches b c) (WasRead slots latches a d) (λ r was. (was.0, step_within a b c d was.0 before was.1 after, was.2, was.3, was.4, was.5)) words all

pub was_read : (slots : ℕ) (r : WaitRead) (m m′ : Mine) → m′ ≡ met_wait slots r.session r.word.0 m → WasRead slots m.0.latches m m′ r
was_read slots r m m′ met =
    let e : StepRecord = record { kind = ReadWait; deeds = []; word = wait_word slots r.session; found = r.word.0; held = m.0.latches; directory = m.0.directory } in
    (e, ([], [], ap (λ (x : Mine). x.0.log) met ∙ ap (λ (log : List StepRecord). log ++ e ∷ []) (sym (append-nil m.0.log))), refl, refl, refl, refl)

-- the sessions of requests, and of words
abbrev wishing : List Member → List ℕ
wishing wishes = map (λ (wish : Member). wish.session) wishes

abbrev read_of_all : List WaitRead → List ℕ
read_of_all words = map (λ (r : WaitRead). r.session) words

pub none_read : (words : List WaitRead) (s : SeatState) → words ≡ [] → AreRead [] words s s
none_read words s none =
    subst (λ (xs : List WaitRead). AreRead [] xs s s) (sym none) (
      record {
        each = All-nil (λ (r : WaitRead). IsSession s.table r.session × (is_session r.session ≡ true));
        every = λ session is valid waits. absurd (Contains-none session waits);
      },
      All-nil (WasRead s.table.slots s.me.0.latches s.me s.me),
    )

module _ (wishes : List Member) (wish : Member) (session : ℕ) where
  earlier_or_last : Contains (wishing (wishes ++ wish ∷ [])) session → Contains (wishing wishes) session ⊎ (wish.session ≡ session)
  earlier_or_last waits =
      let parts = subst (λ (xs : List ℕ). Contains xs session) (map-append (λ (w : Member). w.session) wishes (wish ∷ [])) waits in
      elim (Contains-append_cases (wishing wishes) (wish.session ∷ []) session parts) [
        | inl earlier ↦ inl earlier
        | inr last ↦ elim (Contains-cons_cases wish.session [] session last) [
          | inl none ↦ absurd (Contains-none session none)
          | inr here ↦ inr (sym here)
        ]
      ]

module _ (words : List WaitRead) (r : WaitRead) (session : ℕ) where
  joined : read_of_all (words ++ r ∷ []) ≡ read_of_all words ++ r.session ∷ []
  joined = map-append (λ (x : WaitRead). x.session) words (r ∷ [])

  met_still : Contains (read_of_all words) session → Contains (read_of_all (words ++ r ∷ [])) session
  met_still before = subst (λ (xs : List ℕ). Contains xs session) (sym joined) (Contains-append_left (read_of_all words) (r.session ∷ []) session before)

  met_now : r.session ≡ session → Contains (read_of_all (words ++ r ∷ [])) session
  met_now same = subst (λ (xs : List ℕ). Contains xs session) (sym joined)
      (subst (λ (n : ℕ). Contains (read_of_all words ++ r.session ∷ []) n) same (Contains-push (read_of_all words) r.session))

-- one request more, and the word of its session's wait
pub one_read : (wishes : List Member) (wish : Member) (words more : List WaitRead) (r : WaitRead) (a b c : SeatState) → AreRead wishes words a b → AtItsTable a b ReadsWaitsQuietly
    → AtItsTable b c ReadsWaitsQuietly → r.session ≡ wish.session → IsSession b.table wish.session → is_session wish.session ≡ true → more ≡ words ++ r ∷ []
    → WasRead b.table.slots b.me.0.latches b.me c.me r → AreRead (wishes ++ wish ∷ []) more a c
one_read wishes wish words more r a b c are before after same known valid pushed was =
    let Was : Mine → WaitRead → Type 0 = λ m. WasRead a.table.slots a.me.0.latches m c.me in
    let here = at_first a b before (λ id latches who. WasRead id.slots latches b.me c.me r) was in
    let there : IsSession a.table wish.session = at_first a b before (λ id latches who. IsSession id wish.session) known in
    subst (λ (xs : List WaitRead). AreRead (wishes ++ wish ∷ []) xs a c) (sym pushed) (
      record {
        each = All-push (λ (x : WaitRead). IsSession a.table x.session × (is_session x.session ≡ true)) words r are.0.each
            (subst (λ (n : ℕ). IsSession a.table n × (is_session n ≡ true)) (sym same) (there, valid));
        every = λ session is right waits. elim (earlier_or_last wishes wish session waits) [
          | inl earlier ↦ met_still words r session (are.0.every session is right earlier)
          | inr its ↦ met_now words r session (same ∙ its)
        ];
      },
      All-push (Was a.me) words r
          (all_within a.table.slots a.me.0.latches a.me a.me b.me c.me words (goes_nowhere a.me) (goes_reading b.me c.me after.1) are.1)
          (here.0, step_within a.me b.me c.me c.me here.0 (goes_reading a.me b.me before.1) here.1 (goes_nowhere c.me), here.2, here.3, here.4, here.5),
    )

-- one request more, whose session the table doesn't have
pub passed_over : (wishes : List Member) (wish : Member) (words : List WaitRead) (a b : SeatState) → AreRead wishes words a b → AtItsTable a b ReadsWaitsQuietly
    → (IsSession b.table wish.session → is_session wish.session ≡ true → ⊥) → AreRead (wishes ++ wish ∷ []) words a b
passed_over wishes wish words a b are before none = (
  record {
    each = are.0.each;
    every = λ session is right waits. elim (earlier_or_last wishes wish session waits) [
      | inl earlier ↦ are.0.every session is right earlier
      | inr its ↦
          absurd (none (subst (λ (n : ℕ). IsSession b.table n) (sym its) (subst (λ (id : TableId). IsSession id session) (sym before.0) is))
          (subst (λ (n : ℕ). is_session n ≡ true) (sym its) right))
    ];
  },
  are.1,
)
