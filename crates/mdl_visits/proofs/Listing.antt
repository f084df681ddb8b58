-- What a session has after it asked the directory for the tables of a schema.
use Rattle.std.proofs.Common.{◌≡◌, ℕ, ◌-◌, ◌<◌, List, [], ◌∷◌, ◌++◌, length, None, Some, refl, ap, ◌∙◌, subst, arith, append_assoc, append-nil, Option}
use Rattle.mdl_visits.proofs.FirstLemmas.{All-weaker, AllQuiet, AreAllTables, AreWithin, HoldsNoLatch, IsDirectory, IsQuiet, Keys, KnownKey, MakesSteps, Mine, PutLatch, StandThere, StaysQuiet, StepRecord, TakeLatch, TookDirectory, and_made, consulted, deeds_of, each_append, given_back, had_none, informed, key_at, knowing_all, latch_word, no_record, none_then, some_there, unknown}

-- ---- the tables stand where the directory says

pub all_stand : (schema : List ℕ) (k : Keys) (tables : List KnownKey) → AreAllTables schema k tables → StandThere k tables
all_stand schema k tables are = λ i d short. ((are.each i d short).0, (are.each i d short).1)

pub all_within : (slots : ℕ) (k : Keys) (tables : List KnownKey) → length k.keys < slots → StandThere k tables → AreWithin slots tables
all_within slots k tables fit stand =
    All-weaker (λ (x : KnownKey). (0 < x.place) × (key_at k.keys x.place ≡ Some x.key)) (λ (x : KnownKey). (0 < x.place) × (x.place < slots))
    (λ x stands. let some = stands.0 in let inside = some_there k.keys (x.place - 1) x.key stands.1 in (some, omega arith))
    tables stand

-- ---- the directory's latch is given back

module _ (slots : ℕ) (k : Keys) (made : List StepRecord) (old : Mine) (idle : HoldsNoLatch old) (is : IsDirectory slots k (and_made made old))
    (more : List KnownKey) (new : Mine) (e : new ≡ informed more (consulted k (and_made made old))) where
  abbrev took : StepRecord
  took = record { kind = TakeLatch; deeds = []; word = latch_word 0; found = 0; held = old.0.latches; directory = Some k }

  abbrev gave : StepRecord
  gave = record { kind = PutLatch; deeds = []; word = latch_word 0; found = old.0.number; held = old.0.latches; directory = Some k }

  abbrev all : List StepRecord
  all = made ++ (took ∷ gave ∷ [])

  joined : ((old.0.log ++ made) ++ took ∷ []) ++ gave ∷ [] ≡ old.0.log ++ all
  joined = simp append_assoc

  informed_is : new ≡ (record old.0 { log = old.0.log ++ all; known = old.0.known ++ more }, old.1)
  informed_is = e
      ∙ ap (λ (log : List StepRecord). (record old.0 { log = log; directory = None; known = old.0.known ++ more }, old.1)) joined
      ∙ ap (λ (d : Option Keys). (record old.0 { log = old.0.log ++ all; directory = d; known = old.0.known ++ more }, old.1)) (no_record old.0.directory idle.1)

  pub took_directory : AllQuiet old.0.directory made → TookDirectory slots k k old new
  took_directory lingered = record {
    before = made;
    within = [];
    after = [];
    recorded = is;
    listed = ap (λ (m : Mine). m.0.log) e;
    none_before = had_none old idle made lingered;
    either_within = tt;
    none_after = tt;
  }

  did_all : deeds_of made ≡ [] → deeds_of all ≡ []
  did_all did = none_then made (took ∷ gave ∷ []) [] did refl

  pub knows_tables : deeds_of made ≡ [] → (tables : List KnownKey) → more ≡ unknown old.0.known tables → MakesSteps (knowing_all tables old) new
  knows_tables did tables those = (
    all,
    informed_is ∙ ap (λ (known : List KnownKey). (record old.0 { log = old.0.log ++ all; known = old.0.known ++ known }, old.1)) those,
    did_all did,
  )

  pub knows_no_more : deeds_of made ≡ [] → more ≡ [] → MakesSteps old new
  knows_no_more did none = (
    all,
    informed_is ∙ ap (λ (known : List KnownKey). (record old.0 { log = old.0.log ++ all; known = known }, old.1)) (ap (λ (ks : List KnownKey). old.0.known ++ ks) none ∙ append-nil old.0.known),
    did_all did,
  )

-- the calls one after the other
pub told_after : (k : Keys) (made : List StepRecord) (tables : List KnownKey) (old taken listed new : Mine) → taken ≡ consulted k (and_made made old) → listed ≡ taken → new ≡ informed (unknown listed.0.known tables) listed
    → new ≡ informed (unknown old.0.known tables) (consulted k (and_made made old))
told_after k made tables old taken listed new first second third = third ∙ ap (λ (m : Mine). informed (unknown m.0.known tables) m) (second ∙ first)

-- the directory was asked in a call that went on, without it
pub took_earlier : (slots : ℕ) (k left : Keys) (old mid new : Mine) → TookDirectory slots k left old mid → StaysQuiet mid new → mid.0.directory ≡ None → TookDirectory slots k left old new
took_earlier slots k left old mid new took goes none =
    let first : List StepRecord = (consulted k (and_made took.before old)).0.log in
    let later : List StepRecord = given_back left old ∷ took.after in
    record {
      before = took.before;
      within = took.within;
      after = took.after ++ goes.0;
      recorded = took.recorded;
      listed = goes.1 ∙ ap (λ (log : List StepRecord). log ++ goes.0) took.listed ∙ append_assoc first (took.within ++ later) goes.0 ∙ ap (λ (log : List StepRecord). first ++ log) (append_assoc took.within later goes.0);
      none_before = took.none_before;
      either_within = took.either_within;
      none_after = each_append (IsQuiet None) took.after goes.0 took.none_after (subst (λ (d : Option Keys). AllQuiet d goes.0) none goes.2);
    }
