-- What a session has after the directory's latch was given back.
use Rattle.std.proofs.Common.{◌≡◌, ℕ, zero, suc, ◌+◌, ◌-◌, ◌<◌, false, List, [], ◌∷◌, ◌++◌, length, Some, None, refl, sym, ap, ◌∙◌, subst, inl, inr, arith, append_assoc, append-nil, Option, Result, Ok, Err, slice_get, is_some, lt-ltb}
use Rattle.mdl_steps.proofs.Looking.{there}
use Rattle.mdl_visits.proofs.Common.{AllQuiet, AtItsTable, HasDirectory, HasLooked, HasNamed, HoldsNoLatch, IsLookupAnswer, KeyName, Keys, KnownKey, MakesSteps, MayInform, Mine, PutLatch, ResolveError, SeatState, Slot, StepRecord, TableId, TakeLatch, TakesDirectory, TookDirectory, and_made, consulted, deeds_of, informed, key_at, key_last, knowing_key, latch_word, learnt, listing, nil_from_length, option_map, option_to_list, place_among, recorded_key, relisted}
use Rattle.mdl_visits.proofs.Seats.{mine, table_of}
use Rattle.mdl_visits.proofs.Steps.{none_then}

-- ---- a session between two calls

pub no_record : (d : Option Keys) → is_some d ≡ false → None ≡ d
no_record None e = refl
no_record (Some k) e = absurd (cc)

pub had_none : (m : Mine) → HoldsNoLatch m → (made : List StepRecord) → AllQuiet m.0.directory made → AllQuiet None made
had_none m idle made had = subst (λ (d : Option Keys). AllQuiet d made) (sym (no_record m.0.directory idle.1)) had

pub no_latches : (m : Mine) → HoldsNoLatch m → m.0.latches ≡ []
no_latches m idle = nil_from_length m.0.latches idle.0

-- ---- while the directory is in hand

-- it was just taken
pub has_taken : (k : Keys) (m : Mine) → HasDirectory k (consulted k m)
has_taken k m = record { recorded = refl; carried = refl }

-- nothing was done
pub relisted_nothing : (k : Keys) (m : Mine) → HasDirectory k m → m ≡ relisted [] k m
relisted_nothing k m has =
    ap (λ (log : List StepRecord). (record m.0 { log = log }, m.1)) (sym (append-nil m.0.log))
    ∙ ap (λ (d : Option Keys). (record m.0 { log = m.0.log ++ []; directory = d }, m.1)) has.recorded
    ∙ ap (λ (hand : List (ℕ × Slot)). (record m.0 { log = m.0.log ++ []; directory = Some k }, hand)) has.carried

pub some_there : (keys : List KeyName) (i : ℕ) (key : KeyName) → slice_get keys i ≡ Some key → i < length keys
some_there [] i key e = absurd (cc)
some_there (x ∷ xs) zero key e = omega arith
some_there (x ∷ xs) (suc i) key e = let next = some_there xs i key e in omega arith

-- a key that has a place was found there
pub found_there : (key : KeyName) (place : ℕ) (k : Keys) (a b : SeatState) → HasDirectory k a.me → length k.keys < a.table.slots → place_among key k.keys ≡ Some place → b ≡ a
    → AtItsTable a b (HasLooked a.table.slots key k (Ok place))
found_there key place k a b has fit e same =
    let at = there key k.keys place e in
    let inside = some_there k.keys (place - 1) key at.1 in
    let first = at.0 in (
      table_of same,
      record { made = []; left = k; seat = mine same ∙ relisted_nothing k a.me has; had = tt; did = refl; answer = inl (e, refl); stands = (first, omega arith, at.1) },
    )

-- a new one has none yet
pub found_nowhere : (key : KeyName) (why : ResolveError) (k : Keys) (a b : SeatState) → HasDirectory k a.me → IsLookupAnswer a.table.slots key k k (Err why) → b ≡ a
    → AtItsTable a b (HasLooked a.table.slots key k (Err why))
found_nowhere key why k a b has is same =
    (table_of same, record { made = []; left = k; seat = mine same ∙ relisted_nothing k a.me has; had = tt; did = refl; answer = is; stands = tt })

-- it stands at the next place then
pub stands_next : (key : KeyName) (place : ℕ) (k : Keys) (a b : SeatState) → AtItsTable a b (HasNamed key k) → place_among key k.keys ≡ None → place ≡ length k.keys + 1 → place < a.table.slots
    → AtItsTable a b (HasLooked a.table.slots key k (Ok place))
stands_next key place k a b named none next fit =
    let at : place - 1 ≡ length k.keys = omega arith in (
      named.0,
      record {
        made = named.1.0;
        left = listing key k;
        seat = named.1.1;
        had = named.1.2;
        did = named.1.3;
        answer = inr (none, next, refl);
        stands = (omega arith, fit, ap (slice_get (k.keys ++ key ∷ [])) at ∙ key_last k.keys key);
      },
    )

-- ---- the directory's latch is given back

-- what is learnt of a record
abbrev learning : Keys → ℕ → List KnownKey
learning k place = option_to_list (option_map (λ key. record { key = key; place = place }) (recorded_key (Some k) place))

learning_one : (k : Keys) (place : ℕ) (key : KeyName) → 0 < place → key_at k.keys place ≡ Some key → learning k place ≡ record { key = key; place = place } ∷ []
learning_one k place key some e = rw (lt-ltb 0 place some) (ap (λ (o : Option KeyName). option_to_list (option_map {T = KeyName} {U = KnownKey} (λ x. record { key = x; place = place }) o)) e)

module _ (key : KeyName) (result : Result ℕ ResolveError) (a b c : SeatState) (taken : TakesDirectory a b)
    (told : (k : Keys) → HasDirectory k b.me → AtItsTable b c (HasLooked b.table.slots key k result)) where
  pub looked : HasLooked a.table.slots key taken.1 result b.me c.me
  looked = subst (λ (id : TableId). HasLooked id.slots key taken.1 result b.me c.me) (table_of taken.3)
      (told taken.1 (subst (HasDirectory taken.1) (sym (mine taken.3)) (has_taken taken.1 (and_made taken.0 a.me)))).1

  pub may_inform_looked : MayInform c.me
  may_inform_looked = (looked.left, subst (HasDirectory looked.left) (sym looked.seat) (record { recorded = refl; carried = refl }))

  module _ (place : ℕ) (e : SeatState) (put : e ≡ record c { me = informed (learnt c.me place) c.me }) (idle : HoldsNoLatch a.me) where
    abbrev took : StepRecord
    took = record { kind = TakeLatch; deeds = []; word = latch_word 0; found = 0; held = a.me.0.latches; directory = Some taken.1 }

    abbrev gave : StepRecord
    gave = record { kind = PutLatch; deeds = []; word = latch_word 0; found = a.me.0.number; held = a.me.0.latches; directory = Some looked.left }

    abbrev all : List StepRecord
    all = taken.0 ++ (took ∷ looked.made ++ gave ∷ [])

    joined : (((a.me.0.log ++ taken.0) ++ took ∷ []) ++ looked.made) ++ gave ∷ [] ≡ a.me.0.log ++ all
    joined = simp append_assoc

    -- only steps were made, and this is known
    put_is : e.me ≡ (record a.me.0 { log = a.me.0.log ++ all; known = a.me.0.known ++ learning looked.left place }, a.me.1)
    put_is = mine put
        ∙ ap (λ (m : Mine). informed (learnt m place) m) (looked.seat ∙ ap (relisted looked.made looked.left) (mine taken.3))
        ∙ (λ i. (record a.me.0 { log = joined i; directory = no_record a.me.0.directory idle.1 i; known = a.me.0.known ++ learning looked.left place }, a.me.1))

    did_all : deeds_of all ≡ []
    did_all = none_then taken.0 (took ∷ looked.made ++ gave ∷ []) [] taken.5 (none_then looked.made (gave ∷ []) [] looked.did refl)

    pub idle_then : HoldsNoLatch e.me
    idle_then = subst HoldsNoLatch (sym put_is) idle

    pub answered : (k left : Keys) × AtItsTable a e (TookDirectory a.table.slots k left) × IsLookupAnswer a.table.slots key k left result
    answered = (
      taken.1,
      looked.left,
      (
        table_of put ∙ (told taken.1 (subst (HasDirectory taken.1) (sym (mine taken.3)) (has_taken taken.1 (and_made taken.0 a.me)))).0 ∙ table_of taken.3,
        record {
          before = taken.0;
          within = looked.made;
          after = [];
          recorded = taken.2;
          listed = ap (λ (m : Mine). m.0.log) put_is
              ∙ sym (append_assoc (a.me.0.log ++ taken.0) (took ∷ []) (looked.made ++ gave ∷ []) ∙ append_assoc a.me.0.log taken.0 (took ∷ looked.made ++ gave ∷ []));
          none_before = had_none a.me idle taken.0 taken.4;
          either_within = looked.had;
          none_after = tt;
        },
      ),
      looked.answer,
    )

    pub knows_one : (0 < place) × (place < a.table.slots) × (key_at looked.left.keys place ≡ Some key) → (0 < place) × (place < a.table.slots) × MakesSteps (knowing_key (record { key = key; place = place }) a.me) e.me
    knows_one stands = (
      stands.0,
      stands.1,
      (
        all,
        put_is ∙ ap (λ (more : List KnownKey). (record a.me.0 { log = a.me.0.log ++ all; known = a.me.0.known ++ more }, a.me.1)) (learning_one looked.left place key stands.0 stands.2),
        did_all,
      ),
    )

    pub knows_nothing : place ≡ 0 → MakesSteps a.me e.me
    knows_nothing none = (
      all,
      put_is
          ∙ ap (λ (p : ℕ). (record a.me.0 { log = a.me.0.log ++ all; known = a.me.0.known ++ learning looked.left p }, a.me.1)) none
          ∙ ap (λ (known : List KnownKey). (record a.me.0 { log = a.me.0.log ++ all; known = known }, a.me.1)) (append-nil a.me.0.known),
      did_all,
    )
