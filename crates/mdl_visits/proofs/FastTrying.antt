-- What comes of a try for a fast ticket.
use Rattle.std.proofs.Common.{◌≡◌, ◌≢◌, inl, inr, ◌<◌, ℕ, ◌+◌, false, List, [], ◌∷◌, ◌++◌, refl, sym, ap, ◌∙◌, subst, append_assoc, length-append, arith, Option}
use Rattle.mdl_visits.proofs.Common.{AllMiss, Deed, Each, Gain, GrantFast, GrantsAtLast, GrantsFast, MayGrantFast, Mine, MissFast, Misses, MissesAfter, MissesFew, Mode, StaysOn, StaysThere, StepKind, StepRecord, and_made, gives_back, granted_fast, kind_raises_flags, last_found, lock_word, missed_fast, obtrusive_flag, with_fast}
use Rattle.mdl_visits.proofs.Steps.{each_append, none_then}

-- the step that a session with these latches made at a place
abbrev pub met_at : StepKind → List Deed → ℕ → ℕ → Mine → StepRecord
met_at kind ds place found m = record { kind = kind; deeds = ds; word = lock_word place; found = found; held = m.0.latches; directory = m.0.directory }

-- the step of a fast grant
abbrev grant_at : ℕ → Mode → ℕ → Mine → StepRecord
grant_at place mode found m = met_at GrantFast (Gain m.0.next mode ∷ []) place found m

-- ---- the first one granted the ticket

module _ (place : ℕ) (mode : Mode) (noted : Option ℕ) (found : ℕ) (m m′ : Mine) (is : m′ ≡ granted_fast place mode noted found m) where
  pub grants_first : GrantsFast place mode noted m m′
  grants_first = record { made = grant_at place mode found m ∷ []; now = is; did = refl }

  pub lasts_first : obtrusive_flag found ≡ false → GrantsAtLast place (Gain m.0.next mode) m m′
  lasts_first clear =
      (m, grant_at place mode found m, inl refl, ap (λ (x : Mine). x.0.log) is, record { kind = refl; did = refl; word = refl; clear = clear })

  pub stays_first : StaysOn m m′
  stays_first = (grant_at place mode found m ∷ [], ap (λ (x : Mine). x.0.log) is, ((refl, refl), tt))

-- ---- steps that missed

miss_push : (place before : ℕ) (tries : List StepRecord) (e : StepRecord) → AllMiss place before tries → MissesAfter place (last_found before tries) e
    → AllMiss place before (tries ++ e ∷ [])
miss_push place before [] e all miss = (miss, tt)
miss_push place before (x ∷ xs) e all miss = (all.0, miss_push place x.found xs e all.1 miss)

last_push : (before : ℕ) (tries : List StepRecord) (e : StepRecord) → last_found before (tries ++ e ∷ []) ≡ e.found
last_push before [] e = refl
last_push before (x ∷ xs) e = last_push x.found xs e

all_stay : (place before : ℕ) (tries : List StepRecord) → AllMiss place before tries → Each StaysThere tries
all_stay place before [] all = tt
all_stay place before (x ∷ xs) all = ((ap gives_back all.0.kind, ap kind_raises_flags all.0.kind), all_stay place x.found xs all.1)

-- ---- after so many of them

-- the first one
pub first_miss : (place word : ℕ) (m m′ : Mine) → m′ ≡ missed_fast place word m → Misses place 0 word m m′
first_miss place word m m′ is = record {
  first = met_at MissFast [] place word m;
  tries = [];
  now = is;
  did = refl;
  missed = (refl, refl);
  miss = tt;
  often = refl;
  last = refl;
}

module _ {place count word : ℕ} {m m′ : Mine} (missed : Misses place count word m m′) where
  -- the session may try again
  pub may_again : (mode : Mode) (noted : Option ℕ) (one : ℕ) → MayGrantFast place mode noted one m → MayGrantFast place mode noted one m′
  may_again mode noted one may =
      subst (MayGrantFast place mode noted one) (sym missed.now)
      (record { idle = may.idle; counted_so = may.counted_so; few = may.few; noted_there = may.noted_there })

  -- it missed once more
  pub missed_again : (found : ℕ) (m″ : Mine) → m″ ≡ missed_fast place found m′ → obtrusive_flag word ≡ false → found ≢ word → Misses place (count + 1) found m m″
  missed_again found m″ is clear other =
      let e = met_at MissFast [] place found m in
      let often = missed.often in
      let longer = length-append missed.tries (e ∷ []) in
      record {
        first = missed.first;
        tries = missed.tries ++ e ∷ [];
        now = is ∙ ap (missed_fast place found) missed.now ∙ (λ i. (record m.0 { log = append_assoc m.0.log (missed.first ∷ missed.tries) (e ∷ []) i }, m.1));
        did = none_then (missed.first ∷ missed.tries) (e ∷ []) [] missed.did refl;
        missed = missed.missed;
        miss = miss_push place missed.first.found missed.tries e missed.miss
            (record { kind = refl; word = refl; clear = ap obtrusive_flag missed.last ∙ clear; other = λ same. other (same ∙ missed.last) });
        often = omega arith;
        last = last_push missed.first.found missed.tries e;
      }

  stay_there : Each StaysThere (missed.first ∷ missed.tries)
  stay_there = ((ap gives_back missed.missed.0, ap kind_raises_flags missed.missed.0), all_stay place missed.first.found missed.tries missed.miss)

  pub stays_missed : StaysOn m m′
  stays_missed = (missed.first ∷ missed.tries, ap (λ (x : Mine). x.0.log) missed.now, stay_there)

  -- the next one granted the ticket
  module _ (mode : Mode) (noted : Option ℕ) (found : ℕ) (m″ : Mine) (is : m″ ≡ granted_fast place mode noted found m′) where
    grant : StepRecord
    grant = grant_at place mode found m

    made : List StepRecord
    made = missed.first ∷ missed.tries

    whole : m″ ≡ granted_fast place mode noted found (and_made made m)
    unfolding made
    whole = is ∙ ap (granted_fast place mode noted found) missed.now

    pub grants_fast : GrantsFast place mode noted m m″
    unfolding grant made
    grants_fast = record {
      made = made ++ grant ∷ [];
      now = whole ∙ (λ i. (record (with_fast place mode noted m.0) { log = append_assoc m.0.log made (grant ∷ []) i }, m.1));
      did = none_then made (grant ∷ []) (Gain m.0.next mode ∷ []) missed.did refl;
    }

    pub grants_at_last : count < 8 → found ≡ word → obtrusive_flag found ≡ false → GrantsAtLast place (Gain m.0.next mode) m m″
    grants_at_last few same clear = (
      m′,
      grant_at place mode found m′,
      inr (subst (λ (n : ℕ). MissesFew place n m m′) (sym same) (count, few, missed)),
      ap (λ (x : Mine). x.0.log) is,
      record { kind = refl; did = ap (λ (x : Mine). Gain x.0.next mode ∷ []) missed.now; word = refl; clear = clear },
    )

    pub stays_granted : StaysOn m m″
    unfolding grant made
    stays_granted = (
      made ++ grant ∷ [],
      ap (λ (x : Mine). x.0.log) whole ∙ append_assoc m.0.log made (grant ∷ []),
      each_append StaysThere made (grant ∷ []) stay_there ((refl, refl), tt),
    )
