-- Pairs and the place of the one before under the same key.
use Rattle.std.proofs.Common.{◌≡◌, ◌≢◌, ℕ, zero, suc, ◌≤◌, ◌<◌, ◌+◌, ◌-◌, Bool, true, false, List, [], ◌∷◌, ◌++◌, length, drop, refl, ap, sym, subst, ◌∙◌, inl, inr, arith, get_or, get_or-set_same, get_or-set_other}
use Rattle.std.specs.Prelude.{◌&&◌, ◌||◌, ◌==◌, slice_set, slice_index}
use Rattle.std.specs.List.{list_any}
use Rattle.std.proofs.lemmas.Bool.{cases_eq, cases_lt, eq-eqb}
use Rattle.std.proofs.lemmas.Bool.Decides.{nat_tests}
use Rattle.std.proofs.lemmas.List.{get_or_append_left}
use Rattle.mdl_graph.specs.Searches.{Pairs, key_at, value_at, IsLast, AreLinked}

-- ---- one pair more

get_last : {X : Type 0} (xs : List X) (x d : X) → get_or (xs ++ x ∷ []) (length xs) d ≡ x
get_last [] x d = refl
get_last (y ∷ xs) x d = get_last xs x d

length_push : {X : Type 0} (xs : List X) (x : X) → length (xs ++ x ∷ []) ≡ suc (length xs)
length_push [] x = refl
length_push (y ∷ xs) x = ap suc (length_push xs x)

key-push : (pairs : Pairs) (pair : ℕ × ℕ) (place : ℕ) → place < length pairs → key_at (pairs ++ pair ∷ []) place ≡ key_at pairs place
key-push pairs pair place inside = ap (λ (p : ℕ × ℕ). p.0) (get_or_append_left pairs (pair ∷ []) (0, 0) place inside)

key-last : (pairs : Pairs) (pair : ℕ × ℕ) → key_at (pairs ++ pair ∷ []) (length pairs) ≡ pair.0
key-last pairs pair = ap (λ (p : ℕ × ℕ). p.0) (get_last pairs pair (0, 0))

-- what is the last before an end stays so
last-push : (pairs : Pairs) (pair : ℕ × ℕ) (key end at : ℕ) → end ≤ length pairs → IsLast pairs key end at → IsLast (pairs ++ pair ∷ []) key end at
last-push pairs pair key end at short is = record {
  inside = is.inside;
  here = λ place same. key-push pairs pair place (omega (arith, same, is.inside, short)) ∙ is.here place same;
  none = λ place from before here. is.none place from before (sym (key-push pairs pair place (omega (arith, before, short))) ∙ here);
}

-- the new pair is the last under its key
last-new : (pairs : Pairs) (pair : ℕ × ℕ) → IsLast (pairs ++ pair ∷ []) pair.0 (suc (length pairs)) (suc (length pairs))
last-new pairs pair = record {
  inside = omega arith;
  here = λ place same. let at : place ≡ length pairs = omega (arith, same) in rw at (key-last pairs pair);
  none = λ place from before here. absurd (omega (arith, from, before));
}

-- and no other key's
last-other : (pairs : Pairs) (pair : ℕ × ℕ) (key at : ℕ) → (key ≢ pair.0) → IsLast pairs key (length pairs) at
    → IsLast (pairs ++ pair ∷ []) key (suc (length pairs)) at
last-other pairs pair key at apart is =
    let was = last-push pairs pair key (length pairs) at (omega arith) is in
    record {
      inside = omega (arith, is.inside);
      here = was.here;
      none = λ place from before here. elim (cases_lt place (length pairs)) [
        | inl less ↦ was.none place from less here
        | inr last ↦ let at : place ≡ length pairs = omega (arith, last, before) in apart (sym here ∙ ap (key_at (pairs ++ pair ∷ [])) at ∙ key-last pairs pair)
      ];
    }

pub linked-push : (lasts : List ℕ) (pairs : Pairs) (befores : List ℕ) (pair : ℕ × ℕ) (count : ℕ) → pair.0 < length lasts → count ≡ suc (length pairs)
    → AreLinked lasts pairs befores
    → AreLinked (slice_set lasts pair.0 count) (pairs ++ pair ∷ []) (befores ++ slice_index lasts pair.0 ∷ [])
linked-push lasts pairs befores pair count inside is_count linked = record {
  same = length_push befores (slice_index lasts pair.0) ∙ ap suc linked.same ∙ sym (length_push pairs pair);
  last = λ key.
      rw (length_push pairs pair)
      (elim (cases_eq key pair.0) [
        | inl same ↦
            let at : slice_index (slice_set lasts pair.0 count) key ≡ suc (length pairs) = rw same (get_or-set_same lasts pair.0 count 0 inside ∙ is_count) in
            rw (at, same) (last-new pairs pair)
        | inr apart ↦
            let at : slice_index (slice_set lasts pair.0 count) key ≡ slice_index lasts key = get_or-set_other lasts pair.0 key count 0 apart in
            rw at (last-other pairs pair key (slice_index lasts key) apart (linked.last key))
      ]);
  before = λ place short. elim (cases_lt place (length pairs)) [
    | inl less ↦
        let at : slice_index (befores ++ slice_index lasts pair.0 ∷ []) place ≡ slice_index befores place =
        get_or_append_left befores (slice_index lasts pair.0 ∷ []) 0 place (omega (arith, less, linked.same)) in
        rw (at, key-push pairs pair place less) (last-push pairs pair (key_at pairs place) place (slice_index befores place) (omega (arith, less)) (linked.before place less))
    | inr last ↦
        let at : place ≡ length pairs = omega (arith, last, length_push pairs pair, short) in
        let here : slice_index (befores ++ slice_index lasts pair.0 ∷ []) (length pairs) ≡ slice_index lasts pair.0 =
        rw (← linked.same) (get_last befores (slice_index lasts pair.0) 0) in
        rw (at, here, key-last pairs pair) (last-push pairs pair pair.0 (length pairs) (slice_index lasts pair.0) (omega arith) (linked.last pair.0))
  ];
}

-- ---- the way from the last pair under a key to its first

-- whether one of the pairs from a place on is under a key and passes
abbrev pub any_from : (ℕ → Bool) → Pairs → ℕ → ℕ → Bool
any_from test pairs key place = list_any (λ pair. pair.0 == key && test pair.1) (drop place pairs)

drop_more : (pairs : Pairs) (place : ℕ) → place < length pairs → drop place pairs ≡ get_or pairs place (0, 0) ∷ drop (suc place) pairs
drop_more [] place inside = absurd (omega (arith, inside))
drop_more (pair ∷ pairs) zero inside = refl
drop_more (pair ∷ pairs) (suc place) inside = drop_more pairs place (omega (arith, inside))

-- a pair under the key
pub any-here : (test : ℕ → Bool) (pairs : Pairs) (key place : ℕ) → place < length pairs → key_at pairs place ≡ key
    → any_from test pairs key place ≡ (test (value_at pairs place) || any_from test pairs key (suc place))
any-here test pairs key place inside here =
    let same : (key_at pairs place == key) ≡ true = eq-eqb (key_at pairs place) key here in
    rw (drop_more pairs place inside, same) refl

-- pairs that are not
any-skip : (test : ℕ → Bool) (pairs : Pairs) (key more place : ℕ) → place + more ≤ length pairs
    → ((other : ℕ) → place ≤ other → other < place + more → key_at pairs other ≡ key → ⊥)
    → any_from test pairs key place ≡ any_from test pairs key (place + more)
any-skip test pairs key zero place inside none = let end : place + 0 ≡ place = omega arith in rw end refl
any-skip test pairs key (suc more) place inside none =
    let end : place + suc more ≡ suc place + more = omega arith in
    let apart : (key_at pairs place == key) ≡ false = elim (cases_eq (key_at pairs place) key) [
      | inl same ↦ absurd (none place (omega arith) (omega arith) same)
      | inr differ ↦ grind (arith, nat_tests, differ)
    ] in
    let here : any_from test pairs key place ≡ any_from test pairs key (suc place) = rw (drop_more pairs place (omega (arith, inside)), apart) refl in
    here ∙ any-skip test pairs key more (suc place) (omega (arith, inside)) (λ other from before. none other (omega (arith, from)) (omega (arith, before))) ∙ rw end refl

-- from the last one on there is none
pub any-last : (test : ℕ → Bool) (pairs : Pairs) (key end at : ℕ) → end ≤ length pairs → IsLast pairs key end at
    → any_from test pairs key at ≡ any_from test pairs key end
any-last test pairs key end at short is =
    let more : ℕ = end - at in
    let whole : at + more ≡ end = omega (arith, is.inside) in
    any-skip test pairs key more at (omega (arith, short, whole)) (λ other from before. is.none other from (omega (arith, before, whole))) ∙ rw whole refl

-- one step on the way
pub any-step : (test : ℕ → Bool) (pairs : Pairs) (key end at place before : ℕ) → at ≡ suc place → end ≤ length pairs → IsLast pairs key end at
    → IsLast pairs (key_at pairs place) place before
    → any_from test pairs key before ≡ (test (value_at pairs place) || any_from test pairs key at)
any-step test pairs key end at place before is_at short is is_before =
    let here : key_at pairs place ≡ key = is.here place is_at in
    let was : IsLast pairs key place before = subst (λ (k : ℕ). IsLast pairs k place before) here is_before in
    let inside : place < length pairs = omega (arith, is_at, is.inside, short) in
    any-last test pairs key place before (omega (arith, inside)) was ∙ any-here test pairs key place inside here ∙ rw is_at refl

-- on the way from the last pair under a key
pub record IsOnWay (pairs : Pairs) (key at : ℕ) : Type 0 where
  pub end : ℕ
  pub short : end ≤ length pairs
  pub is : IsLast pairs key end at

pub way-begun : (pairs : Pairs) (key at : ℕ) → IsLast pairs key (length pairs) at → IsOnWay pairs key at
way-begun pairs key at is = record { end = length pairs; short = omega arith; is = is }

pub way-inside : (pairs : Pairs) (key at : ℕ) → IsOnWay pairs key at → at ≤ length pairs
way-inside pairs key at way = omega (arith, way.is.inside, way.short)

pub way-more : (pairs : Pairs) (key at place before : ℕ) → at ≡ suc place → IsOnWay pairs key at → IsLast pairs (key_at pairs place) place before
    → IsOnWay pairs key before
way-more pairs key at place before is_at way is = record {
  end = place;
  short = omega (arith, way.is.inside, way.short, is_at);
  is = subst (λ (k : ℕ). IsLast pairs k place before) (way.is.here place is_at) is;
}

pub way-step : (test : ℕ → Bool) (pairs : Pairs) (key at place before : ℕ) → at ≡ suc place → IsOnWay pairs key at → IsLast pairs (key_at pairs place) place before
    → any_from test pairs key before ≡ (test (value_at pairs place) || any_from test pairs key at)
way-step test pairs key at place before is_at way is = any-step test pairs key way.end at place before is_at way.short way.is is

pub any-none : (test : ℕ → Bool) (pairs : Pairs) (key : ℕ) → any_from test pairs key (length pairs) ≡ false
any-none test [] key = refl
any-none test (pair ∷ pairs) key = any-none test pairs key

pub way-none : (test : ℕ → Bool) (pairs : Pairs) (key at : ℕ) → IsLast pairs key (length pairs) at → any_from test pairs key at ≡ false
way-none test pairs key at is = any-last test pairs key (length pairs) at (omega arith) is ∙ any-none test pairs key
