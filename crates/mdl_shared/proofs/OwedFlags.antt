-- The flags of the places of a session's own list of tickets.
use Rattle.std.proofs.Common.{◌≡◌, inl, inr, ℕ, zero, suc, ◌<◌, ◌≤◌, ◌==◌, ◌&&◌, Bool, true, false, List, [], ◌∷◌, ◌++◌, length, get_or, replicate, take, Option, Some, None, if◌then◌else◌, refl, sym, ap, ◌∙◌, arith, MatchOption, nat_lt, slice_index_or, slice_set, eqb-true, lt-ltb, get_or-set_other, get_or-set_same, take_all}
use Rattle.std.proofs.lemmas.Option.{slice_get_cases}
use lib.ListN.{get_or-map}
use lib.Seq.{map-set_same}
use Rattle.mdl_shared.proofs.FirstLemmas.{OfPlace, by_bool, eqb-false, fails_before_first, flags_of, get_or_past, length-map, map-set, nat_tests, no_place, owed_in, position, position-Some, position_or_len}

-- a flag is that of its place, and down past the last one
pub flag-of : (q : ℕ) (ps : List OfPlace) → owed_in q (flags_of ps) ≡ (get_or ps q no_place).owes
flag-of q ps = get_or-map (λ (p : OfPlace). p.owes) ps q no_place

-- the flags are those that they were where that of a place that was changed is
pub flags_kept : (ps : List OfPlace) (place : ℕ) (old new : OfPlace) → old ≡ slice_index_or ps place old → new.owes ≡ old.owes → flags_of (slice_set ps place new) ≡ flags_of ps
flags_kept ps place old new there same = map-set_same (λ (p : OfPlace). p.owes) ps place new old (same ∙ ap (λ (p : OfPlace). p.owes) there)

-- a flag that was set is this one, and the others are as they were
pub flag_set : (ps : List OfPlace) (place : ℕ) (new : OfPlace) → place < length ps → (q : ℕ)
    → owed_in q (flags_of (slice_set ps place new)) ≡ (if q == place && nat_lt place (length ps) then new.owes else owed_in q (flags_of ps))
flag_set ps place new inside q =
    let flags = map-set (λ (p : OfPlace). p.owes) ps place new in
    let long : place < length (flags_of ps) = (let same : length (flags_of ps) ≡ length ps = length-map ps (λ (p : OfPlace). p.owes) in omega (arith, inside, same)) in
    ap (owed_in q) flags ∙ by_bool (q == place)
    (λ here. rw (here, lt-ltb place (length ps) inside) (ap (λ i. owed_in i (slice_set (flags_of ps) place new.owes)) (eqb-true q place here) ∙ get_or-set_same (flags_of ps) place new.owes false long))
    (λ away. rw away (get_or-set_other (flags_of ps) place q new.owes false (eqb-false q place away)))

-- flags that are added are down
none-more : (ps : List OfPlace) (more q : ℕ) → get_or (ps ++ replicate more no_place) q no_place ≡ get_or ps q no_place
none-more [] zero q = refl
none-more [] (suc more) zero = refl
none-more [] (suc more) (suc q) = none-more [] more q
none-more (p ∷ ps) more zero = refl
none-more (p ∷ ps) more (suc q) = none-more ps more q

pub flags_more : (ps qs : List OfPlace) (count more : ℕ) (done : Bool) → length ps ≤ count → qs ≡ (if done then take count ps ++ replicate more no_place else ps)
    → (q : ℕ) → owed_in q (flags_of qs) ≡ owed_in q (flags_of ps)
flags_more ps qs count more false longer is q = ap (λ (l : List OfPlace). owed_in q (flags_of l)) is
flags_more ps qs count more true longer is q =
    let now : qs ≡ ps ++ replicate more no_place = is ∙ ap (λ (l : List OfPlace). l ++ replicate more no_place) (take_all count ps longer) in
    ap (λ (l : List OfPlace). owed_in q (flags_of l)) now ∙ flag-of q (ps ++ replicate more no_place) ∙ ap (λ (p : OfPlace). p.owes) (none-more ps more q) ∙ sym (flag-of q ps)

-- where no flag is up, none is anywhere
none-up : (ps : List OfPlace) → position (λ (p : OfPlace). p.owes) ps ≡ None → (q : ℕ) → owed_in q (flags_of ps) ≡ false
none-up ps none q = elim (slice_get_cases ps q).1 [
  | inl within ↦
      let past : length ps ≤ position_or_len (λ (p : OfPlace). p.owes) ps = grind (arith, nat_tests) in
      flag-of q ps ∙ fails_before_first (λ (p : OfPlace). p.owes) ps q no_place (let inside = within.1 in omega arith)
  | inr beyond ↦ flag-of q ps ∙ ap (λ (p : OfPlace). p.owes) (get_or_past ps q no_place beyond.0)
]

-- the first flag that is up
pub first-up : (ps : List OfPlace) (found : Option ℕ) → length ps ≤ 65536 → found ≡ position (λ (p : OfPlace). p.owes) ps
    → MatchOption found ((q : ℕ) → owed_in q (flags_of ps) ≡ false)
    (λ place. (place < 65536) × (owed_in place (flags_of ps) ≡ true) × ((q : ℕ) → q < place → owed_in q (flags_of ps) ≡ false))
first-up ps None narrow is = none-up ps (sym is)
first-up ps (Some place) narrow is =
    let first = position-Some (λ (p : OfPlace). p.owes) ps place no_place (sym is) in
    (omega (arith, narrow, first.0), flag-of place ps ∙ first.1, λ q before. flag-of q ps ∙ first.2 q before)
