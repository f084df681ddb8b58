-- Books of which no two have one key have one order.
use Rattle.std.proofs.Common.{◌≡◌, Bool, true, false, inl, inr, List, [], ◌∷◌, ◌++◌, get_or, map, refl, sym, ap, ◌∙◌, arith}
use Rattle.std.specs.Prelude.{All, AllPairs, Contains}
use Rattle.std.specs.List.{IsDistinct}
use Rattle.std.specs.Ordering.{is_eq, is_lt, ordering_reverse}
use Rattle.std.specs.declared.cmp.Ordering.{Ordering}
use Rattle.std.specs.declared.cmp.Ordering.TheVariants.{Less, Equal, Greater}
use Rattle.std.proofs.lemmas.List.Elements.{All-cons, All-nil, recursion_from_All}
use Rattle.std.proofs.lemmas.List.Sorted.{Contains-permutation, IsPermutation-sym, ranks_by, sorted_far}
use Rattle.std.proofs.lemmas.Map.Keys.{IsDistinct-IsPermutation, IsDistinct-cons, IsDistinct-from_apart, apart_from_distinct}
use Rattle.mdl_core.proofs.PairLemmas.{pairs-head, pairs-tail}
use Rattle.mdl_key.specs.Keys.{KeyName, key_cmp, key_eq}
use Rattle.mdl_system.proofs.Deciding.{key-Decides}
use Rattle.mdl_steps.specs.Lists.{Distinct, Each}
use Rattle.mdl_system.proofs.OrderLemmas.{Contains-cons_cases, Contains-here, Contains-later}
use Rattle.mdl_visits.specs.declared.audited.Audited.{Audited}
use Rattle.mdl_visits.proofs.Sorting.{key-ties, key-total}
use Rattle.mdl_script.specs.Finals.{AreInKeyOrder, finals_text}
use Rattle.mdl_script.specs.RunLaws.{RunsHaveOneText}
use Rattle.mdl_script.specs.RunTexts.{transcripts_text}

-- ---- keys

-- of two keys one at the most is less
not_both : (j k : KeyName) → key_cmp j k ≡ Less → key_cmp k j ≡ Less → ⊥
not_both j k there back = let turned = key-total.antisymm j k in let greater : key_cmp j k ≡ Greater = turned ∙ ap ordering_reverse back in cc

-- of two keys that differ, that which isn't greater is less
less : (j k : KeyName) → key_eq j k ≡ false → is_lt (key_cmp k j) ≡ false → key_cmp j k ≡ Less
less j k apart after = by (key_cmp j k) refl
  where
    by : (how : Ordering) → key_cmp j k ≡ how → key_cmp j k ≡ Less
    by Less e = e
    by Equal e = let both : true ≡ false = sym (key-ties j k ∙ ap is_eq e) ∙ apart in absurd (cc)
    by Greater e = let both : true ≡ false = sym (ap is_lt (key-total.antisymm k j ∙ ap ordering_reverse e)) ∙ after in absurd (cc)

-- the test of two keys that differ
test_of : (j k : KeyName) → ((j ≡ k) → ⊥) → key_eq j k ≡ false
test_of j k differ = by (key_eq j k) refl
  where
    by : (b : Bool) → key_eq j k ≡ b → key_eq j k ≡ false
    by true e = absurd (differ ((key-Decides j k).0 e))
    by false e = e

either_way : (j k : KeyName) → key_eq j k ≡ key_eq k j
either_way j k = by (key_eq k j) refl
  where
    by : (b : Bool) → key_eq k j ≡ b → key_eq j k ≡ key_eq k j
    by true e = (key-Decides j k).1 (sym ((key-Decides k j).0 e)) ∙ sym e
    by false e = test_of j k (λ same. let both : true ≡ false = sym ((key-Decides k j).1 (sym same)) ∙ e in cc) ∙ sym e

-- ---- books

abbrev Before : Audited → Audited → Type 0
Before one other = key_cmp one.book.key other.book.key ≡ Less

abbrev same_key : Audited → Audited → Bool
same_key one other = key_eq one.book.key other.book.key

differ : (books : List Audited) → Distinct (map (λ (audited : Audited). audited.book.key) books) → IsDistinct same_key books
differ [] distinct = IsDistinct-from_apart same_key [] (λ i j d before short. absurd (omega arith))
differ (book ∷ books) distinct =
    IsDistinct-cons same_key book books (recursion_from_All (λ (other : Audited). same_key book other ≡ false) books (others books distinct.0)) (differ books distinct.1)
  where
    others : (more : List Audited) → Each (λ key. (book.book.key ≡ key) → ⊥) (map (λ (audited : Audited). audited.book.key) more)
        → All (λ (other : Audited). same_key book other ≡ false) more
    others [] each = All-nil (λ (other : Audited). same_key book other ≡ false)
    others (other ∷ more) each =
        All-cons (λ (other : Audited). same_key book other ≡ false) other more (test_of book.book.key other.book.key each.0) (others more each.1)

-- of books in the order of their keys each is before all that come later
rises : (books sorted : List Audited) → Distinct (map (λ (audited : Audited). audited.book.key) books) → AreInKeyOrder books sorted → AllPairs Before sorted
rises books sorted distinct ordered i j d before short =
    less (get_or sorted i d).book.key (get_or sorted j d).book.key
    (apart_from_distinct same_key sorted i j d
    (IsDistinct-IsPermutation same_key (λ one other. either_way one.book.key other.book.key) books sorted ordered.same (differ books distinct)) before short)
    (sorted_far (λ (one other : Audited). is_lt (key_cmp one.book.key other.book.key)) (ranks_by key-total (λ (x : Audited). x.book.key)) sorted ordered.rising i j d (omega (arith, before)) short)

-- ---- two lists of the same books

none : (x : Audited) → Contains [] x → ⊥
none x among = let short = among.1 in omega arith

same_first : (x y : Audited) (xs ys : List Audited) → AllPairs Before (x ∷ xs) → AllPairs Before (y ∷ ys) → Contains (y ∷ ys) x → Contains (x ∷ xs) y → x ≡ y
same_first x y xs ys rising also there here = elim (Contains-cons_cases y ys x there) [
  | inr same ↦ same
  | inl later ↦ elim (Contains-cons_cases x xs y here) [
    | inr same ↦ sym same
    | inl behind ↦ absurd (not_both x.book.key y.book.key (pairs-head Before x xs rising y behind) (pairs-head Before y ys also x later))
  ]
]

-- what is among the rest of one list is among the rest of the other, which begins with the same book
of_rest : (x y : Audited) (xs ys : List Audited) → AllPairs Before (x ∷ xs) → x ≡ y → (z : Audited) → Contains xs z → Contains (y ∷ ys) z → Contains ys z
of_rest x y xs ys rising same z among there = elim (Contains-cons_cases y ys z there) [
  | inl later ↦ later
  | inr first ↦
      let less_than : Before x z = pairs-head Before x xs rising z among in
      let itself : z ≡ x = first ∙ sym same in
      absurd (not_both x.book.key z.book.key less_than (ap (λ (w : Audited). key_cmp w.book.key x.book.key) itself ∙ sym (ap (λ (w : Audited). key_cmp x.book.key w.book.key) itself) ∙ less_than))
]

one_list : (one other : List Audited) → AllPairs Before one → AllPairs Before other
    → ((z : Audited) → Contains one z → Contains other z) → ((z : Audited) → Contains other z → Contains one z) → one ≡ other
one_list [] [] rising also to back = refl
one_list [] (y ∷ ys) rising also to back = absurd (none y (back y (Contains-here y ys)))
one_list (x ∷ xs) [] rising also to back = absurd (none x (to x (Contains-here x xs)))
one_list (x ∷ xs) (y ∷ ys) rising also to back =
    let first : x ≡ y = same_first x y xs ys rising also (to x (Contains-here x xs)) (back y (Contains-here y ys)) in
    let rest : xs ≡ ys =
    one_list xs ys (pairs-tail Before x xs rising) (pairs-tail Before y ys also)
    (λ z among. of_rest x y xs ys rising first z among (to z (Contains-later x xs z among)))
    (λ z among. of_rest y x ys xs also (sym first) z among (back z (Contains-later y ys z among))) in
    cc

one_order : (books one other : List Audited) → Distinct (map (λ (audited : Audited). audited.book.key) books) → AreInKeyOrder books one → AreInKeyOrder books other → one ≡ other
one_order books one other distinct ordered also =
    one_list one other (rises books one distinct ordered) (rises books other distinct also)
    (λ z among. Contains-permutation books other z also.same (Contains-permutation one books z (IsPermutation-sym books one ordered.same) among))
    (λ z among. Contains-permutation books one z ordered.same (Contains-permutation other books z (IsPermutation-sym books other also.same) among))

-- ---- texts

pub one_text : RunsHaveOneText
one_text lines transcripts books one other distinct is also =
    let order : is.sorted ≡ also.sorted = one_order books is.sorted also.sorted distinct is.in_order also.in_order in
    is.is ∙ ap (λ (sorted : List Audited). transcripts_text transcripts ++ finals_text sorted) order ∙ sym also.is
