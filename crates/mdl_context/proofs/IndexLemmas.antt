-- Numbers by place: one taken out of numbers that rise, and lists without numbers.
use Rattle.std.proofs.Common.{◌≡◌, ◌≢◌, ◌∙◌, ℕ, zero, suc, ◌<◌, ◌≤◌, List, [], ◌∷◌, ◌++◌, ◌-◌, length, get_or, Result, Ok, Err, Some, refl, sym, ap, drop, take, arith, length-append}
use Rattle.std.specs.Prelude.{nat_lt, slice_get, IsTrue}
use Rattle.std.specs.List.{list_all, remove}
use Rattle.std.specs.List.Sorted.{IsBinarySearchResult}
use Rattle.std.specs.Ordering.{nat_cmp}
use Rattle.std.proofs.lemmas.Bool.Decides.{nat_tests}
use Rattle.std.proofs.lemmas.List.{append-nil, drop_all, take_at}
use Rattle.std.proofs.lemmas.Option.{slice_get-get_or}
use Rattle.std.proofs.lemmas.List.Sorted.{searched}
use Rattle.mdl_context.specs.Indexes.{Index, NumberList, rises, ticket_numbers, without_last, without_one}

-- ---- a number among numbers that rise

abbrev pub AllAbove : ℕ → List ℕ → Type 0
AllAbove n ns = IsTrue (list_all (nat_lt n) ns)

above_at : (n : ℕ) (ns : List ℕ) (j : ℕ) → AllAbove n ns → j < length ns → n < get_or ns j 0
above_at n [] j above inside = absurd (omega arith)
above_at n (x ∷ ns) zero above inside = grind (arith, nat_tests)
above_at n (x ∷ ns) (suc j) above inside = grind (arith, nat_tests, above_at n ns j)

none_falls : (ns : List ℕ) → IsTrue (rises ns) → (i j : ℕ) → i ≤ j → j < length ns → get_or ns i 0 ≤ get_or ns j 0
none_falls [] rising i j le inside = absurd (omega arith)
none_falls (x ∷ ns) rising zero zero le inside = omega arith
none_falls (x ∷ ns) rising (suc i) zero le inside = absurd (omega arith)
none_falls (x ∷ ns) rising zero (suc j) le inside = grind (arith, nat_tests, above_at x ns j)
none_falls (x ∷ ns) rising (suc i) (suc j) le inside = grind (arith, nat_tests, none_falls ns)

all_stay : (n : ℕ) (ns : List ℕ) → AllAbove n ns → without_one n ns ≡ ns
all_stay n [] above = refl
all_stay n (x ∷ ns) above = grind (arith, nat_tests, all_stay n ns)

removed : (id : ℕ) (ns : List ℕ) (at : ℕ) → IsTrue (rises ns) → at < length ns → get_or ns at 0 ≡ id → remove ns at ≡ without_one id ns
removed id [] at rising inside here = absurd (omega arith)
removed id (x ∷ ns) zero rising inside here = grind (arith, nat_tests, all_stay id ns)
removed id (x ∷ ns) (suc at) rising inside here =
    let before : x < id = grind (arith, nat_tests, above_at x ns at) in
    grind (arith, nat_tests, removed id ns at)

not_among : (id : ℕ) (ns : List ℕ) → ((k : ℕ) → k < length ns → get_or ns k 0 ≢ id) → without_one id ns ≡ ns
not_among id [] others = refl
not_among id (x ∷ ns) others =
    let later = not_among id ns (λ k below. others (suc k) (omega (arith, below))) in
    let first = others 0 (omega arith) in
    grind (arith, nat_tests)

-- the last of numbers that rise is taken out at the end
pub last_taken : (id : ℕ) (ns : List ℕ) → IsTrue (rises ns) → slice_get ns (length ns - 1) ≡ Some id → without_last ns ≡ without_one id ns
last_taken id [] rising last = absurd (grind (arith, last))
last_taken id (x ∷ ns) rising last =
    let all = x ∷ ns in
    let at = length all - 1 in
    let inside : at < length all = omega arith in
    let here : get_or all at 0 ≡ id = grind (arith, last, slice_get-get_or all at 0 inside) in
    let none : drop (suc at) all ≡ [] = drop_all (suc at) all (omega arith) in
    sym (append-nil (take at all)) ∙ ap (λ (rest : List ℕ). take at all ++ rest) (sym none) ∙ removed id all at rising inside here

-- the number that a search by halves finds is taken out at its place
pub found_taken : (ns : List ℕ) (id at : ℕ) (r : Result ℕ ℕ) → IsTrue (rises ns) → IsBinarySearchResult (λ n. nat_cmp n id) ns r → r ≡ Ok at → remove ns at ≡ without_one id ns
found_taken ns id at r rising told e =
    let place = rw e at (searched ns id r told (none_falls ns rising)) in
    removed id ns at rising place.0 place.1

-- and one that it doesn't find isn't there
pub missed_stays : (ns : List ℕ) (id : ℕ) (r : Result ℕ ℕ) → IsTrue (rises ns) → IsBinarySearchResult (λ n. nat_cmp n id) ns r → ((at : ℕ) → r ≢ Ok at) → without_one id ns ≡ ns
missed_stays ns id (Ok at) rising told none = absurd (none at refl)
missed_stays ns id (Err gap) rising told none =
    let parted = searched ns id (Err gap) told (none_falls ns rising) in
    not_among id ns (λ k below same. grind (arith, nat_tests, parted.1 k, parted.2 k))

-- a list without numbers more changes none
pub one_empty_more : (index : Index) (list : NumberList) (place : ℕ) → list.items ≡ [] → ticket_numbers place (index ++ list ∷ []) ≡ ticket_numbers place index
one_empty_more [] list zero none = none
one_empty_more [] list (suc place) none = refl
one_empty_more (x ∷ xs) list zero none = refl
one_empty_more (x ∷ xs) list (suc place) none = one_empty_more xs list place none

-- without the last number, the others are there
pub last-dropped : (ns : List ℕ) (n : ℕ) → without_last (ns ++ n ∷ []) ≡ ns
last-dropped ns n = take_at ns (n ∷ []) (length (ns ++ n ∷ []) - 1) (omega (arith, length-append ns (n ∷ [])))
