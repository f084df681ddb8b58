-- The fast tickets of all sessions, after those of one session changed.
use Rattle.std.proofs.Common.{◌≡◌, ℕ, zero, suc, ◌+◌, ◌*◌, ◌^◌, ◌<◌, ◌≤◌, ◌==◌, Bool, true, false, cond, List, [], ◌∷◌, ◌++◌, map, set, length, Some, None, refl, sym, ap, ◌∙◌, subst, arith, rules, count_by, length-append}
use Rattle.mdl_steps.proofs.Common.{Kind, Mode, Part, Ticket, all_fast, and_from, and_parts, class_of, count_by-le-length, counted, encode, get_elem?, increment_of, is_mode_of, is_obtrusive, is_of_class, list_all, list_all-append, one_in, some, some-injective, some-ne-none, sum_by-append, ticket_by}
use Rattle.mdl_steps.proofs.Views.{by_bool}

-- ---- what all of them pass

-- is passed by all of them then, if it is by those of the session
pub all_fast-all : (test : Ticket → Bool) (parts : List Part) (id : ℕ) (x y : Part) → get_elem? parts id ≡ some x
    → (list_all test (map (ticket_by x.number) x.fast) ≡ true → list_all test (map (ticket_by y.number) y.fast) ≡ true)
    → list_all test (all_fast parts) ≡ true → list_all test (all_fast (set parts id y)) ≡ true
all_fast-all test [] id x y at own all = all
all_fast-all test (z ∷ zs) zero x y at own all =
    let mine : List Ticket = map (ticket_by z.number) z.fast in
    let p = and_parts (list_all test mine) (list_all test (all_fast zs)) (sym (list_all-append test mine (all_fast zs)) ∙ all) in
    list_all-append test (map (ticket_by y.number) y.fast) (all_fast zs)
    ∙ and_from _ _ (own (subst (λ (w : Part). list_all test (map (ticket_by w.number) w.fast) ≡ true) (some-injective z x at) p.0)) p.1
all_fast-all test (z ∷ zs) (suc id) x y at own all =
    let theirs : List Ticket = map (ticket_by z.number) z.fast in
    let p = and_parts (list_all test theirs) (list_all test (all_fast zs)) (sym (list_all-append test theirs (all_fast zs)) ∙ all) in
    list_all-append test theirs (all_fast (set zs id y)) ∙ and_from _ _ p.0 (all_fast-all test zs id x y at own p.1)

-- what all fast tickets pass is passed by those of one session
pub all_fast-own : (test : Ticket → Bool) (parts : List Part) (id : ℕ) (x : Part) → get_elem? parts id ≡ some x
    → list_all test (all_fast parts) ≡ true → list_all test (map (ticket_by x.number) x.fast) ≡ true
all_fast-own test [] id x at all = absurd (some-ne-none x (sym at))
all_fast-own test (z ∷ zs) zero x at all =
    let mine : List Ticket = map (ticket_by z.number) z.fast in
    subst (λ (w : Part). list_all test (map (ticket_by w.number) w.fast) ≡ true) (some-injective z x at)
    (and_parts (list_all test mine) (list_all test (all_fast zs)) (sym (list_all-append test mine (all_fast zs)) ∙ all)).0
all_fast-own test (z ∷ zs) (suc id) x at all =
    let theirs : List Ticket = map (ticket_by z.number) z.fast in
    all_fast-own test zs id x at (and_parts (list_all test theirs) (list_all test (all_fast zs)) (sym (list_all-append test theirs (all_fast zs)) ∙ all)).1

-- ---- how many pass

pub count-append : {X : Type 0} → (test : X → Bool) (xs ys : List X) → count_by test (xs ++ ys) ≡ count_by test xs + count_by test ys
count-append test xs ys = sum_by-append (λ x. cond (test x) 1 0) xs ys

-- as many more than before as the session has more
pub counted_set : (test : Ticket → Bool) (parts : List Part) (id : ℕ) (x y : Part) → get_elem? parts id ≡ some x
    → count_by test (all_fast (set parts id y)) + count_by test (map (ticket_by x.number) x.fast) ≡ count_by test (all_fast parts) + count_by test (map (ticket_by y.number) y.fast)
counted_set test [] id x y at = absurd (some-ne-none x (sym at))
counted_set test (z ∷ zs) zero x y at =
    let was : count_by test (map (ticket_by z.number) z.fast) ≡ count_by test (map (ticket_by x.number) x.fast) = ap (λ (w : Part). count_by test (map (ticket_by w.number) w.fast)) (some-injective z x at) in
    let now = count-append test (map (ticket_by y.number) y.fast) (all_fast zs) in
    let old = count-append test (map (ticket_by z.number) z.fast) (all_fast zs) in
    omega arith
counted_set test (z ∷ zs) (suc id) x y at =
    let more = counted_set test zs id x y at in
    let now = count-append test (map (ticket_by z.number) z.fast) (all_fast (set zs id y)) in
    let old = count-append test (map (ticket_by z.number) z.fast) (all_fast zs) in
    omega arith

-- each session has few, so all have no more than a word can count
pub length_mapped : {X Y : Type 0} → (f : X → Y) (xs : List X) → length (map f xs) ≡ length xs
length_mapped f [] = refl
length_mapped f (x ∷ xs) = let rest = length_mapped f xs in omega arith

all_fast-few : (parts : List Part) → ((j : ℕ) (x : Part) → get_elem? parts j ≡ some x → length x.fast ≤ 1023) → length (all_fast parts) ≤ 1023 * length parts
all_fast-few [] few = omega arith
all_fast-few (x ∷ xs) few =
    let first = few zero x refl in
    let others = all_fast-few xs (λ j y at. few (suc j) y at) in
    let both = length-append (map (ticket_by x.number) x.fast) (all_fast xs) in
    let shown = length_mapped (ticket_by x.number) x.fast in
    omega arith

pub counts_small : (kind : Kind) (class : ℕ) (parts : List Part) → length parts ≤ 1025 → ((j : ℕ) (x : Part) → get_elem? parts j ≡ some x → length x.fast ≤ 1023)
    → counted kind class (all_fast parts) < 1048576
counts_small kind class parts sessions few =
    let most = all_fast-few parts few in
    let counts = count_by-le-length (is_of_class kind class) (all_fast parts) in
    omega arith

-- ---- classes

-- a mode that is counted is of the kind, and unobtrusive
pub counted_mode : (kind : Kind) (mode : Mode) (n : ℕ) → increment_of kind mode ≡ Some n → (is_obtrusive kind mode ≡ false) × (is_mode_of kind mode ≡ true)
counted_mode kind mode n is = (search rules, search rules)

-- the increment of a mode is one in its class
pub increment_is : (kind : Kind) (mode : Mode) (n : ℕ) → increment_of kind mode ≡ Some n → n ≡ encode (one_in 0 kind mode) (one_in 1 kind mode) (one_in 2 kind mode) false false
increment_is kind mode n is = search rules

-- and far from what a word has no room for
pub increment_small : (kind : Kind) (mode : Mode) (n : ℕ) → increment_of kind mode ≡ Some n → n < 2 ^ 62
increment_small kind mode n is = search rules

-- a ticket counts one in the class of its mode
pub one_counted : (kind : Kind) (class : ℕ) (t : Ticket) → count_by (is_of_class kind class) (t ∷ []) ≡ one_in class kind t.mode
one_counted kind class t = elim (class_of kind t.mode) as (λ o. class_of kind t.mode ≡ o → count_by (is_of_class kind class) (t ∷ []) ≡ one_in class kind t.mode) [
  | None ↦ λ e. rw e refl
  | Some own ↦ λ e. rw e (by_bool (own == class) (λ same. rw same refl) (λ other. rw other refl))
] refl
