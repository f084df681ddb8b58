-- The first ticket that passes a test: its place, the list without it, and the list with it in another mode.
use Rattle.std.proofs.Common.{◌≡◌, ℕ, zero, suc, ◌+◌, ◌<◌, ◌≤◌, Bool, true, false, cond, List, [], ◌∷◌, ◌++◌, length, get_or, Option, Some, None, refl, sym, ◌∙◌, ap, subst, inl, inr, ltb, arith, add-one, not, take, drop}
use Rattle.std.specs.Prelude.{is_some, slice_get, slice_set}
use Rattle.std.specs.List.{position, position_or_len, find, before_first, after_first, All, Contains, remove}
use Rattle.std.specs.Option.{option_map, option_to_list}
use Rattle.std.proofs.lemmas.List.{append-nil, take_all, drop_all}
use Rattle.std.proofs.lemmas.List.Folds.{find_at}
use Rattle.std.proofs.lemmas.List.Sums.{split_at_first}
use Rattle.std.proofs.lemmas.List.Elements.{All-append, All-take, All-drop, All-head, All-tail}
use Rattle.std.proofs.lemmas.Option.{slice_get-get_or, slice_get_cases, slice_get_past}
use Rattle.std.proofs.lemmas.List.{set_split}
use Rattle.mdl_key.specs.declared.mode.Mode.{Mode}
use Rattle.mdl_book.specs.declared.ticket.Ticket.{Ticket}
use Rattle.mdl_book.specs.Tickets.{is_ticket, in_mode, with_mode}
use borrow.Author.Tests.{ltb-true, ltb-false}

some_place : (b : Bool) (n i : ℕ) → cond b (Some n) None ≡ Some i → (b ≡ true) × (n ≡ i)
some_place true n i e = (refl, cc)
some_place false n i e = cc

no_place : (b : Bool) (n : ℕ) → cond b (Some n) None ≡ None → b ≡ false
no_place true n e = cc
no_place false n e = refl

-- what stands at the first place is what is found
pub found_at : {X : Type 0} (p : X → Bool) (xs : List X) (i : ℕ) (x : X) → Some i ≡ position p xs → x ≡ get_or xs i x → find p xs ≡ Some x
found_at p xs i x place is =
    let at = some_place _ _ i (sym place) in
    let inside : position_or_len p xs < length xs = ltb-true _ _ at.0 in
    find_at p xs ∙ slice_get-get_or xs _ x inside ∙ ap (λ n. Some (get_or xs n x)) at.1 ∙ ap (λ y. Some y) (sym is)

-- where there is no place, nothing is found
pub none_at : {X : Type 0} (p : X → Bool) (xs : List X) → None ≡ position p xs → find p xs ≡ None
none_at p xs place =
    let past : length xs ≤ position_or_len p xs = ltb-false _ _ (no_place _ _ (sym place)) in
    find_at p xs ∙ elim (slice_get_cases xs (position_or_len p xs)).1 [ inl w ↦ absurd (omega (arith, w.1)) | inr w ↦ w.1 ]

-- where there is a place, something is found
pub some_at : {X : Type 0} (p : X → Bool) (xs : List X) (i : ℕ) → Some i ≡ position p xs → is_some (find p xs) ≡ true
some_at p xs i place =
    let at = some_place _ _ i (sym place) in
    let inside : position_or_len p xs < length xs = ltb-true _ _ at.0 in
    ap is_some (find_at p xs) ∙ elim (slice_get_cases xs (position_or_len p xs)).1 [ inl w ↦ ap is_some w.2 | inr w ↦ absurd (omega (arith, w.0)) ]

-- so something is found where there is a place
pub is_some-place : {X : Type 0} (p : X → Bool) (xs : List X) (place : Option ℕ) → place ≡ position p xs → is_some place ≡ is_some (find p xs)
is_some-place p xs (Some i) e = sym (some_at p xs i e)
is_some-place p xs None e = sym (ap is_some (none_at p xs e))

-- what holds of each element holds of each but the first that passes
pub All-without : {X : Type 0} (P : X → Type 0) (p : X → Bool) (xs : List X) → All P xs → All P (before_first p xs ++ after_first p xs)
All-without P p xs all = All-append P (before_first p xs) (after_first p xs) (All-take P (position_or_len p xs) xs all) (All-drop P (position_or_len p xs + 1) xs all)

module _ {X : Type 0} (p : X → Bool) (xs : List X) (i : ℕ) (place : Some i ≡ position p xs) where
  is_first : (ltb (position_or_len p xs) (length xs) ≡ true) × (position_or_len p xs ≡ i)
  is_first = some_place _ _ i (sym place)

  pub first-lt : i < length xs
  first-lt = let inside : position_or_len p xs < length xs = ltb-true _ _ is_first.0 in let at = is_first.1 in omega arith

  -- the list without what stands at the first place
  pub remove-first : remove xs i ≡ before_first p xs ++ after_first p xs
  remove-first = let on : suc i ≡ position_or_len p xs + 1 = let at = is_first.1 in omega arith in rw (on, is_first.1)

-- where there is no place all of it stays, whatever becomes of what is found
pub all_before : {X : Type 0} (p : X → Bool) (f : X → X) (xs : List X) → None ≡ position p xs → xs ≡ before_first p xs ++ (option_to_list (option_map f (find p xs)) ++ after_first p xs)
all_before p f xs place =
    let past : length xs ≤ position_or_len p xs = ltb-false _ _ (no_place _ _ (sym place)) in
    let none : option_to_list (option_map f (find p xs)) ≡ [] = ap (λ o. option_to_list (option_map f o)) (none_at p xs place) in
    sym (rw (none, take_all (position_or_len p xs) xs past, drop_all (position_or_len p xs + 1) xs (omega arith)) (append-nil xs))

-- what is found passes
pub find-passes : {X : Type 0} (p : X → Bool) (xs : List X) (x : X) → find p xs ≡ Some x → p x ≡ true
find-passes p [] x found = cc
find-passes p (y ∷ ys) x found =
    elim (p y) as (λ b. p y ≡ b → cond b (Some y) (find p ys) ≡ Some x → p x ≡ true) [
      | true ↦ λ passes e. let same : y ≡ x = cc in subst (λ z. p z ≡ true) same passes
      | false ↦ λ _ e. find-passes p ys x e
    ] refl found

-- what is found is among them
pub find-contains : {X : Type 0} (p : X → Bool) (xs : List X) (x : X) → find p xs ≡ Some x → Contains xs x
find-contains p xs x found =
    elim (slice_get_cases xs (position_or_len p xs)).1 [
      | inl w ↦ let same : w.0 ≡ x = cc (find_at p xs) in subst (λ y. Contains xs y) same (position_or_len p xs, w.1, w.3)
      | inr w ↦ absurd (cc (find_at p xs))
    ]

-- a list is what stands before the first that passes, that one, and what stands after it
pub parted : {X : Type 0} (p : X → Bool) (xs : List X) → xs ≡ before_first p xs ++ (option_to_list (find p xs) ++ after_first p xs)
parted p xs =
    elim (slice_get_cases xs (position_or_len p xs)).1 [
      | inl w ↦
          let found : w.0 ∷ [] ≡ option_to_list (find p xs) = sym (ap option_to_list (find_at p xs ∙ w.2)) in
          split_at_first p xs w.0 w.1 ∙ ap (λ ys. before_first p xs ++ (ys ++ after_first p xs)) (ap (λ y. y ∷ []) w.3 ∙ found)
      | inr w ↦
          let none : option_to_list (find p xs) ≡ [] = ap option_to_list (find_at p xs ∙ w.1) in
          let past = w.0 in
          sym (rw (none, take_all (position_or_len p xs) xs past, drop_all (position_or_len p xs + 1) xs (omega arith)) (append-nil xs))
    ]

-- a write of the ticket in another mode, at its place
pub with_mode_at : (session number : ℕ) (mode : Mode) (tickets : List Ticket) (i : ℕ) (ticket : Ticket) → Some i ≡ position (is_ticket session number) tickets
    → ticket ≡ get_or tickets i ticket → slice_set tickets i (in_mode mode ticket) ≡ with_mode session number mode tickets
with_mode_at session number mode tickets i ticket place is =
    let test = is_ticket session number in
    let at = some_place _ _ i (sym place) in
    let first : position_or_len test tickets ≡ i = at.1 in
    let inside : i < length tickets = subst (λ n. n < length tickets) first (ltb-true _ _ at.0) in
    let split : slice_set tickets i (in_mode mode ticket) ≡ take i tickets ++ (in_mode mode ticket ∷ drop (i + 1) tickets) =
    set_split tickets i (in_mode mode ticket) inside ∙ ap (λ n. take i tickets ++ (in_mode mode ticket ∷ drop n tickets)) (sym (add-one i)) in
    rw (found_at test tickets i ticket place is, first) split

-- ---- in order

-- where none before one passes, and it does, it is the first
pub first_here : {X : Type 0} (p : X → Bool) (xs : List X) (i : ℕ) (d : X) → i ≤ position_or_len p xs → i < length xs → p (get_or xs i d) ≡ true → position_or_len p xs ≡ i
first_here p [] i d before inside passes = absurd (omega (arith, inside))
first_here p (x ∷ xs) zero d before inside passes =
    elim (p x) as (λ b. b ≡ true → cond (not b) (1 + position_or_len p xs) 0 ≡ zero) [ true ↦ λ _. refl | false ↦ λ e. absurd (cc) ] passes
first_here p (x ∷ xs) (suc i) d before inside passes =
    elim (p x) as (λ b. suc i ≤ cond (not b) (1 + position_or_len p xs) 0 → cond (not b) (1 + position_or_len p xs) 0 ≡ suc i) [
      | true ↦ λ le. absurd (omega (arith, le))
      | false ↦ λ le. let at = first_here p xs i d (omega (arith, le)) (omega (arith, inside)) passes in omega (arith, at)
    ] before

-- where it doesn't pass either, the first comes after it
pub first_later : {X : Type 0} (p : X → Bool) (xs : List X) (i : ℕ) (d : X) → i ≤ position_or_len p xs → i < length xs → p (get_or xs i d) ≡ false → i + 1 ≤ position_or_len p xs
first_later p [] i d before inside fails = absurd (omega (arith, inside))
first_later p (x ∷ xs) zero d before inside fails =
    elim (p x) as (λ b. b ≡ false → zero + 1 ≤ cond (not b) (1 + position_or_len p xs) 0) [ true ↦ λ e. absurd (cc) | false ↦ λ _. omega arith ] fails
first_later p (x ∷ xs) (suc i) d before inside fails =
    elim (p x) as (λ b. suc i ≤ cond (not b) (1 + position_or_len p xs) 0 → suc i + 1 ≤ cond (not b) (1 + position_or_len p xs) 0) [
      | true ↦ λ le. absurd (omega (arith, le))
      | false ↦ λ le. let later = first_later p xs i d (omega (arith, le)) (omega (arith, inside)) fails in omega (arith, later)
    ] before

-- an element after the index of the first that passes
abbrev pub indexed : {X : Type 0} → (X → Bool) → List X → X → ℕ × X
indexed p xs x = (position_or_len p xs, x)

-- the first is found, with its index
pub first_found : {X : Type 0} (p : X → Bool) (xs : List X) (i : ℕ) (d : X) → i ≤ position_or_len p xs → i < length xs → p (get_or xs i d) ≡ true
    → ◌≡◌ {A = Option (ℕ × X)} (Some (i, get_or xs i d)) (option_map (indexed p xs) (find p xs))
first_found {X} p xs i d before inside passes =
    let at = first_here p xs i d before inside passes in
    let found : find p xs ≡ Some (get_or xs i d) = find_at p xs ∙ ap (slice_get xs) at ∙ slice_get-get_or xs i d inside in
    let numbered : ℕ → Option (ℕ × X) = λ n. Some (n, get_or xs i d) in
    sym (ap (option_map (indexed p xs)) found ∙ ap numbered at)

-- where none passes, none is found
pub none_found : {X : Type 0} (p : X → Bool) (xs : List X) → length xs ≤ position_or_len p xs → ◌≡◌ {A = Option (ℕ × X)} None (option_map (indexed p xs) (find p xs))
none_found {X} p xs past = sym (ap (option_map (indexed p xs)) (find_at p xs ∙ slice_get_past xs (position_or_len p xs) past))

-- two tests that agree on each element have the same first
pub first-same : {X : Type 0} (p q : X → Bool) (xs : List X) → All (λ x. p x ≡ q x) xs → position_or_len p xs ≡ position_or_len q xs
first-same p q [] same = refl
first-same p q (x ∷ xs) same = rw (All-head (λ y. p y ≡ q y) x xs same, first-same p q xs (All-tail (λ y. p y ≡ q y) x xs same)) refl
