-- What belongs to each key of a list, where one more element is of one of them.
use Rattle.std.proofs.Common.{◌≡◌, ◌∙◌, ℕ, zero, suc, ◌<◌, ◌+◌, not, true, false, cond, Bool, List, [], ◌∷◌, length, get_or, set, map, nat_eq, nat_lt, position, Option, Some, None, refl, sym, ap, arith, rules, Result, Ok, Err, OnOk}
use Rattle.std.specs.Prelude.{option_map}
use Rattle.std.proofs.lemmas.Map.Keys.{IsDistinct-head, IsDistinct-tail}
use Rattle.std.specs.Cmp.{IsEquivalence}
use Rattle.std.specs.Cmp.Rules.{comparing}
use Rattle.std.specs.List.{IsDistinct, AllByRecursion, position_or_len}
use Rattle.std.proofs.lemmas.Bool.Decides.{nat_tests}
use Rattle.mdl_lock_rows.specs.Keys.{same_key}
use Rattle.mdl_lock_rows.specs.Classes.{same_class}
use Rattle.mdl_lock_rows.specs.Tables.{changed_at}

pub key-laws : IsEquivalence same_key
key-laws = search (comparing, rules) depth 9

pub nat-laws : IsEquivalence nat_eq
nat-laws = search (comparing, rules) depth 9

pub class-laws : IsEquivalence same_class
class-laws = search (comparing, rules) depth 9

pub on_ok-map : {T E A B : Type 0} (result : Result T E) → (A → B) → OnOk result A → OnOk result B
on_ok-map (Ok x) f a = f a
on_ok-map (Err e) f a = a

-- the element at a place is another one
pub changed-set : {A : Type 0} (make : A → A) (list : List A) (place : ℕ) (d : A) → place < length list
    → changed_at (Some place) make list ≡ set list place (make (get_or list place d))
changed-set make [] place d inside = absurd (omega arith)
changed-set make (one ∷ list) zero d inside = refl
changed-set make (one ∷ list) (suc place) d inside = ap (λ rest. one ∷ rest) (changed-set make list place d (omega arith))

lt-zero : (n : ℕ) → nat_lt 0 (suc n) ≡ true
lt-zero n = grind (arith, nat_tests)

lt-suc : (m n : ℕ) → nat_lt (suc m) (suc n) ≡ nat_lt m n
lt-suc m n = grind (arith, nat_tests)

-- the place of the first that passes, element by element
position-cons : {A : Type 0} (p : A → Bool) (x : A) (xs : List A) → position p (x ∷ xs) ≡ cond (p x) (Some 0) (option_map suc (position p xs))
position-cons p x xs =
    elim (p x) as (λ b. cond (nat_lt (cond (not b) (1 + position_or_len p xs) 0) (length (x ∷ xs))) (Some (cond (not b) (1 + position_or_len p xs) 0)) None
    ≡ cond b (Some 0) (option_map suc (position p xs))) [
      | true ↦ ap (λ b. cond b (Some 0) None) (lt-zero (length xs))
      | false ↦
          let next : 1 + position_or_len p xs ≡ suc (position_or_len p xs) = omega arith in
          ap (λ n. cond (nat_lt n (length (x ∷ xs))) (Some n) None) next
          ∙ ap (λ b. cond b (Some (suc (position_or_len p xs))) None) (lt-suc (position_or_len p xs) (length xs))
          ∙ under (nat_lt (position_or_len p xs) (length xs)) (position_or_len p xs)
    ] where
      under : (b : Bool) (place : ℕ) → cond b (Some (suc place)) None ≡ option_map suc (cond b (Some place) None)
      under true place = refl
      under false place = refl

behind : {A : Type 0} (found : Option ℕ) (make : A → A) (one : A) (list : List A) → changed_at (option_map suc found) make (one ∷ list) ≡ one ∷ changed_at found make list
behind None make one list = refl
behind (Some place) make one list = refl

module _ {A B : Type 0} (eq : A → A → Bool) (laws : IsEquivalence eq) (x : A) (old new : A → B) (make : B → B)
    (here : (k : A) → eq x k ≡ true → new k ≡ make (old k)) (there : (k : A) → eq x k ≡ false → new k ≡ old k) where
  -- behind the key of the element there is no other one that is equal
  elsewhere : (key : A) (keys : List A) → eq x key ≡ true → AllByRecursion (λ y. eq key y ≡ false) keys → map old keys ≡ map new keys
  elsewhere key [] is apart = refl
  elsewhere key (k ∷ keys) is apart =
      let other : eq x k ≡ false = laws.congr x key k is ∙ apart.0 in
      ap (λ one. one ∷ map old keys) (sym (there k other)) ∙ ap (λ rest. new k ∷ rest) (elsewhere key keys is apart.1)

  -- of keys that are all different only the one of the element changes
  pub changed : (keys : List A) → IsDistinct eq keys → changed_at (position (eq x) keys) make (map old keys) ≡ map new keys
  changed [] apart = refl
  changed (k ∷ keys) apart =
      ap (λ place. changed_at place make (old k ∷ map old keys)) (position-cons (eq x) k keys) ∙
      elim (eq x k) as (λ b. eq x k ≡ b → changed_at (cond b (Some 0) (option_map suc (position (eq x) keys))) make (old k ∷ map old keys) ≡ new k ∷ map new keys) [
        | true ↦ λ e. ap (λ one. one ∷ map old keys) (sym (here k e)) ∙ ap (λ rest. new k ∷ rest) (elsewhere k keys e (IsDistinct-head eq k keys apart))
        | false ↦ λ e.
            behind (position (eq x) keys) make (old k) (map old keys) ∙ ap (λ one. one ∷ changed_at (position (eq x) keys) make (map old keys)) (sym (there k e))
            ∙ ap (λ rest. new k ∷ rest) (changed keys (IsDistinct-tail eq k keys apart))
      ] refl
