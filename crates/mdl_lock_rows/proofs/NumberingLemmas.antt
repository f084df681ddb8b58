-- What a list has is in the list of its elements, each once.
use Rattle.std.proofs.Common.{◌≡◌, ◌∙◌, ℕ, Bool, true, false, ◌||◌, cond, List, [], ◌∷◌, ◌++◌, map, nat_eq, refl, ap, arith}
use Rattle.std.specs.Prelude.{fold}
use Rattle.std.specs.List.{list_all, list_any}
use Rattle.std.proofs.lemmas.Bool.{and_from}
use Rattle.std.proofs.lemmas.Bool.Decides.{nat_tests}
use Rattle.std.proofs.lemmas.Cmp.{nat_list_eq_equiv}
use Rattle.std.proofs.lemmas.List.Folds.{list_any-append}
use Rattle.mdl_lock_rows.specs.Classes.{ClassName, same_class}
use Rattle.mdl_lock_rows.specs.Keys.{KeyNames, same_key}
use Rattle.mdl_lock_rows.specs.Numbering.{with_new}

or_true : (a : Bool) → (a || true) ≡ true
or_true true = refl
or_true false = refl

module _ {A : Type 0} (same : A → A → Bool) where
  -- what is there stays
  with_new-keeps : (test : A → Bool) (known : List A) (one : A) → list_any test known ≡ true → list_any test (with_new same known one) ≡ true
  with_new-keeps test known one e = by (list_any (same one) known) where
    by : (b : Bool) → list_any test (cond b known (known ++ one ∷ [])) ≡ true
    by true = e
    by false = list_any-append test known (one ∷ []) ∙ ap (λ b. b || list_any test (one ∷ [])) e

  all-keep : (test : A → Bool) (known more : List A) → list_any test known ≡ true → list_any test (fold (with_new same) known more) ≡ true
  all-keep test known [] e = e
  all-keep test known (one ∷ more) e = all-keep test (with_new same known one) more (with_new-keeps test known one e)

  -- and what is added is there
  with_new-has : (known : List A) (one : A) → same one one ≡ true → list_any (same one) (with_new same known one) ≡ true
  with_new-has known one is = by (list_any (same one) known) refl where
    by : (b : Bool) → list_any (same one) known ≡ b → list_any (same one) (cond b known (known ++ one ∷ [])) ≡ true
    by true there = there
    by false new =
        list_any-append (same one) known (one ∷ []) ∙ ap (λ b. list_any (same one) known || (b || false)) is ∙ or_true (list_any (same one) known)

  pub all-there : {X : Type 0} (read : X → A) → ((one : A) → same one one ≡ true) → (known : List A) (xs : List X)
      → list_all (λ x. list_any (same (read x)) (fold (with_new same) known (map read xs))) xs ≡ true
  all-there read is known [] = refl
  all-there read is known (x ∷ xs) =
      and_from _ _ (all-keep (same (read x)) (with_new same known (read x)) (map read xs) (with_new-has known (read x) (is (read x))))
      (all-there read is (with_new same known (read x)) xs)

pub nat-itself : (n : ℕ) → nat_eq n n ≡ true
nat-itself n = grind (arith, nat_tests)

pub class-itself : (class : ClassName) → same_class class class ≡ true
class-itself class = and_from _ _ (nat_list_eq_equiv.refl class.object_type) (nat_list_eq_equiv.refl class.lock_type)

pub key-itself : (key : KeyNames) → same_key key key ≡ true
key-itself key =
    and_from _ _ (nat-itself _) (and_from _ _ (nat_list_eq_equiv.refl key.schema) (nat_list_eq_equiv.refl key.name))
