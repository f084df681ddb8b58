-- Tables that are to be locked, one after the other.
use Rattle.std.proofs.Common.{◌≡◌, ℕ, List, [], ◌∷◌, ◌++◌, refl, ap, ◌∙◌}
use Rattle.std.specs.Prelude.{Option, Some, None, Result, Ok}
use Rattle.mdl_key.specs.Keys.{KeyName}
use Rattle.mdl_lines.specs.declared.fault.LineError.{LineError}
use Rattle.mdl_lines.specs.declared.fault.LineError.TheVariants.{BadWord}
use Rattle.mdl_syntax.specs.declared.statement.LockType.{LockType}
use Rattle.mdl_syntax.specs.declared.table_locks.TableLock.{TableLock}
use Rattle.mdl_syntax.specs.Forms.{and_then, lock_type_of, more_locks, next_table, or_refuse, tables_of}
use Rattle.mdl_syntax.specs.Reading.{next_lock_type}

-- what has one behind it isn't nothing
pub some-before : {A : Type 0} (xs : List A) (x : A) → xs ++ x ∷ [] ≡ [] → ⊥
some-before [] x e = cc
some-before (y ∷ ys) x e = cc

-- what is had is one
same-ok : {A : Type 0} (one other : A) → Ok one ≡ (let so : Result A LineError = Ok other in so) → one ≡ other
same-ok one other e = cc

-- one table more, which a word names, and behind it stands what it is locked for
pub locks-next : (locks : List TableLock) (word : List ℕ) (rest left : List (List ℕ)) (table : KeyName) (lock_type : LockType)
    → next_table (tables_of locks) word ≡ Ok table → next_lock_type rest ≡ Ok (lock_type, left)
    → more_locks locks (word ∷ rest) ≡ more_locks (locks ++ record { table = table; lock_type = lock_type } ∷ []) left
locks-next locks word [] left table lock_type e f = absurd (cc)
locks-next locks word (behind ∷ rest) left table lock_type e f = by (lock_type_of behind) refl f where
  lock : KeyName → LockType → TableLock
  lock t k = record { table = t; lock_type = k }

  by : (found : Option LockType) → lock_type_of behind ≡ found → and_then {B = LockType × List (List ℕ)} (or_refuse BadWord found) (λ k. Ok (k, rest)) ≡ Ok (lock_type, left)
      → more_locks locks (word ∷ behind ∷ rest) ≡ more_locks (locks ++ lock table lock_type ∷ []) left
  by None is g = absurd (cc)
  by (Some k) is g =
      let pair : (k, rest) ≡ (let so : LockType × List (List ℕ) = (lock_type, left) in so) = same-ok (k, rest) (lock_type, left) g in
      ap (λ (r : Result KeyName LineError). and_then r (λ t. and_then (or_refuse BadWord (lock_type_of behind)) (λ k. more_locks (locks ++ lock t k ∷ []) rest))) e
      ∙ ap (λ (o : Option LockType). and_then (or_refuse BadWord o) (λ k. more_locks (locks ++ lock table k ∷ []) rest)) is
      ∙ ap (λ (l : LockType). more_locks (locks ++ lock table l ∷ []) rest) (ap (λ (p : LockType × List (List ℕ)). p.0) pair)
      ∙ ap (more_locks (locks ++ lock table lock_type ∷ [])) (ap (λ (p : LockType × List (List ℕ)). p.1) pair)
