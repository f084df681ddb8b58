-- Rows in a session whose state is known.
use Rattle.std.proofs.Common.{◌≡◌, Bool, true, false, Option, Some, None, refl, ap, if◌then◌else◌}
use mathlib.Core.Path.{fun_ext}
use Rattle.mdl_key.specs.declared.mode.Mode.TheVariants.{IX}
use Rattle.mdl_key.specs.declared.mode.Duration.TheVariants as for
use Rattle.std.specs.Prelude.{find}
use Rattle.mdl_key.specs.Keys.{KeyName, commit_key, key_eq}
use Rattle.mdl_context.specs.Contexts.{of_transaction}
use Rattle.mdl_rows.specs.declared.error_number.ErrorNumber.{ErrorNumber}
use Rattle.mdl_rows.specs.declared.error_number.ErrorNumber.TheVariants.{TableLockedForRead}
use Rattle.mdl_rows.specs.declared.reply.Reply.{Reply}
use Rattle.mdl_rows.specs.declared.state.Locked.{Locked}
use Rattle.mdl_rows.specs.Rows.{Row, Give, Fail, Room, Look, Set, Here, Acquire, Try_acquire, Last, Upgrade, Downgrade, Give_up, Release, Keep, Read, Redefine, Tables_of, Key_of, Kill, ◌>>=◌, ◌>>◌, check, nothing}
use Rattle.mdl_rows.specs.States.{State, without_transaction}
use Rattle.mdl_rows.specs.Statements.{among_locked, commit, commit_writes, end_transaction, held_lock}
use Rattle.mdl_plans.specs.Seen.{seen}

-- nothing is left to fill in
pub seen-twice : {A : Type 0} (state : State) (m : Row A) → seen state (seen state m) ≡ seen state m
seen-twice state (Give x) = refl
seen-twice state (Fail number) = refl
seen-twice state (Room rest) = ap Room (seen-twice state rest)
seen-twice state (Look rest) = seen-twice state (rest state)
seen-twice state (Set change rest) = ap (Set change) (seen-twice (change state) rest)
seen-twice state (Here rest) = ap Here (fun_ext (λ x. seen-twice state (rest x)))
seen-twice state (Acquire wish rest) = ap (Acquire wish) (fun_ext (λ x. seen-twice state (rest x)))
seen-twice state (Try_acquire wish rest) = ap (Try_acquire wish) (fun_ext (λ x. seen-twice state (rest x)))
seen-twice state (Last key rest) = ap (Last key) (fun_ext (λ x. seen-twice state (rest x)))
seen-twice state (Upgrade id key mode rest) = ap (Upgrade id key mode) (fun_ext (λ x. seen-twice state (rest x)))
seen-twice state (Downgrade id mode rest) = ap (Downgrade id mode) (seen-twice state rest)
seen-twice state (Give_up which rest) = ap (Give_up which) (seen-twice state rest)
seen-twice state (Release id rest) = ap (Release id) (seen-twice state rest)
seen-twice state (Keep rest) = ap Keep (seen-twice state rest)
seen-twice state (Read id rest) = ap (Read id) (fun_ext (λ x. seen-twice state (rest x)))
seen-twice state (Redefine id change rest) = ap (Redefine id change) (seen-twice state rest)
seen-twice state (Tables_of schema rest) = ap (Tables_of schema) (fun_ext (λ x. seen-twice state (rest x)))
seen-twice state (Key_of place rest) = ap (Key_of place) (fun_ext (λ x. seen-twice state (rest x)))
seen-twice state (Kill target rest) = ap (Kill target) (seen-twice state rest)

-- a check, and then what is the same
pub check-seen : (state : State) (test : Bool) (number : ErrorNumber) (one other : Row Reply) → seen state one ≡ seen state other →
    seen state (check test number >> one) ≡ seen state (check test number >> other)
check-seen state true number one other same = same
check-seen state false number one other same = refl

-- a look at the lock of a table that is locked for writing, and then what is the same
pub held-seen : (state : State) (table : KeyName) (one other : Row Reply) → seen state one ≡ seen state other →
    seen state (held_lock table >>= (λ (locked : Locked). check locked.may_write TableLockedForRead >> one))
    ≡ seen state (held_lock table >>= (λ (locked : Locked). check locked.may_write TableLockedForRead >> other))
held-seen state table one other same = by (find (λ (locked : Locked). key_eq table locked.key) state.locked) where
  by : (found : Option Locked) →
      seen state (among_locked found >>= (λ (locked : Locked). check locked.may_write TableLockedForRead >> one))
      ≡ seen state (among_locked found >>= (λ (locked : Locked). check locked.may_write TableLockedForRead >> other))
  by None = refl
  by (Some locked) = check-seen state locked.may_write TableLockedForRead one other same

-- a commit, and then what is the same: the session has the locked tables and the read lock that it had before
pub commit-seen : (state : State) (one other : Row Reply) →
    ((after : State) → after.locked ≡ state.locked → after.read_lock ≡ state.read_lock → seen after one ≡ seen after other) →
    seen state (commit >> one) ≡ seen state (commit >> other)
commit-seen state one other same = by state.is_open state.has_written where
  ended : (is_open has_written : Bool) → Row (Unit {0})
  ended is_open has_written = if is_open then (if has_written then commit_writes else end_transaction) else nothing

  by : (is_open has_written : Bool) → seen state (ended is_open has_written >> one) ≡ seen state (ended is_open has_written >> other)
  by true true =
      ap (λ (next : Row Reply). Acquire (record { key = commit_key; mode = IX; duration = for.Explicit })
      (λ lock. Give_up of_transaction (Set without_transaction (Release lock next)))) (same (without_transaction state) refl refl)
  by true false = ap (λ (next : Row Reply). Give_up of_transaction (Set without_transaction next)) (same (without_transaction state) refl refl)
  by false has_written = same state refl refl
