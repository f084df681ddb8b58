-- `kill`: the kill of a session's wait of this number, unless it is settled already. It has no caller: any session may make it. It takes no memory, ends no
-- wait, changes no ticket, and is never refused.
use Rattle.std.specs.Prelude.{◌≡◌, ℕ, Bool, true, false, Some, None, is_some}
use Rattle.mdl_calls.specs.FirstWords.{Answer, CallSpec, Has_killed, SessionData, unchanged, wait_number}
use Rattle.mdl_calls.specs.declared.answers.Settled.TheVariants as settled_as

-- its answers
abbrev pub answers : Answer → Bool
answers (Has_killed it) = true
answers _ = false

-- if the session itself is the target: after the answer true, its wait had the number, and it now knows that its wait is settled as killed. After the answer
-- false, if its wait had the number, it now knows how its wait is settled. Of another target nothing is said.
abbrev pub says : ℕ → ℕ → Answer → SessionData → SessionData → Type 0
says target number (Has_killed true) a b = target ≡ a.number → (wait_number a.own ≡ Some number) × (b.settled ≡ Some settled_as.Killed)
says target number (Has_killed false) a b = target ≡ a.number → wait_number a.own ≡ Some number → is_some b.settled ≡ true
says target number _ a b = ⊥

-- the call
abbrev pub kill : ℕ → ℕ → CallSpec
kill target number = record (unchanged target) { caller = None; answers = answers; says = says target number }
