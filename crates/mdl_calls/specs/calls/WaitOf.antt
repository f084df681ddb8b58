-- `wait_of`: the number of a session's wait, if it has one. It has no caller: any session may make it. It takes no memory, changes nothing, and is never
-- refused.
use Rattle.std.specs.Prelude.{◌≡◌, ℕ, Bool, true, false, None}
use Rattle.mdl_calls.specs.FirstWords.{Answer, CallSpec, Has_wait, SessionData, unchanged, wait_number}

-- its answers
abbrev pub answers : Answer → Bool
answers (Has_wait number) = true
answers _ = false

-- if the session itself is the target, the number is that of its wait, and there is none if it has no wait. Of another target nothing is said.
abbrev pub says : ℕ → Answer → SessionData → SessionData → Type 0
says target (Has_wait number) a b = target ≡ a.number → number ≡ wait_number a.own
says target _ a b = ⊥

-- the call
abbrev pub wait_of : ℕ → CallSpec
wait_of target = record (unchanged target) { caller = None; answers = answers; says = says target }
