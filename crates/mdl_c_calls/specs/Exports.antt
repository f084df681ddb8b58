-- What a call from C does to the manager behind its handle, and what the call returns and writes.
use Rattle.std.specs.Prelude.{◌≡◌, ◌⊎◌, ℕ, ◌==◌, true, false, Option, Some, None, MatchOption, Result}
use Rattle.std.specs.Result.{result_ok}
use Rattle.mdl_calls.specs.declared.new_error.NewError.{NewError}
use Rattle.mdl_calls.specs.Words.{Answer, Call, new_fault}
use Rattle.mdl_c_parts.specs.Answers.{Beside, Nothing, code_of}
use Rattle.mdl_c_parts.specs.Codes.{closed, is_open_already, library_version, new_code, no_memory, no_session, other_version}
use Rattle.mdl_c_calls.specs.ContextCodes.{served_code}
use Rattle.mdl_c_calls.specs.Managers.{Asks, Managed, JoinsServed, JoinsFor, direct_fault, has_member, new_manager, seat_of}
use Rattle.mdl_c_calls.specs.declared.seat.Seat.{Seat}
use Rattle.mdl_c_calls.specs.declared.unserved.Unserved.{Unserved}

-- the call returns this code, and the manager, if there is one, is unchanged
abbrev pub Tells : ℕ → Option Managed → ℕ → Option Managed → Type 0
Tells wanted before code after = (code ≡ wanted) × (after ≡ before)

-- the manager makes a call, `joins` relates the answer to the manager before and after it, and the code and the writes are those of the answer
abbrev pub Answers : (Answer → Managed → Managed → Type 0) → Managed → ℕ → Option Managed → Beside → Type 0
Answers joins before code after beside =
    (answer : Answer) × (next : Managed) × (after ≡ Some next) × joins answer before next × (code ≡ code_of answer) × beside (Some answer)

-- a session's call of the space. It is refused if there is no manager, or no such session
abbrev pub ServesCall : ℕ → Call → Option Managed → ℕ → Option Managed → Beside → Type 0
ServesCall who call None code after beside = Tells closed None code after × beside None
ServesCall who call (Some manager) code after beside =
    ((has_member who manager ≡ false) × Tells no_session (Some manager) code after × beside None)
    ⊎ Answers (JoinsFor who call) manager code after beside

-- a call of the space that no session makes
abbrev pub ServesAnybody : Call → Option Managed → ℕ → Option Managed → Type 0
ServesAnybody call None code after = Tells closed None code after
ServesAnybody call (Some manager) code after = Answers (JoinsServed call) manager code after Nothing

-- a session's call, or a refusal by the manager: then the code says why, and nothing changes
abbrev pub Replies : {R : Type 0} → (Option Seat → Option Unserved) → ℕ → (R → Managed → Managed → Type 0) → (R → ℕ) → (Option R → Type 0)
    → Option Managed → ℕ → Option Managed → Type 0
Replies fault who made code_for beside None code after = Tells closed None code after × beside None
Replies {R} fault who made code_for beside (Some manager) code after =
    (result : Result R Unserved) × (next : Managed) × (after ≡ Some next)
    × Asks (fault (seat_of who manager)) (λ answer. made answer manager next) result manager next
    × (code ≡ served_code code_for result) × beside (result_ok result)

-- a direct call, which names tickets by their numbers: it is refused if there is no such session, or a context keeps the session's tickets
abbrev pub ServesDirect : ℕ → Call → Option Managed → ℕ → Option Managed → Beside → Type 0
ServesDirect who call before code after beside = Replies direct_fault who (JoinsServed call) code_of beside before code after

-- a direct call with a number that has to name something, such as a mode. If it names nothing, the call is refused with this code before all else
abbrev pub ServesDirectWish : {W : Type 0} → ℕ → Option W → (W → Call) → ℕ → Option Managed → ℕ → Option Managed → Beside → Type 0
ServesDirectWish wrong None call who before code after beside = Tells wrong before code after × beside None
ServesDirectWish wrong (Some wish) call who before code after beside = ServesDirect who (call wish) before code after beside

-- a manager is made, if there is none
abbrev pub OpensSpace : ℕ → ℕ → Option Managed → ℕ → Option Managed → Type 0
OpensSpace places sessions (Some manager) code after = Tells is_open_already (Some manager) code after
OpensSpace places sessions None code after =
    MatchOption (new_fault places sessions)
    (((code ≡ 0) × (after ≡ Some (new_manager places sessions))) ⊎ Tells no_memory None code after)
    (λ (fault : NewError). Tells (new_code fault) None code after)

-- a manager is made, if there is none and the program has the headers of this version
abbrev pub OpensVersion : ℕ → ℕ → ℕ → Option Managed → ℕ → Option Managed → Type 0
OpensVersion version places sessions before code after =
    ((version == library_version ≡ true) × OpensSpace places sessions before code after)
    ⊎ ((version == library_version ≡ false) × Tells other_version before code after)

-- the manager is freed
abbrev pub Closes : Option Managed → ℕ → Option Managed → Type 0
Closes None code after = Tells closed None code after
Closes (Some manager) code after = (code ≡ 0) × (after ≡ None)
