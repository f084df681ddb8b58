-- What a call of C does follows from what the manager behind the handle does.
use Rattle.std.proofs.Common.{◌≡◌, ℕ, refl, sym, ap, subst, inl, inr}
use Rattle.std.specs.Prelude.{Option, Some, None, MatchOption, Result, Ok, Err}
use Rattle.std.specs.Option.{option_map}
use Rattle.std.specs.Result.{result_ok}
use Rattle.mdl_calls.specs.Words.{Answer, Call}
use Rattle.mdl_c_parts.specs.Answers.{Beside, code_at, code_of}
use Rattle.mdl_c_calls.specs.ContextCodes.{answered, served_code}
use Rattle.mdl_c_calls.specs.Exports.{Replies, ServesCall, ServesDirect}
use Rattle.mdl_c_calls.specs.Managers.{Asks, Managed, IsOutside, JoinsServed, JoinsFor, direct_fault, seat_of}
use Rattle.mdl_c_calls.specs.declared.seat.Seat.{Seat}
use Rattle.mdl_c_calls.specs.declared.unserved.Unserved.{Unserved}

-- there is a manager, and it is asked
serves-asked : {R : Type 0} (who : ℕ) (call : Call) (answered : R → Answer) (m next : Managed) (r : Option R) (code : ℕ) (beside : Beside)
    → MatchOption r (IsOutside who m next) (λ x. JoinsFor who call (answered x) m next)
    → code ≡ code_at (option_map answered r) → beside (option_map answered r) → ServesCall who call (Some m) code (Some next) beside
serves-asked who call answered m next None code beside outside told besides = inl (outside.0, (told, ap Some outside.1), besides)
serves-asked who call answered m next (Some x) code beside joined told besides = inr (answered x, next, refl, joined, told, besides)

pub serves : {R : Type 0} (who : ℕ) (call : Call) (answered : R → Answer) (m next : Managed) (r : Option R) (code : ℕ) (before after : Option Managed) (beside : Beside)
    → before ≡ Some m → after ≡ Some next → MatchOption r (IsOutside who m next) (λ x. JoinsFor who call (answered x) m next)
    → code ≡ code_at (option_map answered r) → beside (option_map answered r) → ServesCall who call before code after beside
serves who call answered m next r code before after beside taken put asked told besides =
    subst (λ b. ServesCall who call b code after beside) (sym taken)
    (subst (λ a. ServesCall who call (Some m) code a beside) (sym put) (serves-asked who call answered m next r code beside asked told besides))

-- ---- sessions that may not be served

-- there is a manager, and it is asked for a session
pub replies : {R : Type 0} (fault : Option Seat → Option Unserved) (who : ℕ) (made : R → Managed → Managed → Type 0) (code_for : R → ℕ) (beside : Option R → Type 0)
    (m next : Managed) (r : Result R Unserved) (code : ℕ) (before after : Option Managed)
    → before ≡ Some m → after ≡ Some next → Asks (fault (seat_of who m)) (λ answer. made answer m next) r m next
    → code ≡ served_code code_for r → beside (result_ok r) → Replies fault who made code_for beside before code after
replies fault who made code_for beside m next r code before after taken put asked told besides =
    subst (λ b. Replies fault who made code_for beside b code after) (sym taken) (r, next, put, asked, told, besides)

as-answers : {R : Type 0} (fault : Option Unserved) (call : Call) (answer : R → Answer) (m next : Managed) (r : Result R Unserved)
    → Asks fault (λ x. JoinsServed call (answer x) m next) r m next → Asks fault (λ x. JoinsServed call x m next) (answered answer r) m next
as-answers fault call answer m next (Ok x) asked = asked
as-answers fault call answer m next (Err why) asked = asked

-- it is asked for one whose tickets no context keeps
pub serves-direct : {R : Type 0} (who : ℕ) (call : Call) (answer : R → Answer) (m next : Managed) (r : Result R Unserved) (code : ℕ) (before after : Option Managed) (beside : Beside)
    → before ≡ Some m → after ≡ Some next → Asks (direct_fault (seat_of who m)) (λ x. JoinsServed call (answer x) m next) r m next
    → code ≡ served_code code_of (answered answer r) → beside (result_ok (answered answer r)) → ServesDirect who call before code after beside
serves-direct who call answer m next r code before after beside taken put asked told besides =
    replies direct_fault who (JoinsServed call) code_of beside m next (answered answer r) code before after taken put
    (as-answers (direct_fault (seat_of who m)) call answer m next r asked) told besides
