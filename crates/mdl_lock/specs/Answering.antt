-- How an answer is written. The wording is this project's own.
use Rattle.std.specs.Prelude.{ℕ, List, [], ◌∷◌, ◌++◌, codes, flat_map}
use Rattle.std.specs.Fmt.{decimal}
use Rattle.mdl_key.specs.declared.mode.Mode.{Mode}
use Rattle.mdl_key.specs.Modes.{mode_name}
use Rattle.mdl_lock.specs.declared.answer.Answer.{Answer}
use Rattle.mdl_lock.specs.declared.answer.Answer.TheVariants.{Granted, Waits, Released, TimedOut, Refused}

-- a session, what became of it, and the mode
abbrev pub told : ℕ → List ℕ → Mode → List ℕ
told session what mode = decimal session ++ what ++ mode_name mode

-- an answer without its line feed
abbrev pub answer_text : Answer → List ℕ
answer_text (Granted session mode) = told session (codes " GRANTED ") mode
answer_text (Waits session mode) = told session (codes " WAITS ") mode
answer_text (Released session mode) = told session (codes " RELEASED ") mode
answer_text (TimedOut session mode) = told session (codes " TIMEDOUT ") mode
answer_text (Refused session) = decimal session ++ codes " REFUSED"

-- a line for each answer
abbrev pub text_of : List Answer → List ℕ
text_of answers = flat_map (λ answer. answer_text answer ++ 10 ∷ []) answers
