-- `release`: the release of a held ticket. It takes no memory, and is refused only if no such ticket is held. It changes no other ticket and no wait, and
-- learns and reads nothing.
use Rattle.std.specs.Prelude.{◌≡◌, ℕ, Bool, true, false}
use Rattle.mdl_calls.specs.FirstWords.{Answer, CallSpec, Done, Effect, GivesUp, Keeps, Refused, holds, no_ticket_cause, unchanged}

-- its answers
abbrev pub answers : Answer → Bool
answers (Refused why) = true
answers Done = true
answers _ = false

-- the ticket is given up
abbrev pub effect : ℕ → Answer → Effect
effect id Done = GivesUp id
effect id _ = Keeps

-- the call
abbrev pub release : ℕ → ℕ → CallSpec
release who id = record (unchanged who) {
  answers = answers;
  clear = λ knows own. holds id own ≡ true;
  cause = no_ticket_cause id;
  effect = effect id;
}
