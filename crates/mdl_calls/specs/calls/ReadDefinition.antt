-- `read_definition`: the version and the definition at a held ticket's place. It is refused only if no such ticket is held, or if memory runs out, and then
-- reads nothing. It changes no ticket and no wait.
use Rattle.std.specs.Prelude.{◌≡◌, ℕ, Bool, true, false, Some}
use Rattle.mdl_calls.specs.FirstWords.{Answer, CallSpec, OfHeld, Reads, ReadsNothing, ReadsThere, Refused, SessionData, holds, read_cause, unchanged}

-- its answers
abbrev pub answers : Answer → Bool
answers (Refused why) = true
answers (Reads version definition) = true
answers _ = false

-- what was answered is read at the ticket's place
abbrev pub reads : ℕ → Answer → SessionData → SessionData → Type 0
reads id (Reads version definition) a b = OfHeld id a.own (λ ticket. ReadsThere (record { version = version; definition = definition }) a b ticket.place)
reads id _ a b = ReadsNothing a b

-- the call
abbrev pub read_definition : ℕ → ℕ → CallSpec
read_definition who id = record (unchanged who) {
  takes_memory = true;
  answers = answers;
  clear = λ knows own. holds id own ≡ true;
  cause = read_cause id;
  reads_under = Some id;
  reads = reads id;
}
