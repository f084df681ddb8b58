-- `read_kept`: like `read_definition`, with the session's cache. If memory runs out it may have read what the session had read before, and nothing else. What
-- the call does to the cache stands in `Caches`.
use Rattle.std.specs.Prelude.{◌≡◌, ℕ, Bool, true, false, Some}
use Rattle.mdl_calls.specs.FirstWords.{Answer, CallSpec, OfHeld, Reads, ReadsInVain, ReadsNothing, ReadsThere, Refused, SessionData, holds, read_cause, unchanged}

-- its answers
abbrev pub answers : Answer → Bool
answers (Refused why) = true
answers (Reads version definition) = true
answers _ = false

-- what was answered is read at the ticket's place. If it was refused, nothing new was read.
abbrev pub reads : ℕ → Answer → SessionData → SessionData → Type 0
reads id (Reads version definition) a b = OfHeld id a.own (λ ticket. ReadsThere (record { version = version; definition = definition }) a b ticket.place)
reads id (Refused why) a b = ReadsInVain why id a b
reads id _ a b = ReadsNothing a b

-- the call
abbrev pub read_kept : ℕ → ℕ → CallSpec
read_kept who id = record (unchanged who) {
  takes_memory = true;
  reads_with_cache = true;
  answers = answers;
  clear = λ knows own. holds id own ≡ true;
  cause = read_cause id;
  reads_under = Some id;
  reads = reads id;
}
