-- Searches one after another, until no deadlock is left that the session is part of, after MySQL 5.7:
-- `MDL_context::find_deadlock` of sql/mdl.cc. That they end after a fixed number is this project's own choice.
use Rattle.std.specs.Prelude.{◌≡◌, ℕ, zero, suc, ◌==◌, if◌then◌else◌}
use Rattle.mdl_calls.specs.Prelude.{OutOfMemory, SpaceError}
use Rattle.mdl_calls.specs.Interface.{Answer, Refused, Victim_is, Search}
use Rattle.mdl_calls.specs.Runs.{Program, Give, Ask}

-- how a session's searches end: no deadlock is left that the session is part of, or it is a victim itself (`Over`); they stopped
-- after the greatest number of searches (`Cut_off`); or a search was refused (`Failed`)
pub data SearchEnd : Type 0 where
  Over : SearchEnd
  Cut_off : SearchEnd
  Failed : SpaceError → SearchEnd

-- a search was refused because memory ran out
abbrev pub IsStarvedSearch : SearchEnd → Type 0
IsStarvedSearch end = end ≡ Failed OutOfMemory

-- how the searches go on after an answer: with the rest if another session was the victim, and otherwise they end
abbrev pub after_search : ℕ → Program SearchEnd → Answer → Program SearchEnd
after_search who more (Victim_is victim) = if victim == who then Give Over else more
after_search who more (Refused refusal) = Give (Failed refusal)
after_search who more _ = Give Over

-- up to this number of searches by a session
unfoldable pub seeking : ℕ → ℕ → Program SearchEnd
seeking zero who = Give Cut_off
seeking (suc more) who = Ask (Search who) (after_search who (seeking more who))

-- the most searches that a session makes one after another
abbrev pub most_searches : ℕ
most_searches = 1024
