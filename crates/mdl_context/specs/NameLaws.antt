-- What is left of the tickets of a key once they are released by its name.
use Rattle.std.specs.Prelude.{◌≡◌, ℕ, [], filter}
use Rattle.mdl_key.specs.Keys.{KeyName}
use Rattle.mdl_calls.specs.declared.lock_space.LockSpace.{Ghosts}
use Rattle.mdl_context.specs.Contexts.{ContextView, Attends, place_known, without_tickets}
use Rattle.mdl_context.specs.Holdings.{is_kept_at}
use Rattle.mdl_context.specs.Releases.{at_known_place}

-- once the tickets of a key are released by its name, none is left at any place that the session knows to be the
-- key's
abbrev pub NamesAreGivenUp : {S : Type 0} → Ghosts S → Type 0
NamesAreGivenUp {S} members =
    (space : S) (context : ContextView) (key : KeyName) (place : ℕ) → Attends members space context → members.knows space context.who place key →
    filter (is_kept_at place) (without_tickets (at_known_place (place_known key context.known) context.kept) context.kept) ≡ []
