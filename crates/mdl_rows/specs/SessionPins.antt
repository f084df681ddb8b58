-- What a session pins once it has left, over any lock space: nothing.
use Rattle.std.specs.Prelude.{◌≡◌, ℕ, false}
use Rattle.mdl_calls.specs.declared.lock_space.LockSpace.{Ghosts}
use Rattle.mdl_calls.specs.Words.{HasNothing, Runs, is_pinned}
use Rattle.mdl_rows.specs.Leavings.{leaving}
use Rattle.mdl_rows.specs.Sessions.{Session}
use Rattle.mdl_rows.specs.StatementPins.{HasNoSparePin}

-- a session pins no place, and owes no reschedule
abbrev pub PinsNothing : {S : Type 0} → Ghosts S → S → ℕ → Type 0
PinsNothing members space who = (place : ℕ) → (is_pinned place (members.own space who) ≡ false) × (members.owes space who place → ⊥)

-- a session that leaves has no ticket and no wait afterwards, pins no place and owes no reschedule, if it pinned only what its context needed, also if it leaves
-- while a statement waits
abbrev pub LeaversPinNothing : {S : Type 0} → Ghosts S → Type 0
LeaversPinNothing {S} members =
    (session : Session) (a b : S) → HasNoSparePin members a session.context → Runs members.joins a (leaving session) tt b
    → HasNothing (members.own b session.context.who) × PinsNothing members b session.context.who
