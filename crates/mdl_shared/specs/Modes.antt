-- Changes of a ticket's mode, clones and merges: why they are refused, and the session's list of tickets afterwards.
use Rattle.std.specs.Prelude.{ℕ, ◌==◌, Bool, false, not, ◌&&◌, nat_le, List, map, Option, Some, None, is_some, if◌then◌else◌}
use Rattle.mdl_shared.specs.Prelude.{AlreadyWaiting, Ask, BadMode, CounterFull, KnownKey, Mode, NotHeld, NotUpgradable, SessionTicket, SpaceError, covers, is_mode_of, is_own, kind_known, may_downgrade, option_map_or}
use Rattle.mdl_shared.specs.Members.{most_numbers}

-- whether the session has looked up the key of a place, and the mode is one of its kind
abbrev pub is_fit : ℕ → Mode → List KnownKey → Bool
is_fit place mode known = option_map_or (λ kind. is_mode_of kind mode) (kind_known place known) false

-- the tickets, with this mode for the one with this number at a place
abbrev pub in_mode_at : ℕ → ℕ → Mode → List SessionTicket → List SessionTicket
in_mode_at place number mode tickets = map (λ t. if is_own place number t then record t { mode = mode } else t) tickets

-- why a downgrade is refused: there is no such ticket, or its mode can't be downgraded to the other one, or that isn't a mode of its lock's kind
abbrev pub downgrade_fault : Option SessionTicket → Mode → List KnownKey → Option SpaceError
downgrade_fault None mode known = Some NotHeld
downgrade_fault (Some t) mode known = if may_downgrade t.mode mode && is_fit t.place mode known then None else Some NotUpgradable

-- why a clone is refused: there is no such ticket, or the session has a wait, or the ticket's mode doesn't cover the other one, or that isn't a mode of
-- its lock's kind, or the session's next ticket number is too great
abbrev pub clone_fault : Option SessionTicket → Option Ask → Mode → List KnownKey → ℕ → Option SpaceError
clone_fault None asks mode known next = Some NotHeld
clone_fault (Some t) asks mode known next =
    if is_some asks then Some AlreadyWaiting
    else (if not (covers t.mode mode && is_fit t.place mode known) then Some BadMode else (if nat_le most_numbers next then Some CounterFull else None))

-- whether a ticket may take the mode of another: they are two, at one place, and the other is at least as strong
abbrev pub can_merge : SessionTicket → SessionTicket → Bool
can_merge kept gone = not (kept.number == gone.number) && (kept.place == gone.place && covers gone.mode kept.mode)

-- why a merge of two tickets is refused, by a session with this wait, or none
abbrev pub merge_fault : Option SessionTicket → Option SessionTicket → Option Ask → Option SpaceError
merge_fault None _ _ = Some NotHeld
merge_fault (Some kept) None _ = Some NotHeld
merge_fault (Some kept) (Some gone) asks =
    if is_some asks then Some AlreadyWaiting else (if can_merge kept gone then None else Some BadMode)
