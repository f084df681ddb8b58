-- Which upgrades of tickets are tried.
use Rattle.std.specs.Prelude.{Bool, false, ◌&&◌, ◌||◌, not, List, Option, Some, None, is_some, if◌then◌else◌}
use Rattle.mdl_shared.specs.Prelude.{AlreadyWaiting, Ask, Kind, KnownKey, Mode, NotHeld, NotUpgradable, SessionTicket, SpaceError, covers, is_mode_of, kind_known, may_upgrade}

-- whether a ticket has a mode or may be upgraded to it, at a place whose key is of this kind, or isn't known: its own mode covers that or may be upgraded
-- to it, and the mode is one of the kind
abbrev pub can_have : Mode → SessionTicket → Option Kind → Bool
can_have mode t None = false
can_have mode t (Some kind) = (covers t.mode mode || may_upgrade t.mode mode) && is_mode_of kind mode

-- why an upgrade of a ticket isn't even tried by a session with this wait, or none
abbrev pub upgrade_fault : Mode → List KnownKey → Option Ask → Option SessionTicket → Option SpaceError
upgrade_fault mode known asks None = Some NotHeld
upgrade_fault mode known asks (Some t) =
    if not (can_have mode t (kind_known t.place known)) then Some NotUpgradable else (if is_some asks then Some AlreadyWaiting else None)
