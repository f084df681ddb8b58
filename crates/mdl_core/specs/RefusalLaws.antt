-- Which error the space of one thread returns if there are several causes: the first in the order of `SpaceError`, but `WrongKind`
-- before `Def`.
use Rattle.std.specs.Prelude.{◌≡◌, ◌≢◌, ◌⊎◌, ℕ, Bool, true, false, ◌&&◌, ◌||◌, Some, None}
use Rattle.mdl_key.specs.declared.mode.Mode.{Mode}
use Rattle.mdl_key.specs.declared.mode.Mode.TheVariants.{X}
use Rattle.mdl_key.specs.Words.{kind_of, is_mode_of}
use Rattle.mdl_defs.specs.declared.change.Change.{Change}
use Rattle.mdl_defs.specs.declared.def_error.DefError.{DefError}
use Rattle.mdl_defs.specs.Changes.{change_fault}
use Rattle.mdl_defs.specs.VersionedDefinitions.{suits}
use Rattle.mdl_calls.specs.declared.answers.Held.{Held}
use Rattle.mdl_calls.specs.declared.space_error.SpaceError.{SpaceError}
use Rattle.mdl_calls.specs.declared.space_error.SpaceError.TheVariants.{NoPlace, NotHeld, NotUpgradable, NotExclusive, AlreadyWaiting, BadMode, InUse, VersionFull, CounterFull, Full, Def, WrongKind}
use Rattle.mdl_calls.specs.Words.{Refused, Done, Call, Try_now, Begin_wait, Clone_ticket, Upgrade_now, Merge, Downgrade, Change_definition, Unpin, may_merge}
use Rattle.mdl_core.specs.declared.pending.Pending.{Pending}
use Rattle.mdl_core.specs.CoreCalls.{outcome, held_ticket, is_lower}
use Rattle.mdl_core.specs.Cores.{Core, seat_at, has_pin, key_at, standing_at, unpinning}
use Rattle.mdl_core.specs.SessionLaws.{HasWait, Needs, HasNoNumber, HasNoRoom, HasNoVersion}
use Rattle.mdl_system.specs.Strength.{covers, may_upgrade}

-- the call is refused with this error, and nothing changes
abbrev pub IsRefused : Core → Call → SpaceError → Type 0
IsRefused core call refusal = outcome call core ≡ (Refused refusal, core)

-- the call requests a lock, with waiting or without
abbrev pub AsksFor : ℕ → ℕ → Mode → Call → Type 0
AsksFor who place mode call = (call ≡ Try_now who place mode) ⊎ (call ≡ Begin_wait who place mode)

-- the session has no wait
abbrev pub IsIdle : Core → ℕ → Type 0
IsIdle core who = (seat_at who core).wait ≡ None

-- whether the mode is one of the kind of the place's key
abbrev pub is_mode_at : ℕ → Mode → Core → Bool
is_mode_at place mode core = is_mode_of (kind_of (key_at place core).namespace) mode

-- a request for a lock is refused first if the session doesn't pin its place, even if the session waits; then if the session waits,
-- whatever the mode; then if the mode isn't one of the place's kind; and then if the session has used up its numbers, even if the lock is
-- full
abbrev pub RefusesWishesInOrder : Type 0
RefusesWishesInOrder =
    (core : Core) (who place : ℕ) (mode : Mode) (call : Call) → AsksFor who place mode call →
    (has_pin who place core ≡ false → IsRefused core call NoPlace)
    × (has_pin who place core ≡ true → (wait : Pending) → HasWait core who wait → IsRefused core call AlreadyWaiting)
    × (has_pin who place core ≡ true → IsIdle core who → is_mode_at place mode core ≡ false → IsRefused core call BadMode)
    × (has_pin who place core ≡ true → IsIdle core who → is_mode_at place mode core ≡ true → HasNoNumber core who →
    IsRefused core call CounterFull)

-- an unpin is refused first if the session doesn't pin the place, and then if it has a ticket or a wait there. Otherwise it is made: the
-- session's pins are changed, and nothing else.
abbrev pub RefusesUnpinsInOrder : Type 0
RefusesUnpinsInOrder =
    (core : Core) (who place : ℕ) → let call = Unpin who place in
    (has_pin who place core ≡ false → IsRefused core call NoPlace)
    × (has_pin who place core ≡ true → Needs core who place → IsRefused core call InUse)
    × (has_pin who place core ≡ true → (Needs core who place → ⊥) → outcome call core ≡ (Done, unpinning who place core))

-- whether a held ticket can be cloned in the mode
abbrev pub serves_for : Held → Mode → Core → Bool
serves_for ticket mode core = covers ticket.mode mode && is_mode_at ticket.place mode core

-- a clone is refused first if the ticket isn't held; then if the session waits; then if the ticket can't be cloned in the mode; then
-- if the session has used up its numbers; and last if the lock is full
abbrev pub RefusesClonesInOrder : Type 0
RefusesClonesInOrder =
    (core : Core) (who id : ℕ) (mode : Mode) → let call = Clone_ticket who id mode in
    (held_ticket who id core ≡ None → IsRefused core call NotHeld)
    × ((ticket : Held) → held_ticket who id core ≡ Some ticket →
    ((wait : Pending) → HasWait core who wait → IsRefused core call AlreadyWaiting)
    × (IsIdle core who → serves_for ticket mode core ≡ false → IsRefused core call BadMode)
    × (IsIdle core who → serves_for ticket mode core ≡ true → HasNoNumber core who → IsRefused core call CounterFull)
    × (IsIdle core who → serves_for ticket mode core ≡ true → (HasNoNumber core who → ⊥) → HasNoRoom core ticket.place →
    IsRefused core call Full))

-- whether a held ticket covers a mode already or may be upgraded to it, and the mode is one of the place's kind
abbrev pub is_upgradable : Held → Mode → Core → Bool
is_upgradable ticket mode core = (covers ticket.mode mode || may_upgrade ticket.mode mode) && is_mode_at ticket.place mode core

-- an upgrade or a downgrade is refused first if the ticket isn't held, and then if it may not get the mode. An upgrade is then
-- refused if the session waits. A downgrade is made even if it waits.
abbrev pub RefusesNewModesInOrder : Type 0
RefusesNewModesInOrder =
    (core : Core) (who id : ℕ) (mode : Mode) → let up = Upgrade_now who id mode in let down = Downgrade who id mode in
    (held_ticket who id core ≡ None → IsRefused core up NotHeld × IsRefused core down NotHeld)
    × ((ticket : Held) → held_ticket who id core ≡ Some ticket →
    (is_upgradable ticket mode core ≡ false → IsRefused core up NotUpgradable)
    × (is_upgradable ticket mode core ≡ true → (wait : Pending) → HasWait core who wait → IsRefused core up AlreadyWaiting)
    × (is_lower mode ticket core ≡ false → IsRefused core down NotUpgradable)
    × (is_lower mode ticket core ≡ true → (outcome down core).0 ≡ Done))

-- a merge is refused first if one of the two tickets isn't held; then if the session waits; and last if the tickets may not be
-- merged
abbrev pub RefusesMergesInOrder : Type 0
RefusesMergesInOrder =
    (core : Core) (who old new : ℕ) → let call = Merge who old new in
    (held_ticket who old core ≡ None → IsRefused core call NotHeld)
    × (held_ticket who new core ≡ None → IsRefused core call NotHeld)
    × ((kept gone : Held) → held_ticket who old core ≡ Some kept → held_ticket who new core ≡ Some gone →
    ((wait : Pending) → HasWait core who wait → IsRefused core call AlreadyWaiting)
    × (IsIdle core who → may_merge kept gone ≡ false → IsRefused core call BadMode)
    × (IsIdle core who → may_merge kept gone ≡ true → (outcome call core).0 ≡ Done))

-- a change of the definition at a ticket's place isn't refused because of the ticket's mode, nor because no version is left
abbrev pub MayChangeThere : Core → Held → Type 0
MayChangeThere core ticket = (ticket.mode ≡ X) × (HasNoVersion core ticket.place → ⊥)

-- whether a change suits the key of a place
abbrev pub suits_place : ℕ → Change → Core → Bool
suits_place place change core = suits (key_at place core).namespace change

-- a change of a definition is refused first if the ticket isn't held; then if it isn't held in mode X; then if no version is left;
-- then if the key can't have such a definition; and last because of the definition that the key has
abbrev pub RefusesChangesInOrder : Type 0
RefusesChangesInOrder =
    (core : Core) (who id : ℕ) (change : Change) → let call = Change_definition who id change in
    (held_ticket who id core ≡ None → IsRefused core call NotHeld)
    × ((ticket : Held) → held_ticket who id core ≡ Some ticket →
    (ticket.mode ≢ X → IsRefused core call NotExclusive)
    × (ticket.mode ≡ X → HasNoVersion core ticket.place → IsRefused core call VersionFull)
    × (MayChangeThere core ticket → suits_place ticket.place change core ≡ false → IsRefused core call WrongKind)
    × (MayChangeThere core ticket → suits_place ticket.place change core ≡ true →
    (why : DefError) → change_fault (standing_at ticket.place core).definition change ≡ Some why → IsRefused core call (Def why)))
