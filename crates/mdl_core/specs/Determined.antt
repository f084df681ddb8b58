-- The answer to each call, by the system of locks (who holds what, who waits for what, and what is defined), by the places of its
-- keys, and by each session's pins and last numbers. The data of the space of one thread occur only in the laws at the end.
use Rattle.std.specs.Prelude.{◌≡◌, ◌≢◌, ◌⊎◌, ◌↔◌, ℕ, zero, suc, ◌+◌, ◌-◌, ◌<◌, ◌≤◌, ◌^◌, true, false, ◌||◌, List, [], ◌∷◌, ◌++◌, length, map, slice_get, slice_set, Option, Some, None, MatchOption, IsSome, Contains, AllPairs}
use Rattle.std.specs.declared.cmp.Ordering.TheVariants.{Less}
use Rattle.mdl_key.specs.Keys.{table_key, key_cmp}
use Rattle.mdl_key.specs.declared.mode.Mode.{Mode}
use Rattle.mdl_key.specs.declared.mode.Mode.TheVariants.{X}
use Rattle.mdl_key.specs.Words.{KeyName, is_mode_of}
use Rattle.mdl_book.specs.declared.book_view.BookView.{BookView}
use Rattle.mdl_defs.specs.declared.change.Change.{Change}
use Rattle.mdl_defs.specs.declared.definition.Definition.{Definition}
use Rattle.mdl_defs.specs.Changes.{change_fault}
use Rattle.mdl_defs.specs.VersionedDefinitions.{suits}
use Rattle.mdl_calls.specs.declared.answers.Held.{Held}
use Rattle.mdl_calls.specs.declared.answers.Settled.{Settled}
use Rattle.mdl_calls.specs.declared.answers.Settled.TheVariants as settled_as
use Rattle.mdl_calls.specs.declared.answers.TimedOut.TheVariants.{ByThisCall, Already}
use Rattle.mdl_calls.specs.declared.space_error.SpaceError.{SpaceError}
use Rattle.mdl_calls.specs.declared.space_error.SpaceError.TheVariants.{NoPlace, NotHeld, NotUpgradable, NotExclusive, AlreadyWaiting, BadMode, InUse, VersionFull, NoWait, Unsettled, CounterFull, Full, Def, WrongKind}
use Rattle.mdl_calls.specs.Words.{Answer, Refused, Done, At_place, Granted, Would_wait, Waits, No_cycle, Victim_is, Pending, Is_settled, Timed_out, Lost, Has_wait, Has_killed, Holds, Reads, Changed, Key_is, Tables, Upgraded, finds_no_memory, Call, Resolve, Try_now, Begin_wait, Search, Poll_wait, Settle_timeout, End_wait, Wait_of, Kill, Release, Clone_ticket, Upgrade_now, Merge, Downgrade, Read_definition, Read_kept, Change_definition, Key_of, Tables_of, List_held, Unpin, caller, Numbers, Draws, with_place, without_place}
use Rattle.mdl_core.specs.CoreJoins.{Joins, numbers_at}
use Rattle.mdl_core.specs.Cores.{Core, has_session, seat_at}
use Rattle.mdl_core.specs.CoreSystems.{system_of, wait_state_of}
use Rattle.mdl_core.specs.SessionLaws.{WaitsSomewhere}
use Rattle.mdl_core.specs.Ties.{IsSoundCore}
use Rattle.mdl_system.specs.Deadlocks.{IsDeadlock, IsChosenDeadlock, IsVictimOf}
use Rattle.mdl_system.specs.Strength.{covers, may_upgrade, may_downgrade}
use Rattle.mdl_system.specs.Systems.{Holding, System, Versioned, Waiter, Held as IsHeld, HasNoWait, IsGrantable, lock_kind}

-- ---- which answer is right

-- which answers to a call are right
abbrev pub Right : Type 1
Right = Answer → Type 0

-- only this answer is right
abbrev pub Only : Answer → Right
Only right answer = answer ≡ right

-- the first answers are right if the condition holds, and otherwise the second ones
abbrev pub Where : Type 0 → Right → Right → Right
Where P Then Else answer = (P × Then answer) ⊎ ((P → ⊥) × Else answer)

-- a call is refused with this error unless the condition holds. Of nested conditions the first one that fails counts.
abbrev pub RefusedUnless : Type 0 → SpaceError → Right → Right
RefusedUnless P refusal Then = Where P Then (Only (Refused refusal))

-- ---- places

-- the keys that have places, in the order of the places from 1 on, and the greatest number of places
pub record Places : Type 0 where
  pub keys : List KeyName
  pub most : ℕ

-- the key of a place, if it has one
abbrev pub key_of_place : Places → ℕ → Option KeyName
key_of_place places zero = None
key_of_place places (suc index) = slice_get places.keys index

-- the right answers by the key of a place: a refusal if it has none
abbrev pub AtPlace : Places → ℕ → (KeyName → Right) → Right
AtPlace places place Then answer = MatchOption (key_of_place places place) (answer ≡ Refused NoPlace) (λ key. Then key answer)

-- the right answers by the key of a place that the session pins, of these pins: a refusal if it isn't among them
abbrev pub AtPin : Places → List ℕ → ℕ → (KeyName → Right) → Right
AtPin places pins place Then =
    RefusedUnless (Contains pins place) NoPlace (λ answer. (key : KeyName) × (key_of_place places place ≡ Some key) × Then key answer)

-- a session has nothing on a key: it has no granted ticket, whether it holds it or has yet to end its wait for it, and no waiting one
abbrev pub HasNothingOn : {D : Type 0} → System D → ℕ → KeyName → Type 0
HasNothingOn system who key =
    ((ticket : Holding) → Contains system.granted ticket → ticket.session ≡ who → ticket.key ≢ key)
    × ((waiter : Waiter) → Contains (system.waiting key) waiter → waiter.ticket.session ≢ who)

-- the right answers to giving up a pin: that it is done exactly if the place is pinned, and the session has nothing on its key
abbrev pub ToUnpin : {D : Type 0} → System D → Places → List ℕ → ℕ → ℕ → Right
ToUnpin system places pins who place = AtPin places pins place (λ key. RefusedUnless (HasNothingOn system who key) InUse (Only Done))

-- a place is in use: a session pins it, or the version of its key isn't 0
abbrev pub IsInUse : {D : Type 0} → System D → Places → (ℕ → List ℕ) → ℕ → Type 0
IsInUse system places pins place =
    ((who : ℕ) × Contains (pins who) place)
    ⊎ ((key : KeyName) × (key_of_place places place ≡ Some key) × ((system.definitions key).version ≢ 0))

-- a place has a key, and isn't in use
abbrev pub IsUnused : {D : Type 0} → System D → Places → (ℕ → List ℕ) → ℕ → Type 0
IsUnused system places pins place = IsSome (key_of_place places place) × (IsInUse system places pins place → ⊥)

-- the place is the least one that has a key and isn't in use
abbrev pub IsLeastUnused : {D : Type 0} → System D → Places → (ℕ → List ℕ) → ℕ → Type 0
IsLeastUnused system places pins place =
    IsUnused system places pins place × ((other : ℕ) → IsUnused system places pins other → place ≤ other)

-- the right answers to giving a key the place of another one: the least place that isn't in use, and a refusal exactly if all are
abbrev pub ToReplace : {D : Type 0} → System D → Places → (ℕ → List ℕ) → Right
ToReplace system places pins =
    RefusedUnless ((place : ℕ) × IsUnused system places pins place) NoPlace
    (λ answer. (place : ℕ) × IsLeastUnused system places pins place × (answer ≡ At_place place))

-- the right answers to resolving a key: the place that it has. If it has none, the next place as long as one is left, and then that of
-- another key.
abbrev pub ToResolve : {D : Type 0} → System D → Places → (ℕ → List ℕ) → KeyName → Right
ToResolve system places pins key answer =
    ((place : ℕ) × (key_of_place places place ≡ Some key) × (answer ≡ At_place place))
    ⊎ ((Contains places.keys key → ⊥)
    × Where (length places.keys < places.most) (Only (At_place (length places.keys + 1))) (ToReplace system places pins) answer)

-- the key of the place is that of a table of this schema, and has a definition
abbrev pub HasDefinedTable : System Definition → Places → List ℕ → ℕ → Type 0
HasDefinedTable system places schema place =
    (table : List ℕ) × (key_of_place places place ≡ Some (table_key schema table)) × IsSome (system.definitions (table_key schema table)).definition

-- the key of the one place comes before that of the other
abbrev pub PlaceComesBefore : Places → ℕ → ℕ → Type 0
PlaceComesBefore places one other =
    (key later : KeyName) × (key_of_place places one ≡ Some key) × (key_of_place places other ≡ Some later) × (key_cmp key later ≡ Less)

-- the right answer to listing a schema's tables: the places of all that have a definition, in the order of their keys
abbrev pub ToTellTables : System Definition → Places → List ℕ → Right
ToTellTables system places schema answer =
    (tables : List ℕ) × (answer ≡ Tables tables)
    × AllPairs (PlaceComesBefore places) tables
    × ((place : ℕ) → Contains tables place ↔ HasDefinedTable system places schema place)

-- ---- locks

-- the lock of a key has room for a ticket: its granted tickets, each counted once, and its waiting ones are together fewer than 65,535
abbrev pub LockHasRoom : {D : Type 0} → System D → KeyName → Type 0
LockHasRoom system key =
    (tickets : List Holding) → AllPairs (λ one other. one ≢ other) tickets
    → ((ticket : Holding) → Contains tickets ticket → Contains system.granted ticket × (ticket.key ≡ key))
    → length tickets + length (system.waiting key) < 65535

-- a session has a number left for a ticket
abbrev pub HasNumberLeft : Numbers → Type 0
HasNumberLeft numbers = numbers.last_ticket < 2 ^ 60 - 1

-- the right answers when a lock is granted: the ticket's number, which is the next one, if there is room
abbrev pub ToGrant : {D : Type 0} → System D → Numbers → KeyName → Right
ToGrant system numbers key = RefusedUnless (LockHasRoom system key) Full (Only (Granted (numbers.last_ticket + 1)))

-- the right answers to a request for a lock: at a place that the session pins, by a session that has no wait and has a number left, in a
-- mode of the key's kind. The lock is granted if the request is grantable.
abbrev pub ToAsk : {D : Type 0} → System D → Places → List ℕ → Numbers → ℕ → ℕ → Mode → (KeyName → Right) → Right
ToAsk system places pins numbers who place mode Otherwise =
    AtPin places pins place (λ key.
    RefusedUnless (HasNoWait system who) AlreadyWaiting (
    RefusedUnless (is_mode_of (lock_kind key) mode ≡ true) BadMode (
    RefusedUnless (HasNumberLeft numbers) CounterFull (
    Where (IsGrantable system who key mode) (ToGrant system numbers key) (Otherwise key)))))

-- the right answers when a wait begins: the wait's number, which is the next one, if there is room
abbrev pub ToWait : {D : Type 0} → System D → Numbers → KeyName → Right
ToWait system numbers key = RefusedUnless (LockHasRoom system key) Full (Only (Waits (numbers.last_wait + 1)))

-- ---- held tickets

-- the right answers by the ticket of this number that the session holds: a refusal if it holds none
abbrev pub OfHolding : {D : Type 0} → System D → ℕ → ℕ → (Holding → Right) → Right
OfHolding system who id Then answer =
    ((ticket : Holding) × IsHeld system who ticket × (ticket.number ≡ id) × Then ticket answer)
    ⊎ (((ticket : Holding) → IsHeld system who ticket → ticket.number ≢ id) × (answer ≡ Refused NotHeld))

-- the right answers to cloning a held ticket, which overtakes waiters: by a session that has no wait and has a number left, in a mode
-- of the key's kind that the held ticket covers
abbrev pub ToClone : {D : Type 0} → System D → Numbers → ℕ → Mode → Holding → Right
ToClone system numbers who mode ticket =
    RefusedUnless (HasNoWait system who) AlreadyWaiting (
    RefusedUnless ((covers ticket.mode mode ≡ true) × (is_mode_of (lock_kind ticket.key) mode ≡ true)) BadMode (
    RefusedUnless (HasNumberLeft numbers) CounterFull (ToGrant system numbers ticket.key)))

-- the right answers to an upgrade: to a mode of the key's kind that the ticket covers already or may be upgraded to, by a session that
-- has no wait. The mode is granted at once if the ticket covers it already or the request for it is grantable.
abbrev pub ToUpgrade : {D : Type 0} → System D → ℕ → Mode → Holding → Right
ToUpgrade system who mode ticket =
    RefusedUnless (((covers ticket.mode mode || may_upgrade ticket.mode mode) ≡ true) × (is_mode_of (lock_kind ticket.key) mode ≡ true)) NotUpgradable (
    RefusedUnless (HasNoWait system who) AlreadyWaiting (
    Where ((covers ticket.mode mode ≡ true) ⊎ IsGrantable system who ticket.key mode) (Only Upgraded) (Only Would_wait)))

-- the right answers to a downgrade: to a mode of the key's kind that the ticket may be downgraded to
abbrev pub ToDowngrade : Mode → Holding → Right
ToDowngrade mode ticket =
    RefusedUnless ((may_downgrade ticket.mode mode ≡ true) × (is_mode_of (lock_kind ticket.key) mode ≡ true)) NotUpgradable (Only Done)

-- the right answers to a merge: by a session that has no wait, of two different tickets of one key, if the one to be released is at
-- least as strong as the other
abbrev pub ToMerge : {D : Type 0} → System D → ℕ → Holding → Holding → Right
ToMerge system who kept gone =
    RefusedUnless (HasNoWait system who) AlreadyWaiting (
    RefusedUnless ((kept.number ≢ gone.number) × (gone.key ≡ kept.key) × (covers gone.mode kept.mode ≡ true)) BadMode (Only Done))

-- the right answer to a read: the key's version and definition
abbrev pub ToRead : Versioned Definition → Right
ToRead standing = Only (Reads standing.version standing.definition)

-- the right answers to a change of a key's definition: the next version, if one is left, if the change suits the key, and if the
-- definition that the key has can be changed so
abbrev pub ToChange : KeyName → Change → Versioned Definition → Right
ToChange key change standing =
    RefusedUnless (standing.version < 1000000) VersionFull (
    RefusedUnless (suits key.namespace change ≡ true) WrongKind (λ answer.
    MatchOption (change_fault standing.definition change) (answer ≡ Changed (standing.version + 1)) (λ why. answer ≡ Refused (Def why))))

-- in the system a session holds this ticket, on the key of the ticket's place
abbrev pub HoldsAtPlace : {D : Type 0} → System D → Places → ℕ → Held → Type 0
HoldsAtPlace system places who ticket =
    (key : KeyName) × (key_of_place places ticket.place ≡ Some key)
    × IsHeld system who (record { session = who; number = ticket.id; key = key; mode = ticket.mode })

-- the right answer to listing a session's tickets: all that it holds, in the order of their numbers
abbrev pub ToList : {D : Type 0} → System D → Places → ℕ → Right
ToList system places who answer =
    (tickets : List Held) × (answer ≡ Holds tickets)
    × AllPairs (λ (earlier later : Held). earlier.id < later.id) tickets
    × ((ticket : Held) → Contains tickets ticket ↔ HoldsAtPlace system places who ticket)

-- ---- waits

-- a session has a wait of this number, with a ticket of this number, which is settled in this way, if it is: the wait is granted and not
-- ended, or the ticket still waits for some key
abbrev pub IsWait : {D : Type 0} → System D → ℕ → ℕ → ℕ → Option Settled → Type 0
IsWait system who number id (Some settled_as.Granted) = Contains system.unended (record { session = who; wait = number; ticket = id })
IsWait system who number id settled =
    (key : KeyName) × (mode : Mode)
    × Contains (system.waiting key) (record { ticket = record { session = who; number = id; mode = mode }; wait = number; state = wait_state_of settled })

-- the right answers by the session's wait, or those for a session that has none
abbrev pub OfWait : {D : Type 0} → System D → ℕ → Right → (ℕ → ℕ → Option Settled → Right) → Right
OfWait system who Without Then answer =
    ((number id : ℕ) × (settled : Option Settled) × IsWait system who number id settled × Then number id settled answer)
    ⊎ (HasNoWait system who × Without answer)

-- the answer to polling a wait
abbrev pub to_poll : Option Settled → Answer
to_poll None = Pending
to_poll (Some how) = Is_settled how

-- the answer to timing out a wait: it is settled by this, unless it was settled before
abbrev pub to_time_out : Option Settled → Answer
to_time_out None = Timed_out ByThisCall
to_time_out (Some how) = Timed_out (Already how)

-- the answer to ending a wait: a refusal if it isn't settled, its ticket's number if it was granted, and otherwise how it was lost
abbrev pub to_end : ℕ → Option Settled → Answer
to_end id None = Refused Unsettled
to_end id (Some settled_as.Granted) = Granted id
to_end id (Some how) = Lost how

-- the right answers to a search: if the session is part of a deadlock, the victim of the chosen one, and otherwise that there is none
abbrev pub ToSearch : {D : Type 0} → System D → ℕ → Right
ToSearch system who =
    Where ((cycle : List ℕ) × IsDeadlock system who cycle)
    (λ answer. (cycle : List ℕ) × (victim : ℕ) × IsChosenDeadlock system who cycle × IsVictimOf system cycle victim × (answer ≡ Victim_is victim))
    (Only No_cycle)

-- ---- all calls

-- the right answers to a call
abbrev pub Determines : System Definition → Places → (ℕ → List ℕ) → (ℕ → Numbers) → Call → Right
Determines system places pins numbers (Resolve who key) = ToResolve system places pins key
Determines system places pins numbers (Try_now who place mode) = ToAsk system places (pins who) (numbers who) who place mode (λ key. Only Would_wait)
Determines system places pins numbers (Begin_wait who place mode) = ToAsk system places (pins who) (numbers who) who place mode (ToWait system (numbers who))
Determines system places pins numbers (Search who) = ToSearch system who
Determines system places pins numbers (Poll_wait who) = OfWait system who (Only (Refused NoWait)) (λ number id settled. Only (to_poll settled))
Determines system places pins numbers (Settle_timeout who) =
    OfWait system who (Only (Refused NoWait)) (λ number id settled. Only (to_time_out settled))
Determines system places pins numbers (End_wait who) = OfWait system who (Only (Refused NoWait)) (λ number id settled. Only (to_end id settled))
Determines system places pins numbers (Wait_of target) =
    OfWait system target (Only (Has_wait None)) (λ number id settled. Only (Has_wait (Some number)))
Determines system places pins numbers (Kill target number) = Where (WaitsSomewhere system target number) (Only (Has_killed true)) (Only (Has_killed false))
Determines system places pins numbers (Release who id) = OfHolding system who id (λ ticket. Only Done)
Determines system places pins numbers (Clone_ticket who id mode) = OfHolding system who id (ToClone system (numbers who) who mode)
Determines system places pins numbers (Upgrade_now who id mode) = OfHolding system who id (ToUpgrade system who mode)
Determines system places pins numbers (Merge who old new) = OfHolding system who old (λ kept. OfHolding system who new (ToMerge system who kept))
Determines system places pins numbers (Downgrade who id mode) = OfHolding system who id (ToDowngrade mode)
Determines system places pins numbers (Read_definition who id) = OfHolding system who id (λ ticket. ToRead (system.definitions ticket.key))
Determines system places pins numbers (Read_kept who id) = OfHolding system who id (λ ticket. ToRead (system.definitions ticket.key))
Determines system places pins numbers (Change_definition who id change) =
    OfHolding system who id (λ ticket. RefusedUnless (ticket.mode ≡ X) NotExclusive (ToChange ticket.key change (system.definitions ticket.key)))
Determines system places pins numbers (Key_of who place) = AtPlace places place (λ key. Only (Key_is key))
Determines system places pins numbers (Tables_of who schema) = ToTellTables system places schema
Determines system places pins numbers (List_held who) = ToList system places who
Determines system places pins numbers (Unpin who place) = ToUnpin system places (pins who) who place

-- ---- the space of one thread

-- the places of the space's keys
abbrev pub places_of : Core → Places
places_of core = record { keys = map (λ (book : BookView). book.key) core.books; most = core.places }

-- the places that a session pins, in rising order
abbrev pub pins_at : Core → ℕ → List ℕ
pins_at core who = (seat_at who core).pins

-- the answer to a call of the space, except that memory ran out, is the one that is determined by its system, the places of its keys,
-- the pins of its sessions and the last numbers that they got, and these determine no other answer
abbrev pub AnswersAreDetermined : Type 0
AnswersAreDetermined =
    (a b : Core) (call : Call) (answer other : Answer) → IsSoundCore a → Joins a call answer b → finds_no_memory answer ≡ false →
    Determines (system_of a) (places_of a) (pins_at a) (numbers_at a) call other ↔ (other ≡ answer)

-- the places after a call with this answer: a key that was resolved had a place before, or has now got the next one, or, as none was left, that of
-- another key. No other call changes the places.
abbrev pub PlacesAfter : Call → Answer → Places → Places → Type 0
PlacesAfter (Resolve who key) (At_place place) before after =
    (Contains before.keys key × (after ≡ before))
    ⊎ ((Contains before.keys key → ⊥)
    × (((length before.keys < before.most) × (after ≡ record before { keys = before.keys ++ key ∷ [] }))
    ⊎ ((before.most ≤ length before.keys) × (after ≡ record before { keys = slice_set before.keys (place - 1) key }))))
PlacesAfter _ _ before after = after ≡ before

-- the pins of a call's caller after it, by those before it: a key's place that was resolved is pinned, and one that was given up isn't. No
-- other call changes the pins.
abbrev pub pins_after : Call → Answer → List ℕ → List ℕ
pins_after (Resolve who key) (At_place place) pins = with_place place pins
pins_after (Unpin who place) Done pins = without_place place pins
pins_after _ _ pins = pins

-- the places after a call, and each session's pins and last numbers, follow from those before it, the call and its answer. For the system,
-- see `CallsAreEvents`.
abbrev pub PlacesPinsAndNumbersFollow : Type 0
PlacesPinsAndNumbersFollow =
    (a b : Core) (call : Call) (answer : Answer) → IsSoundCore a → Joins a call answer b →
    PlacesAfter call answer (places_of a) (places_of b)
    × ((who : ℕ) → has_session who a ≡ true →
    (caller call ≡ Some who
    → (pins_at b who ≡ pins_after call answer (pins_at a who)) × Draws call answer (numbers_at a who) (numbers_at b who))
    × ((caller call ≡ Some who → ⊥) → (pins_at b who ≡ pins_at a who) × (numbers_at b who ≡ numbers_at a who)))

-- a place that is in use keeps its key at each call: one that a session pins, even if other sessions give up theirs, and one whose version
-- isn't 0
abbrev pub PlacesInUseKeepTheirKeys : Type 0
PlacesInUseKeepTheirKeys =
    (a b : Core) (call : Call) (answer : Answer) (place : ℕ) → IsSoundCore a → Joins a call answer b →
    IsInUse (system_of a) (places_of a) (pins_at a) place →
    key_of_place (places_of b) place ≡ key_of_place (places_of a) place
