-- The results of the session's calls that try for a fast ticket and release one. They aren't calls of a lock space.
use Rattle.std.specs.Prelude.{◌≡◌, ◌⊎◌, ℕ, ◌<◌, ◌≤◌, Bool, true, not, nat_le, List, [], ◌∷◌, length, Option, Some, None, is_some, if◌then◌else◌}
use Rattle.mdl_calls.specs.Words as calls
use Rattle.mdl_shared.specs.FirstWords.{AlreadyWaiting, BadMode, CounterFull, DoesQuietly, Done, Fast, FindsObtrusive, Gain, GrantsAtLast, HasRoom, Joins, KeepsLists, KeepsRoom, Lists, Lose, Misses, Mode, NoPlace, OutOfMemory, Release, ReleasesFast, SessionTicket, SessionView, SpaceError, StaysSame, Try_now, but_owing, data_of, has_pin, increment_at, lists_seen, most_fast, most_numbers, numbered, own_at}
use Rattle.mdl_shared.specs.declared.try_fast.Fast.TheVariants.{Granted, Obtruded, Contended, Limit}

-- why a fast ticket isn't even tried for, the first cause first: the session doesn't pin the place, it waits, the word of the place doesn't count the mode,
-- or it has no number left
abbrev pub fast_fault : ℕ → Mode → List ℕ → Lists → Option SpaceError
fast_fault place mode pins l =
    if not (has_pin place pins) then Some NoPlace
    else (if is_some l.asks then Some AlreadyWaiting
    else (if not (is_some (increment_at place mode l.known)) then Some BadMode else (if nat_le most_numbers l.next then Some CounterFull else None)))

-- the session has fewer fast tickets at a place than it may have
abbrev pub HasFewerFast : ℕ → SessionView → Type 0
HasFewerFast place s = length (own_at place s.me.0.fast) < most_fast

-- the session got no fast ticket at a place, though it may have more there. It has what it had, and its steps did no deeds
abbrev pub GetsNothing : ℕ → SessionView → SessionView → Type 0
GetsNothing place a b = HasFewerFast place a × KeepsLists a b × DoesQuietly place [] a b

-- what a try for a fast ticket did, by its answer: a ticket was granted, or the flag OBTRUSIVE was found up, or eight fast grants missed, or the session
-- has as many fast tickets there as it may have, and made no step
abbrev pub HasTriedFast : ℕ → Mode → Fast → SessionView → SessionView → Type 0
HasTriedFast place mode (Granted id) a b =
    HasFewerFast place a
    × Joins (data_of a) (Try_now a.me.0.number place mode) (calls.Granted id) (data_of b)
    × DoesQuietly place (Gain id mode ∷ []) a b
    × GrantsAtLast place (Gain id mode) a.me b.me
    × (is_some (numbered id b.me.0.fast) ≡ true)
    × KeepsRoom 1 a.room b.room
HasTriedFast place mode (Obtruded word) a b = GetsNothing place a b × FindsObtrusive place word.0 a.me b.me
HasTriedFast place mode (Contended word) a b = GetsNothing place a b × Misses place 8 word.0 a.me b.me
HasTriedFast place mode Limit a b = StaysSame a b × (most_fast ≤ length (own_at place a.me.0.fast))

-- why a try for a fast ticket was refused: by the session's pins and own lists, or because they had no room for the ticket and memory ran out. No step was made
abbrev pub RefusesFast : ℕ → Mode → SpaceError → SessionView → SessionView → Type 0
RefusesFast place mode why a b =
    StaysSame a b
    × ((fast_fault place mode a.pins (lists_seen a.me.0) ≡ Some why)
    ⊎ ((fast_fault place mode a.pins (lists_seen a.me.0) ≡ None) × (why ≡ OutOfMemory) × (HasRoom place a.room → ⊥)))

-- the fast ticket with this number was released by one step. The session owes its place a reschedule, too, if the word that the step found had the flag
-- SLOW up, and nothing else that it didn't owe before
abbrev pub GaveUpFast : ℕ → Bool → SessionView → SessionView → Type 0
GaveUpFast id owes a b =
    Joins (data_of a) (Release a.me.0.number id) Done (data_of b)
    × ((t : SessionTicket) × (numbered id a.me.0.fast ≡ Some t) × DoesQuietly t.place (Lose id ∷ []) a (but_owing a b) × ReleasesFast t.place id owes a.me b.me)
    × (a.room.spare < b.room.spare) × (a.room.reach ≤ b.room.reach)
