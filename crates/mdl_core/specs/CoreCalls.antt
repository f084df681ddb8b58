-- What each call of the lock space of one thread answers, and what it does to the space.
use Rattle.std.specs.Prelude.{◌≡◌, ℕ, ◌+◌, ◌-◌, ◌^◌, ◌⊎◌, Bool, true, false, not, ◌&&◌, ◌||◌, ◌==◌, nat_le, List, [], ◌∷◌, length, find, Option, Some, None, is_some, if◌then◌else◌}
use Rattle.std.specs.List.{list_any}
use Rattle.std.specs.Option.{option_map}
use Rattle.mdl_key.specs.declared.mode.Mode.{Mode}
use Rattle.mdl_key.specs.declared.mode.Mode.TheVariants.{X}
use Rattle.mdl_key.specs.Words.{KeyName, is_mode_of, same_mode}
use Rattle.mdl_defs.specs.declared.change.Change.{Change}
use Rattle.mdl_defs.specs.declared.change_error.ChangeError.{ChangeError}
use Rattle.mdl_defs.specs.VersionedDefinitions.{standing_fault}
use Rattle.mdl_book.specs.Books.{lock_kind, ticket_count}
use Rattle.mdl_book.specs.declared.book_error.BookError.{BookError}
use Rattle.mdl_book.specs.declared.book_error.BookError.TheVariants as book_error
use Rattle.mdl_graph.specs.Graphs.{victim_in}
use Rattle.mdl_calls.specs.declared.space_error.SpaceError.{SpaceError}
use Rattle.mdl_calls.specs.declared.space_error.SpaceError.TheVariants.{NoPlace, NotHeld, NotUpgradable, NotExclusive, AlreadyWaiting, BadMode, InUse, NoWait, Unsettled, CounterFull, Full, OutOfMemory}
use Rattle.mdl_calls.specs.declared.answers.Held.{Held}
use Rattle.mdl_calls.specs.declared.answers.Settled.{Settled}
use Rattle.mdl_calls.specs.declared.answers.Settled.TheVariants as settled_as
use Rattle.mdl_calls.specs.declared.answers.TimedOut.TheVariants.{ByThisCall, Already}
use Rattle.mdl_core.specs.declared.pending.Pending.{Pending}
use Rattle.mdl_calls.specs.Words.{Answer, Refused, Done, At_place, Granted, Would_wait, Waits, No_cycle, Victim_is, Pending as Is_pending, Is_settled, Timed_out, Lost, Has_wait, Has_killed, Holds, Reads, Changed, Key_is, Tables, Upgraded, Call, Resolve, Try_now, Begin_wait, Search, Poll_wait, Settle_timeout, End_wait, Wait_of, Kill, Release, Clone_ticket, Upgrade_now, Merge, Downgrade, Read_definition, Read_kept, Change_definition, Key_of, Tables_of, List_held, Unpin, is_number, may_merge, cause_of}
use Rattle.mdl_core.specs.Cores.{Core, book_at, seat_at, key_at, standing_at, has_key, has_pin, has_session, index_of, is_free_for, pinning, placing_at, table_places, unpinning, unused_place}
use Rattle.mdl_core.specs.Changes.{opening, granting_to, queueing, losing, ending_granted, ending_lost, freeing, altering, folding, redefining_at, serving}
use Rattle.mdl_core.specs.Seats.{is_unsettled_wait, is_settled_wait}
use Rattle.mdl_system.specs.Strength.{covers, may_upgrade, may_downgrade}

-- the error of the first of these causes that holds, if one does
abbrev pub first_cause : List (Bool × SpaceError) → Option SpaceError
first_cause [] = None
first_cause (cause ∷ causes) = if cause.0 then Some cause.1 else first_cause causes

-- a refusal that leaves the space unchanged, if there is a cause, and otherwise this outcome
abbrev pub refused_or : Option SpaceError → Core → Answer × Core → Answer × Core
refused_or (Some refusal) core outcome = (Refused refusal, core)
refused_or None core outcome = outcome

-- the error of a space for a book that can't take a ticket: it is full, or otherwise memory ran out
abbrev pub cause_in : BookError → SpaceError
cause_in book_error.Full = Full
cause_in _ = OutOfMemory

-- whether a session has used up the numbers of its tickets
abbrev pub is_counted_out : ℕ → Core → Bool
is_counted_out who core = nat_le (2 ^ 60 - 1) (seat_at who core).last_ticket

-- whether the book of a place takes no more tickets
abbrev pub is_full : ℕ → Core → Bool
is_full place core = nat_le 65535 (ticket_count (book_at place core))

-- ---- places

-- the outcome of giving a key a place that isn't in use, if there is one: the place loses its old key, and the session pins it
abbrev pub replacing : ℕ → KeyName → Option ℕ → Core → Answer × Core
replacing who key None core = (Refused NoPlace, core)
replacing who key (Some place) core = (At_place place, pinning who place (placing_at place key core))

-- the outcome for a key whose book has this index, or that has none. It then gets the next place, as long as places without a key are left, and
-- after that the least one that isn't in use. The session pins the place.
abbrev pub placing : ℕ → KeyName → Option ℕ → Core → Answer × Core
placing who key (Some index) core = (At_place (index + 1), pinning who (index + 1) core)
placing who key None core =
    if nat_le core.places (length core.books) then replacing who key (unused_place core) core
    else (At_place (length core.books + 1), pinning who (length core.books + 1) (opening key core))

-- the outcome of resolving a key: the session pins the place that it has, or gets
abbrev pub resolve_outcome : ℕ → KeyName → Core → Answer × Core
resolve_outcome who key core = placing who key (index_of key core.books) core

-- whether there is a wait, and it is at this place. It may be settled.
abbrev pub is_wait_at : ℕ → Option Pending → Bool
is_wait_at place None = false
is_wait_at place (Some wait) = wait.place == place

-- whether a session has a ticket or a wait at a place
abbrev pub is_needed : ℕ → ℕ → Core → Bool
is_needed who place core =
    list_any (λ (ticket : Held). ticket.place == place) (seat_at who core).held || is_wait_at place (seat_at who core).wait

-- why the end of a pin is refused, in the order in which the causes count
abbrev pub unpin_causes : ℕ → ℕ → Core → List (Bool × SpaceError)
unpin_causes who place core = (not (has_pin who place core), NoPlace) ∷ (is_needed who place core, InUse) ∷ []

-- the outcome of giving up a pin: only the session's pins change, and no waiter is granted
abbrev pub unpin_outcome : ℕ → ℕ → Core → Answer × Core
unpin_outcome who place core = refused_or (first_cause (unpin_causes who place core)) core (Done, unpinning who place core)

-- the outcome of asking for the key of a place
abbrev pub key_of_outcome : ℕ → Core → Answer × Core
key_of_outcome place core = if not (has_key place core) then (Refused NoPlace, core) else (Key_is (key_at place core), core)

-- the outcome of listing the tables of a schema
abbrev pub tables_of_outcome : List ℕ → Core → Answer × Core
tables_of_outcome schema core = (Tables (table_places schema core), core)

-- ---- locks

-- why a request for a lock is refused, in the order in which the causes count
abbrev pub request_causes : ℕ → ℕ → Mode → Core → List (Bool × SpaceError)
request_causes who place mode core =
    (not (has_pin who place core), NoPlace)
    ∷ (is_some (seat_at who core).wait, AlreadyWaiting)
    ∷ (not (is_mode_of (lock_kind (book_at place core)) mode), BadMode)
    ∷ (is_counted_out who core, CounterFull)
    ∷ []

-- the outcome of granting a lock, if the book takes one more ticket
abbrev pub granted_unless_full : ℕ → ℕ → Mode → Core → Answer × Core
granted_unless_full who place mode core =
    if is_full place core then (Refused Full, core) else (Granted ((seat_at who core).last_ticket + 1), granting_to who place mode core)

-- the outcome of beginning a wait, if the book takes one more ticket
abbrev pub queued_unless_full : ℕ → ℕ → Mode → Core → Answer × Core
queued_unless_full who place mode core =
    if is_full place core then (Refused Full, core) else (Waits ((seat_at who core).last_wait + 1), queueing who place mode core)

-- the outcome of a request for a lock without waiting
abbrev pub try_now_outcome : ℕ → ℕ → Mode → Core → Answer × Core
try_now_outcome who place mode core =
    refused_or (first_cause (request_causes who place mode core)) core
    (if not (is_free_for who place mode core) then (Would_wait, core) else granted_unless_full who place mode core)

-- the outcome of a request for a lock that waits if it can't be granted
abbrev pub begin_wait_outcome : ℕ → ℕ → Mode → Core → Answer × Core
begin_wait_outcome who place mode core =
    refused_or (first_cause (request_causes who place mode core)) core
    (if not (is_free_for who place mode core) then queued_unless_full who place mode core else granted_unless_full who place mode core)

-- why cloning a held ticket is refused, in the order in which the causes count
abbrev pub clone_causes : ℕ → Mode → Held → Core → List (Bool × SpaceError)
clone_causes who mode ticket core =
    (is_some (seat_at who core).wait, AlreadyWaiting)
    ∷ (not (covers ticket.mode mode && is_mode_of (lock_kind (book_at ticket.place core)) mode), BadMode)
    ∷ (is_counted_out who core, CounterFull)
    ∷ []

-- the outcome of cloning this ticket, if it is held
abbrev pub cloning_of : ℕ → Mode → Option Held → Core → Answer × Core
cloning_of who mode None core = (Refused NotHeld, core)
cloning_of who mode (Some ticket) core =
    refused_or (first_cause (clone_causes who mode ticket core)) core (granted_unless_full who ticket.place mode core)

-- the ticket of a number that a session holds, if there is one
abbrev pub held_ticket : ℕ → ℕ → Core → Option Held
held_ticket who id core = find (is_number id) (seat_at who core).held

-- the outcome of cloning the ticket of a number
abbrev pub clone_ticket_outcome : ℕ → ℕ → Mode → Core → Answer × Core
clone_ticket_outcome who id mode core = cloning_of who mode (held_ticket who id core) core

-- the outcome of releasing this ticket, if it is held: then waiters of its place are granted
abbrev pub releasing_of : ℕ → Option Held → Core → Answer × Core
releasing_of who None core = (Refused NotHeld, core)
releasing_of who (Some ticket) core = (Done, serving ticket.place (freeing who ticket core))

-- the outcome of releasing the ticket of a number
abbrev pub release_outcome : ℕ → ℕ → Core → Answer × Core
release_outcome who id core = releasing_of who (held_ticket who id core) core

-- ---- modes of held tickets

-- why an upgrade of a held ticket is refused, in the order in which the causes count
abbrev pub upgrade_causes : ℕ → Mode → Held → Core → List (Bool × SpaceError)
upgrade_causes who mode ticket core =
    (not ((covers ticket.mode mode || may_upgrade ticket.mode mode) && is_mode_of (lock_kind (book_at ticket.place core)) mode), NotUpgradable)
    ∷ (is_some (seat_at who core).wait, AlreadyWaiting)
    ∷ []

-- the outcome of giving a held ticket a stronger mode, if that can be granted now. A ticket that is as strong already is unchanged.
abbrev pub upgraded_if_free : ℕ → Mode → Held → Core → Answer × Core
upgraded_if_free who mode ticket core =
    if covers ticket.mode mode then (Upgraded, core)
    else (if not (is_free_for who ticket.place mode core) then (Would_wait, core) else (Upgraded, altering who ticket mode core))

-- the outcome of upgrading this ticket, if it is held
abbrev pub upgrading_of : ℕ → Mode → Option Held → Core → Answer × Core
upgrading_of who mode None core = (Refused NotHeld, core)
upgrading_of who mode (Some ticket) core =
    refused_or (first_cause (upgrade_causes who mode ticket core)) core (upgraded_if_free who mode ticket core)

-- the outcome of upgrading the ticket of a number
abbrev pub upgrade_now_outcome : ℕ → ℕ → Mode → Core → Answer × Core
upgrade_now_outcome who id mode core = upgrading_of who mode (held_ticket who id core) core

-- whether a held ticket may be downgraded to a mode, which is one of the place's kind
abbrev pub is_lower : Mode → Held → Core → Bool
is_lower mode ticket core = may_downgrade ticket.mode mode && is_mode_of (lock_kind (book_at ticket.place core)) mode

-- the outcome of downgrading this ticket, if it is held: then waiters of its place are granted
abbrev pub downgrading_of : ℕ → Mode → Option Held → Core → Answer × Core
downgrading_of who mode None core = (Refused NotHeld, core)
downgrading_of who mode (Some ticket) core =
    if not (is_lower mode ticket core) then (Refused NotUpgradable, core) else (Done, serving ticket.place (altering who ticket mode core))

-- the outcome of downgrading the ticket of a number
abbrev pub downgrade_outcome : ℕ → ℕ → Mode → Core → Answer × Core
downgrade_outcome who id mode core = downgrading_of who mode (held_ticket who id core) core

-- why a merge of two held tickets is refused, in the order in which the causes count
abbrev pub merge_causes : ℕ → Held → Held → Core → List (Bool × SpaceError)
merge_causes who old new core = (is_some (seat_at who core).wait, AlreadyWaiting) ∷ (not (may_merge old new), BadMode) ∷ []

-- the outcome of merging two tickets, if both are held: the first takes the mode of the second, which is removed, and then waiters of
-- their place are granted
abbrev pub merging_of : ℕ → Option Held → Option Held → Core → Answer × Core
merging_of who (Some old) (Some new) core =
    refused_or (first_cause (merge_causes who old new core)) core (Done, serving old.place (folding who old new core))
merging_of who _ _ core = (Refused NotHeld, core)

-- the outcome of merging the tickets of two numbers
abbrev pub merge_outcome : ℕ → ℕ → ℕ → Core → Answer × Core
merge_outcome who old new core = merging_of who (held_ticket who old core) (held_ticket who new core) core

-- ---- waits

-- the answer to polling a wait that is settled in this way, if it is settled
abbrev pub poll_answer : Option Settled → Answer
poll_answer None = Is_pending
poll_answer (Some how) = Is_settled how

-- the outcome of polling a wait, if there is one
abbrev pub polling_of : Option Pending → Core → Answer × Core
polling_of None core = (Refused NoWait, core)
polling_of (Some wait) core = (poll_answer wait.settled, core)

-- the outcome of polling a session's wait
abbrev pub poll_wait_outcome : ℕ → Core → Answer × Core
poll_wait_outcome who core = polling_of (seat_at who core).wait core

-- the outcome of timing out a session's wait that is settled in this way, if it is: it is settled as a timeout unless it was settled before
abbrev pub timing_out_at : ℕ → Option Settled → Core → Answer × Core
timing_out_at who None core = (Timed_out ByThisCall, losing who settled_as.Timeout core)
timing_out_at who (Some how) core = (Timed_out (Already how), core)

-- the outcome of timing out a session's wait, if there is one
abbrev pub timing_out_of : ℕ → Option Pending → Core → Answer × Core
timing_out_of who None core = (Refused NoWait, core)
timing_out_of who (Some wait) core = timing_out_at who wait.settled core

-- the outcome of timing out the wait that a session has
abbrev pub settle_timeout_outcome : ℕ → Core → Answer × Core
settle_timeout_outcome who core = timing_out_of who (seat_at who core).wait core

-- the outcome of ending a session's wait that is settled in this way, if it is: the session holds the ticket; or the ticket is removed from
-- the waiting ones, and then waiters of its place are granted
abbrev pub ending_at : ℕ → Pending → Option Settled → Core → Answer × Core
ending_at who wait None core = (Refused Unsettled, core)
ending_at who wait (Some settled_as.Granted) core = (Granted wait.id, ending_granted who wait core)
ending_at who wait (Some how) core = (Lost how, serving wait.place (ending_lost who wait core))

-- the outcome of ending a session's wait, if there is one
abbrev pub ending_of : ℕ → Option Pending → Core → Answer × Core
ending_of who None core = (Refused NoWait, core)
ending_of who (Some wait) core = ending_at who wait wait.settled core

-- the outcome of ending the wait that a session has
abbrev pub end_wait_outcome : ℕ → Core → Answer × Core
end_wait_outcome who core = ending_of who (seat_at who core).wait core

-- the wait of any session, if there is such a session and it has one
abbrev pub wait_at : ℕ → Core → Option Pending
wait_at target core = if has_session target core then (seat_at target core).wait else None

-- the outcome of asking for the number of any session's wait
abbrev pub wait_of_outcome : ℕ → Core → Answer × Core
wait_of_outcome target core = (Has_wait (option_map (λ (wait : Pending). wait.number) (wait_at target core)), core)

-- whether there is a wait, which is unsettled and has this number
abbrev pub is_open_wait : ℕ → Option Pending → Bool
is_open_wait number None = false
is_open_wait number (Some wait) = wait.number == number && is_unsettled_wait (Some wait)

-- the outcome of a kill: an unsettled wait of this number is settled as killed
abbrev pub kill_outcome : ℕ → ℕ → Core → Answer × Core
kill_outcome target number core =
    if is_open_wait number (wait_at target core) then (Has_killed true, losing target settled_as.Killed core) else (Has_killed false, core)

-- ---- deadlocks

-- whether a session's wait is settled
abbrev pub has_settled : Core → ℕ → Bool
has_settled core who = is_settled_wait (wait_at who core)

-- the outcome of a search that found this victim: its wait is settled as lost
abbrev pub searching_of : Option ℕ → Core → Answer × Core
searching_of None core = (No_cycle, core)
searching_of (Some victim) core = (Victim_is victim, losing victim settled_as.Victim core)

-- the victim of the deadlock that a session is part of, if it is part of one
abbrev pub victim_at : ℕ → Core → Option ℕ
victim_at who core = victim_in (has_settled core) core.books who

-- the outcome of a search for a deadlock that the session is part of
abbrev pub search_deadlock_outcome : ℕ → Core → Answer × Core
search_deadlock_outcome who core = searching_of (victim_at who core) core

-- ---- definitions

-- the outcome of reading under this ticket, if it is held
abbrev pub reading_of : Option Held → Core → Answer × Core
reading_of None core = (Refused NotHeld, core)
reading_of (Some ticket) core = (Reads (standing_at ticket.place core).version (standing_at ticket.place core).definition, core)

-- the outcome of reading under the ticket of a number
abbrev pub read_definition_outcome : ℕ → ℕ → Core → Answer × Core
read_definition_outcome who id core = reading_of (held_ticket who id core) core

-- why the definition of a place's key can't be changed so, if it can't
abbrev pub redefining_fault : ℕ → Change → Core → Option ChangeError
redefining_fault place change core = standing_fault (key_at place core).namespace change (standing_at place core)

-- the outcome of a change at a place: a refusal for this cause, if there is one, and otherwise the change to the next version
abbrev pub redefined_unless : Option ChangeError → ℕ → Change → Core → Answer × Core
redefined_unless (Some why) place change core = (Refused (cause_of why), core)
redefined_unless None place change core = (Changed ((standing_at place core).version + 1), redefining_at place change core)

-- the outcome of a change of the definition under this ticket, if it is held, and held in mode X
abbrev pub redefining_of : Option Held → Change → Core → Answer × Core
redefining_of None change core = (Refused NotHeld, core)
redefining_of (Some ticket) change core =
    if not (same_mode ticket.mode X) then (Refused NotExclusive, core)
    else redefined_unless (redefining_fault ticket.place change core) ticket.place change core

-- the outcome of a change of the definition under the ticket of a number
abbrev pub change_definition_outcome : ℕ → ℕ → Change → Core → Answer × Core
change_definition_outcome who id change core = redefining_of (held_ticket who id core) change core

-- ---- lists

-- the outcome of listing a session's held tickets
abbrev pub list_held_outcome : ℕ → Core → Answer × Core
list_held_outcome who core = (Holds (seat_at who core).held, core)

-- ---- all calls

-- the outcome of a call: its answer, and the space after it
abbrev pub outcome : Call → Core → Answer × Core
outcome (Resolve who key) core = resolve_outcome who key core
outcome (Try_now who place mode) core = try_now_outcome who place mode core
outcome (Begin_wait who place mode) core = begin_wait_outcome who place mode core
outcome (Search who) core = search_deadlock_outcome who core
outcome (Poll_wait who) core = poll_wait_outcome who core
outcome (Settle_timeout who) core = settle_timeout_outcome who core
outcome (End_wait who) core = end_wait_outcome who core
outcome (Wait_of target) core = wait_of_outcome target core
outcome (Kill target number) core = kill_outcome target number core
outcome (Release who id) core = release_outcome who id core
outcome (Clone_ticket who id mode) core = clone_ticket_outcome who id mode core
outcome (Upgrade_now who id mode) core = upgrade_now_outcome who id mode core
outcome (Merge who old new) core = merge_outcome who old new core
outcome (Downgrade who id mode) core = downgrade_outcome who id mode core
outcome (Read_definition who id) core = read_definition_outcome who id core
outcome (Read_kept who id) core = read_definition_outcome who id core
outcome (Change_definition who id change) core = change_definition_outcome who id change core
outcome (Key_of who place) core = key_of_outcome place core
outcome (Tables_of who schema) core = tables_of_outcome schema core
outcome (List_held who) core = list_held_outcome who core
outcome (Unpin who place) core = unpin_outcome who place core

-- a call with this step made the step; or, if it takes memory, it was refused because memory ran out, and changed nothing
abbrev pub Makes : Bool → (Core → Answer × Core) → Core → Answer → Core → Type 0
Makes takes_memory step before answer after =
    ((takes_memory ≡ true) × (answer ≡ Refused OutOfMemory) × (after ≡ before)) ⊎ (step before ≡ (answer, after))
