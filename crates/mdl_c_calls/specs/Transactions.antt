-- What a call from C does to the context of a session, and the code that it returns. The calls of contexts are those of `mdl_context`. That a session
-- has a context or makes direct calls by the numbers of its tickets, and never both, is this project's own choice.
use Rattle.std.specs.Prelude.{◌≡◌, ◌⊎◌, ℕ, ◌-◌, Bool, not, ◌&&◌, ◌==◌, List, [], length, map, slice_set, Option, Some, None, is_some, MatchOption, Result, Ok, if◌then◌else◌}
use Rattle.std.specs.List.{range_with_len}
use Rattle.std.specs.Option.{option_or}
use Rattle.mdl_key.specs.declared.mode.Duration.{Duration}
use Rattle.mdl_key.specs.declared.mode.Duration.TheVariants.{Explicit}
use Rattle.mdl_key.specs.declared.mode.Mode.{Mode}
use Rattle.mdl_key.specs.Keys.{KeyName}
use Rattle.mdl_calls.specs.Words.{SessionLocks, Program, Give, ◌>>=◌, Runs}
use Rattle.mdl_core.specs.Words.{Core, locks_at}
use Rattle.mdl_space.specs.CoreMembers.{core_space}
use Rattle.mdl_context.specs.declared.context_error.ContextError.{ContextError}
use Rattle.mdl_context.specs.declared.kept.Wanted.{Wanted}
use Rattle.mdl_context.specs.declared.request.Mark.{Mark}
use Rattle.mdl_context.specs.Contexts.{ContextView, current_mark, holds_as_strong}
use Rattle.mdl_context.specs.Holdings.{kept_for, transactional, with_duration}
use Rattle.mdl_context.specs.Releases.{ending_explicit, ending_statement, ending_transaction, giving_up_all, release_fault, releasing, rolling_back, unless, waiting_fault}
use Rattle.mdl_context.specs.Requests.{Outcome}
use Rattle.mdl_context.specs.Tidying.{unpinning_all}
use Rattle.mdl_context.specs.Upgrades.{downgrading}
use Rattle.mdl_context.specs.Waits.{giving_up_wait}
use Rattle.mdl_context.specs.Wishes.{Wish}
use Rattle.mdl_c_parts.specs.Codes.{closed, duration_at, mode_at, namespace_at, no_duration, no_memory, no_mode}
use Rattle.mdl_c_parts.specs.Names.{Given, NamedIn}
use Rattle.mdl_c_calls.specs.ContextCodes.{unserved_code}
use Rattle.mdl_c_calls.specs.Exports.{Replies, Tells}
use Rattle.mdl_c_calls.specs.Managers.{Managed, context_fault, direct_fault, seat_of}
use Rattle.mdl_c_calls.specs.declared.seat.Seat.{Seat}
use Rattle.mdl_c_calls.specs.declared.seat.Seat.TheVariants.{Direct, Kept}
use Rattle.mdl_c_calls.specs.declared.ticket_change.TicketChange.{TicketChange}
use Rattle.mdl_c_calls.specs.declared.ticket_change.TicketChange.TheVariants as change
use Rattle.mdl_c_calls.specs.declared.unserved.Unserved.{Unserved}
use Rattle.mdl_c_calls.specs.declared.unserved.Unserved.TheVariants.{InUse}

-- the manager with another seat for a session
abbrev pub with_seat : ℕ → Seat → Managed → Managed
with_seat who seat manager = record manager { seats = slice_set manager.seats (who - 1) seat }

-- ---- calls of contexts that make no call of the space

-- the ticket of a number is kept for this duration from now on
abbrev pub changing_duration : ℕ → Duration → ContextView → Program (Outcome (Unit {0}))
changing_duration id duration context =
    unless (release_fault id context) context (Give (Ok tt, record context { kept = with_duration id duration context.kept }))

-- all tickets become explicit: they are kept until they are released
abbrev pub making_explicit : ContextView → Program (Outcome (Unit {0}))
making_explicit context =
    unless (waiting_fault context) context (Give (Ok tt, record context { kept = map (kept_for Explicit) context.kept }))

-- the explicit tickets, except those of user-level locks, are kept until the transaction ends
abbrev pub making_transactional : ContextView → Program (Outcome (Unit {0}))
making_transactional context = unless (waiting_fault context) context (Give (Ok tt, record context { kept = map (transactional context.known) context.kept }))

-- ---- changes of the tickets that a context keeps

-- what the context does for each of them
abbrev pub changing_tickets : TicketChange → ContextView → Program (Outcome (Unit {0}))
changing_tickets (change.Release id) = releasing id
changing_tickets (change.Downgrade id mode) = downgrading id mode
changing_tickets (change.SetDuration id duration) = changing_duration id duration
changing_tickets (change.RollBackTo mark) = rolling_back mark
changing_tickets change.EndStatement = ending_statement
changing_tickets change.EndTransaction = ending_transaction
changing_tickets change.ReleaseExplicit = ending_explicit
changing_tickets change.MakeExplicit = making_explicit
changing_tickets change.MakeTransactional = making_transactional

-- ---- the call of a session's context

-- the session's context runs this program over the space, and nothing else changes
abbrev pub RunsFor : {A : Type 0} → ℕ → (ContextView → Program (Outcome A)) → Result A ContextError → Managed → Managed → Type 0
RunsFor who program result before after =
    (context : ContextView) × (next : ContextView) × (space : Core) × (seat_of who before ≡ Some (Kept context))
    × Runs core_space.joins before.space (program context) (result, next) space
    × (after ≡ with_seat who (Kept next) (record before { space = space }))

-- the context returns a mark of its tickets, and nothing changes
abbrev pub Marks : ℕ → Mark → Managed → Managed → Type 0
Marks who mark before after = (context : ContextView) × (seat_of who before ≡ Some (Kept context)) × (mark ≡ current_mark context.kept) × (after ≡ before)

-- the context tells whether it keeps a ticket of a key in a mode at least as strong, and nothing changes
abbrev pub TellsKept : ℕ → KeyName → Mode → Bool → Managed → Managed → Type 0
TellsKept who key mode is_kept before after =
    (context : ContextView) × (seat_of who before ≡ Some (Kept context)) × (is_kept ≡ holds_as_strong key mode context) × (after ≡ before)

-- a call of a session's context, or its refusal if the session has none
abbrev pub ServesContext : {A : Type 0} → ℕ → (ContextView → Program (Outcome A)) → (Result A ContextError → ℕ) → Option Managed → ℕ → Option Managed
    → (Option (Result A ContextError) → Type 0) → Type 0
ServesContext who program code_for before code after beside = Replies context_fault who (RunsFor who program) code_for beside before code after

-- the call writes what it reports over what was there before
abbrev pub Reports : {R T : Type 0} → (Option R → T → T) → T → T → Option R → Type 0
Reports told old new answer = new ≡ told answer old

-- the call writes nothing
abbrev pub Untold : {R : Type 0} → Option R → Type 0
Untold answer = Unit {0}

-- ---- wishes

-- `Done` holds of the wish (a request) with these numbers of mode and duration, and this number and names of the key, or `Refused` of a code
abbrev pub MakesWish : ℕ → List ℕ → List ℕ → ℕ → ℕ → (Wish → Type 0) → (ℕ → Type 0) → Type 0
MakesWish namespace schema table mode duration Done Refused =
    Given no_mode (mode_at mode) (λ mode. Given no_duration (duration_at duration) (λ duration.
    NamedIn (namespace_at namespace) schema table (λ key. Done (record { key = key; mode = mode; duration = duration })) Refused) Refused) Refused

-- ---- the begin and end of a session's context

-- the context of a session that has nothing
abbrev pub new_context : ℕ → ContextView
new_context who = record { who = who; kept = []; known = []; wait = None }

-- whether a session holds no ticket, has no wait and pins no place
abbrev pub has_nothing : SessionLocks → Bool
has_nothing own = length own.held == 0 && not (is_some own.wait) && length own.pins == 0

-- why a context can't begin: there is no such session, it has a context, or it holds a ticket, has a wait or pins a place
abbrev pub begin_fault : ℕ → Managed → Option Unserved
begin_fault who manager =
    option_or (direct_fault (seat_of who manager)) (if has_nothing (locks_at manager.space who) then None else Some InUse)

-- a context begins for a session. Listing what the session holds may run out of memory
abbrev pub Begins : ℕ → Option Managed → ℕ → Option Managed → Type 0
Begins who None code after = Tells closed None code after
Begins who (Some manager) code after =
    MatchOption (begin_fault who manager) ((code ≡ 0) × (after ≡ Some (with_seat who (Kept (new_context who)) manager)))
    (λ (why : Unserved). Tells (unserved_code why) (Some manager) code after)
    ⊎ ((direct_fault (seat_of who manager) ≡ None) × Tells no_memory (Some manager) code after)

-- a context gives up this wait, if there is one, and then releases all tickets
abbrev pub ending_from : Option Wanted → ContextView → Program (Outcome (Unit {0}))
ending_from None context = giving_up_all context
ending_from (Some wanted) context = giving_up_wait context >>= (λ outcome. giving_up_all outcome.1)

-- a session gives up the pins of all places that have a key, until it pins none
abbrev pub UnpinsAll : ℕ → Core → Core → Type 0
UnpinsAll who before after =
    Runs core_space.joins before (unpinning_all who (range_with_len 1 (length before.books))) tt after × ((locks_at after who).pins ≡ [])

-- a session's context gives up its wait and releases its tickets, the session gives up the pins that are left, and it has no context any more
abbrev pub EndsContext : ℕ → Unit {0} → Managed → Managed → Type 0
EndsContext who done before after =
    (context : ContextView) × (next : ContextView) × (space : Core) × (seat_of who before ≡ Some (Kept context))
    × Runs core_space.joins before.space (ending_from context.wait context) (Ok tt, next) space
    × (next.kept ≡ []) × (next.wait ≡ None)
    × ((rest : Core) × UnpinsAll who space rest × (after ≡ with_seat who Direct (record before { space = rest })))

abbrev pub Ends : ℕ → Option Managed → ℕ → Option Managed → Type 0
Ends who before code after = Replies context_fault who (EndsContext who) (λ _. 0) Untold before code after
