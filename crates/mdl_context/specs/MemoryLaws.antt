-- What happens to the calls of a context if memory runs out. A request for a lock then reports that and nothing else, and so do an upgrade
-- and a wait that goes on. Calls that release or weaken tickets, or give up a wait, take no memory, unless the wait is for an upgrade. So
-- over the space of one thread each answer other than out of memory is the one that the definitions name.
use Rattle.std.specs.Prelude.{◌≡◌, ℕ, true, false, List, Some, None, Err}
use Rattle.mdl_key.specs.declared.mode.Mode.{Mode}
use Rattle.mdl_key.specs.Keys.{KeyName}
use Rattle.mdl_calls.specs.declared.space_error.SpaceError.TheVariants.{OutOfMemory}
use Rattle.mdl_calls.specs.Words.{Call, caller, EachCall, IsFaithful, IsFrugal, Program, Runs, outcome_of, reads_with_cache}
use Rattle.mdl_core.specs.CoreCalls.{outcome}
use Rattle.mdl_core.specs.CoreJoins.{Joins}
use Rattle.mdl_core.specs.Cores.{Core}
use Rattle.mdl_context.specs.declared.context_error.ContextError.TheVariants.{Space}
use Rattle.mdl_context.specs.declared.kept.Kept.{Kept}
use Rattle.mdl_context.specs.declared.request.Mark.{Mark}
use Rattle.mdl_context.specs.Wishes.{Wish}
use Rattle.mdl_context.specs.Contexts.{ContextView}
use Rattle.mdl_context.specs.Holdings.{awaited_upgrade}
use Rattle.mdl_context.specs.Releases.{releasing_tickets, releasing, releasing_name, rolling_back, ending_statement, ending_transaction, ending_explicit}
use Rattle.mdl_context.specs.Requests.{Outcome, acquiring, trying}
use Rattle.mdl_context.specs.Upgrades.{upgrading, downgrading}
use Rattle.mdl_context.specs.Waits.{is_searched, resuming, giving_up_wait}

-- a call of a context was refused because memory ran out
abbrev pub IsStarved : {A : Type 0} → Outcome A → Type 0
IsStarved outcome = outcome.0 ≡ Err (Space OutOfMemory)

-- a property holds of each program by which a context gives up its wait (unless the wait is for an upgrade, since a merge may follow
-- then), releases tickets, whether it may be refused or not, or weakens one
abbrev pub EachEnding : ((A : Type 0) → Program A → Type 0) → ContextView → Type 0
EachEnding P context =
    (awaited_upgrade context.wait ≡ None → P _ (giving_up_wait context))
    × ((id : ℕ) → P _ (releasing id context))
    × ((key : KeyName) → P _ (releasing_name key context))
    × ((mark : Mark) → P _ (rolling_back mark context))
    × P _ (ending_statement context)
    × P _ (ending_transaction context)
    × P _ (ending_explicit context)
    × ((gone : List Kept) → P _ (releasing_tickets gone context))
    × ((id : ℕ) (mode : Mode) → P _ (downgrading id mode context))

-- a request for a lock that runs out of memory reports that, whether it waits or not
abbrev pub WishesTellOfWant : Type 0
WishesTellOfWant =
    (request : Wish) (context : ContextView) → IsFaithful IsStarved (acquiring request context) × IsFaithful IsStarved (trying request context)

-- an upgrade that runs out of memory reports that
abbrev pub UpgradesTellOfWant : Type 0
UpgradesTellOfWant = (id : ℕ) (mode : Mode) (context : ContextView) → IsFaithful IsStarved (upgrading id mode context)

-- a wait that goes on or is given up and runs out of memory reports that. To go on takes no memory if its searches for deadlocks are over
-- and it isn't for an upgrade
abbrev pub WaitsTellOfWant : Type 0
WaitsTellOfWant =
    (context : ContextView) →
    IsFaithful IsStarved (resuming context) × IsFaithful IsStarved (giving_up_wait context)
    × (is_searched context.wait ≡ Some true → awaited_upgrade context.wait ≡ None → IsFrugal (resuming context))

-- giving up a wait that isn't for an upgrade, releasing tickets and weakening them take no memory
abbrev pub EndingsTakeNoMemory : Type 0
EndingsTakeNoMemory = (context : ContextView) → EachEnding (λ A program. IsFrugal program) context

-- a call is made for this session, and doesn't read with the session's cache
abbrev pub IsOwnCall : ℕ → Call → Type 0
IsOwnCall who call = (caller call ≡ Some who) × (reads_with_cache call ≡ false)

-- all calls of a context are such calls, for its session
abbrev pub ContextsCallForTheirSession : Type 0
ContextsCallForTheirSession =
    (context : ContextView) →
    ((request : Wish) → EachCall (IsOwnCall context.who) (acquiring request context) × EachCall (IsOwnCall context.who) (trying request context))
    × ((id : ℕ) (mode : Mode) → EachCall (IsOwnCall context.who) (upgrading id mode context))
    × EachCall (IsOwnCall context.who) (resuming context)
    × EachCall (IsOwnCall context.who) (giving_up_wait context)
    × EachEnding (λ A program. EachCall (IsOwnCall context.who) program) context

-- over the space of one thread each run of a program is its outcome: its reply, and the space after it
abbrev pub IsSure : {A : Type 0} → Program A → Type 0
IsSure {A} program =
    (a b : Core) (reply : A) → Runs Joins a program reply b → outcome_of outcome program a ≡ (reply, b)

-- over the space of one thread each run of a program is its outcome, unless its reply is such a fault
abbrev pub IsSureUnless : {A : Type 0} → (A → Type 0) → Program A → Type 0
IsSureUnless {A} IsFault program =
    (a b : Core) (reply : A) → Runs Joins a program reply b → (IsFault reply → ⊥) → outcome_of outcome program a ≡ (reply, b)

-- the answer to a request for a lock, the context and the space after it are the outcome, unless memory ran out
abbrev pub SureWishes : Type 0
SureWishes =
    (request : Wish) (context : ContextView) → IsSureUnless IsStarved (acquiring request context) × IsSureUnless IsStarved (trying request context)

-- the same for an upgrade
abbrev pub SureUpgrades : Type 0
SureUpgrades = (id : ℕ) (mode : Mode) (context : ContextView) → IsSureUnless IsStarved (upgrading id mode context)

-- the same for a wait that goes on or is given up
abbrev pub SureWaits : Type 0
SureWaits = (context : ContextView) → IsSureUnless IsStarved (resuming context) × IsSureUnless IsStarved (giving_up_wait context)

-- giving up a wait that isn't for an upgrade, releasing tickets and weakening them always have that outcome
abbrev pub SureEndings : Type 0
SureEndings = (context : ContextView) → EachEnding (λ A program. IsSure program) context
