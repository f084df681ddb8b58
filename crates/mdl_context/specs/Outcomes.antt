-- What an upgrade and a wait result in, whatever the lock space answers, after MySQL 5.7: `MDL_context::upgrade_shared_lock` and
-- `MDL_context::acquire_lock` of sql/mdl.cc.
use Rattle.std.specs.Prelude.{◌≡◌, ℕ, Bool, true, Option, Some, None, Ok, Err}
use Rattle.mdl_key.specs.declared.mode.Mode.{Mode}
use Rattle.mdl_calls.specs.Words.{Each}
use Rattle.mdl_system.specs.Strength.{covers}
use Rattle.mdl_context.specs.declared.kept.Kept.{Kept}
use Rattle.mdl_context.specs.declared.request.Acquire.{Acquire}
use Rattle.mdl_context.specs.declared.request.Acquire.TheVariants.{Acquired, MustWait}
use Rattle.mdl_context.specs.declared.request.Resume.{Resume}
use Rattle.mdl_context.specs.declared.request.Resume.TheVariants as resume_as
use Rattle.mdl_context.specs.Contexts.{ContextView, ticket_kept}
use Rattle.mdl_context.specs.Holdings.{awaited_upgrade}
use Rattle.mdl_context.specs.Requests.{Outcome}
use Rattle.mdl_context.specs.Upgrades.{with_ticket_mode, awaiting_upgrade, upgrading}
use Rattle.mdl_context.specs.Tidying.{tidied}
use Rattle.mdl_context.specs.Waits.{HasLostWait, without_wait, taking_up, resuming, giving_up_wait}

-- one ticket has a mode at least as strong as this one, and nothing else changed: it keeps its number and its duration
abbrev pub IsRaised : ℕ → Mode → ContextView → ContextView → Type 0
IsRaised id mode before after =
    (change : Mode → Mode) × ((held : Mode) → covers (change held) mode ≡ true) × (after ≡ with_ticket_mode id change before)

-- the result of an upgrade: the ticket is as strong as the request asks, or the session waits for that, and nothing else changed, or the
-- upgrade is refused, and nothing changed at all
abbrev pub UpgradeComesTo : ℕ → Mode → ContextView → Outcome Acquire → Type 0
UpgradeComesTo id mode before (Ok (Acquired told), after) = (told ≡ id) × IsRaised id mode before after
UpgradeComesTo id mode before (Ok (MustWait number), after) =
    (ticket : Kept) × (searched : Bool) × (ticket_kept id before.kept ≡ Some ticket) × (after ≡ awaiting_upgrade ticket mode searched before)
UpgradeComesTo id mode before (Err error, after) = after ≡ before

-- a granted wait: the ticket that was waited for is kept, or the ticket to upgrade has the mode that was waited for, and nothing else
-- changed
abbrev pub IsWon : Option (ℕ × Mode) → ℕ → ContextView → ContextView → Type 0
IsWon None told before after = after ≡ taking_up told before
IsWon (Some (id, mode)) told before after = (told ≡ id) × (after ≡ with_ticket_mode id (λ _. mode) (without_wait before))

-- the result of a wait: while it isn't settled, and if it is lost or fails, all tickets and their durations are unchanged. A context that lost
-- its wait lets go of the places where it has nothing. If the wait is granted, `IsWon` says what changed
abbrev pub WaitComesTo : ContextView → Outcome Resume → Type 0
WaitComesTo before (Ok resume_as.Waiting, after) = without_wait after ≡ without_wait before
WaitComesTo before (Ok (resume_as.Acquired told), after) = IsWon (awaited_upgrade before.wait) told before after
WaitComesTo before (Ok (resume_as.Lost how), after) = after ≡ tidied (without_wait before)
WaitComesTo before (Err error, after) = HasLostWait before (without_wait after)

-- each upgrade has such a result
abbrev pub UpgradesAreMet : Type 0
UpgradesAreMet = (id : ℕ) (mode : Mode) (context : ContextView) → Each (UpgradeComesTo id mode context) (upgrading id mode context)

-- each wait has such a result, whether the session goes on with it or gives it up
abbrev pub WaitsAreMet : Type 0
WaitsAreMet =
    (context : ContextView) → Each (WaitComesTo context) (resuming context) × Each (WaitComesTo context) (giving_up_wait context)
