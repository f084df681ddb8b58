-- How a session changes the mode of a held ticket, after MySQL 5.7: `MDL_context::upgrade_shared_lock` and
-- `MDL_ticket::downgrade_lock` of sql/mdl.cc. That an upgrade is tried first without a second ticket, and all refusals, are this
-- project's own choice.
use Rattle.std.specs.Prelude.{◌≡◌, ℕ, Bool, true, false, [], ◌∷◌, ◌++◌, Option, Some, None, MatchOption, Result, Ok, Err, IfErr, IsOk, IsOkUnless}
use Rattle.mdl_key.specs.declared.mode.Mode.{Mode}
use Rattle.mdl_calls.specs.declared.space_error.SpaceError.{SpaceError}
use Rattle.mdl_calls.specs.declared.space_error.SpaceError.TheVariants.{OutOfMemory, Full}
use Rattle.mdl_calls.specs.SessionLocks.{SessionLocks, upgraded, giving_up}
use Rattle.mdl_calls.specs.SessionLocks as owned
use Rattle.mdl_calls.specs.Words.{Answer, Done, Upgraded, Would_wait, ticket_held, Upgrade_now, Merge, Downgrade, Release, Program, Give, Ask, Grow, ◌>>=◌}
use Rattle.mdl_calls.specs.declared.lock_space.LockSpace.{Ghosts}
use Rattle.mdl_context.specs.declared.asking.AskResult.{AskResult}
use Rattle.mdl_context.specs.declared.asking.AskResult.TheVariants as got
use Rattle.mdl_context.specs.declared.context_error.ContextError.{ContextError}
use Rattle.mdl_context.specs.declared.context_error.ContextError.TheVariants.{NotHeld, Space}
use Rattle.mdl_context.specs.declared.kept.Kept.{Kept}
use Rattle.mdl_context.specs.declared.request.Acquire.{Acquire}
use Rattle.mdl_context.specs.declared.request.Acquire.TheVariants.{Acquired, MustWait}
use Rattle.mdl_system.specs.Strength.{covers}
use Rattle.mdl_context.specs.Contexts.{ContextView, Attends, ticket_kept}
use Rattle.mdl_context.specs.Gains.{refusal_answered, waiting_at}
use Rattle.mdl_context.specs.Holdings.{wanted_upgrade, with_kept_mode}
use Rattle.mdl_context.specs.Releases.{unless, waiting_fault, release_fault}
use Rattle.mdl_context.specs.Requests.{Outcome, starved}

-- the context with one more ticket
abbrev pub with_ticket : Kept → ContextView → ContextView
with_ticket ticket context = record context { kept = context.kept ++ ticket ∷ [] }

-- the context with the mode of one ticket changed
abbrev pub with_ticket_mode : ℕ → (Mode → Mode) → ContextView → ContextView
with_ticket_mode id change context = record context { kept = with_kept_mode id change context.kept }

-- ---- merges

-- the rest of a merge once the space has answered: if it was refused, the new ticket is released
abbrev pub merge_answered : ℕ → ℕ → Answer → Program (Result (Unit {0}) SpaceError)
merge_answered who new Done = Give (Ok tt)
merge_answered who new answer = Ask (Release who new) (λ _. Give (Err (refusal_answered answer)))

-- a new ticket is merged into a held one of its place: the held one gets its mode, and the new one is removed
abbrev pub merging_new : ℕ → ℕ → ℕ → Program (Result (Unit {0}) SpaceError)
merging_new who id new = Ask (Merge who id new) (merge_answered who new)

-- the outcome of a merge: an answer and the ticket in its new mode, or a refusal and all tickets unchanged
abbrev pub merged : {A : Type 0} → A → ℕ → Mode → ContextView → Result (Unit {0}) SpaceError → Outcome A
merged answer id mode context (Ok _) = (Ok answer, with_ticket_mode id (λ _. mode) context)
merged answer id mode context (Err refusal) = (Err (Space refusal), context)

-- what the session has in the space after a merge
abbrev pub own_merged : ℕ → ℕ → Result (Unit {0}) SpaceError → SessionLocks → SessionLocks
own_merged id new (Ok _) own = owned.merging id new (ticket_held new own) own
own_merged id new (Err refusal) own = giving_up new own

-- whether a refusal is one that a merge can get: out of memory, or a full book
abbrev pub is_merge_refusal : SpaceError → Bool
is_merge_refusal OutOfMemory = true
is_merge_refusal Full = true
is_merge_refusal _ = false

-- whether a context's error is such a refusal
abbrev pub is_merge_fault : ContextError → Bool
is_merge_fault (Space refusal) = is_merge_refusal refusal
is_merge_fault _ = false

-- a call fails only if it makes a merge, and that is refused
abbrev pub FailsByMerge : {A : Type 0} → Option (ℕ × Mode) → Result A ContextError → Type 0
FailsByMerge None result = IsOk result
FailsByMerge (Some _) result = IfErr result (λ error. is_merge_fault error ≡ true)

-- a call fails only if it runs out of memory, or if it makes a merge, and that is refused
abbrev pub FailsByMergeOrWant : {A : Type 0} → Option (ℕ × Mode) → Result A ContextError → Type 0
FailsByMergeOrWant None result = IsOkUnless result (Space OutOfMemory)
FailsByMergeOrWant (Some _) result = IfErr result (λ error. is_merge_fault error ≡ true)

-- the session has a second ticket, of this number and mode, which the context doesn't keep. It is at the place of a kept one,
-- and its mode is at least as strong as that one's
abbrev pub HasSecond : {S : Type 0} → Ghosts S → ℕ → ℕ → Mode → S → ContextView → Type 0
HasSecond members id new mode space context =
    (second : Kept) × (second.id ≡ new) × (second.mode ≡ mode)
    × MatchOption (ticket_kept id context.kept) ⊥ (λ ticket. (ticket.place ≡ second.place) × (covers mode ticket.mode ≡ true))
    × Attends members space (with_ticket second context)

-- ---- upgrades

-- the context with a wait for the second ticket of an upgrade
abbrev pub awaiting_upgrade : Kept → Mode → Bool → ContextView → ContextView
awaiting_upgrade ticket mode searched context = record context { wait = Some (wanted_upgrade ticket mode searched) }

-- the rest of an upgrade once its second ticket, in the stronger mode, is asked for: if it was granted at once, it is merged
-- into the first
abbrev pub second_got : Kept → Mode → ContextView → Result AskResult SpaceError → Program (Outcome Acquire)
second_got ticket mode context (Ok (got.Granted new)) =
    merging_new context.who ticket.id new >>= (λ end. Give (merged (Acquired ticket.id) ticket.id mode context end))
second_got ticket mode context (Ok (got.Waits number searched)) = Give (Ok (MustWait number), awaiting_upgrade ticket mode searched context)
second_got ticket mode context (Err refusal) = Give (Err (Space refusal), context)

-- room is made for a second ticket, in the stronger mode, and it is waited for
abbrev pub waiting_to_upgrade : Kept → Mode → ContextView → Program (Outcome Acquire)
waiting_to_upgrade ticket mode context = Grow (starved context) (waiting_at context.who ticket.place mode >>= second_got ticket mode context)

-- the rest of an upgrade once the space has answered whether it can be granted at once
abbrev pub upgrade_answered : Kept → Mode → ContextView → Answer → Program (Outcome Acquire)
upgrade_answered ticket mode context Upgraded = Give (Ok (Acquired ticket.id), with_ticket_mode ticket.id (upgraded mode) context)
upgrade_answered ticket mode context Would_wait = waiting_to_upgrade ticket mode context
upgrade_answered ticket mode context answer = Give (Err (Space (refusal_answered answer)), context)

-- a given ticket is upgraded, unless the session waits. Without one, the call fails
abbrev pub upgrading_ticket : Option Kept → Mode → ContextView → Program (Outcome Acquire)
upgrading_ticket None mode context = Give (Err NotHeld, context)
upgrading_ticket (Some ticket) mode context =
    unless (waiting_fault context) context (Ask (Upgrade_now context.who ticket.id mode) (upgrade_answered ticket mode context))

-- the program that upgrades the ticket of a number
abbrev pub upgrading : ℕ → Mode → ContextView → Program (Outcome Acquire)
upgrading id mode context = upgrading_ticket (ticket_kept id context.kept) mode context

-- ---- downgrades

-- the outcome of a downgrade, from what the space answered
abbrev pub downgrade_answered : ℕ → Mode → ContextView → Answer → Program (Outcome (Unit {0}))
downgrade_answered id mode context Done = Give (Ok tt, with_ticket_mode id (λ _. mode) context)
downgrade_answered id mode context answer = Give (Err (Space (refusal_answered answer)), context)

-- the program that downgrades a ticket, unless it isn't kept or the session waits
abbrev pub downgrading : ℕ → Mode → ContextView → Program (Outcome (Unit {0}))
downgrading id mode context =
    unless (release_fault id context) context (Ask (Downgrade context.who id mode) (downgrade_answered id mode context))
