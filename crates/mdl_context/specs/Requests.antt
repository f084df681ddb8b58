-- How a session gets its tickets, after MySQL 5.7: `MDL_context::try_acquire_lock_impl`, `find_ticket` and `acquire_lock` of
-- sql/mdl.cc. This project's own choice is that the place of a key is looked up once as long as the session has something there, that the
-- pin is given up again if the request gets nothing there, that the earliest suitable ticket there is taken, and that a wait is continued by
-- separate calls.
use Rattle.std.specs.Prelude.{◌≡◌, ◌⊎◌, ℕ, Bool, not, ◌&&◌, [], ◌∷◌, ◌++◌, Option, Some, None, IsSome, is_some, Result, Ok, Err, true, false, if◌then◌else◌}
use Rattle.mdl_key.specs.declared.mode.Duration.TheVariants.{Explicit}
use Rattle.mdl_key.specs.Keys.{KeyName}
use Rattle.mdl_key.specs.Modes.{kind_of, is_mode_of}
use Rattle.mdl_calls.specs.declared.answers.Held.{Held}
use Rattle.mdl_calls.specs.declared.space_error.SpaceError.{SpaceError}
use Rattle.mdl_calls.specs.declared.space_error.SpaceError.TheVariants.{NoPlace, OutOfMemory}
use Rattle.mdl_calls.specs.declared.lock_space.LockSpace.{Ghosts}
use Rattle.mdl_calls.specs.Words.{Answer, At_place, Call, Refused, Resolve, Unpin, is_pinned, Program, Give, Ask, Grow, ◌>>=◌}
use Rattle.mdl_system.specs.Strength.{covers}
use Rattle.mdl_context.specs.declared.asking.AskResult.{AskResult}
use Rattle.mdl_context.specs.declared.asking.AskResult.TheVariants as got
use Rattle.mdl_context.specs.declared.context_error.ContextError.{ContextError}
use Rattle.mdl_context.specs.declared.context_error.ContextError.TheVariants.{Waiting, Space}
use Rattle.mdl_context.specs.declared.kept.Kept.{Kept}
use Rattle.mdl_context.specs.declared.kept.Wanted.{Wanted}
use Rattle.mdl_context.specs.Wishes.{Wish}
use Rattle.mdl_context.specs.declared.request.Acquire.{Acquire}
use Rattle.mdl_context.specs.declared.request.Acquire.TheVariants.{Acquired, MustWait}
use Rattle.mdl_context.specs.declared.request.Tried.{Tried}
use Rattle.mdl_context.specs.declared.request.Tried.TheVariants as try_as
use Rattle.mdl_context.specs.Contexts.{ContextView, lasts, place_known}
use Rattle.mdl_context.specs.Gains.{refusal_answered, gaining_from, trying_from}
use Rattle.mdl_context.specs.Holdings.{is_kept_at, earliest, kept_ticket, wanted_of}

-- the outcome of a call of a context: its answer, and the context after it
abbrev pub Outcome : Type 0 → Type 0
Outcome A = Result A ContextError × ContextView

-- the program that reports that memory ran out, with this context
abbrev pub starved : {A : Type 0} → ContextView → Program (Outcome A)
starved context = Give (Err (Space OutOfMemory), context)

-- whether a ticket suffices for a request: it is at the place of the key, in a mode at least as strong as the requested one, and
-- that is a mode of the key's kind
abbrev pub suffices : ℕ → Wish → Kept → Bool
suffices place request ticket = is_kept_at place ticket && covers ticket.mode request.mode && is_mode_of (kind_of request.key.namespace) request.mode

-- whether a ticket can be used again for a request: it suffices and has the requested duration, which isn't explicit
abbrev pub is_reusable : ℕ → Wish → Kept → Bool
is_reusable place request ticket = suffices place request ticket && lasts request.duration ticket && not (lasts Explicit ticket)

-- the context with the requested ticket added
abbrev pub keeping_ticket : ℕ → ℕ → Wish → ContextView → ContextView
keeping_ticket id place request context = record context { kept = context.kept ++ kept_ticket id place request ∷ [] }

-- the context with a wait for the requested ticket, which says whether the searches for deadlocks are over
abbrev pub awaiting : ℕ → Wish → Bool → ContextView → ContextView
awaiting place request searched context = record context { wait = Some (wanted_of place request searched) }

-- the context with a known place added for a key
abbrev pub remembering : KeyName → ℕ → ContextView → ContextView
remembering key place context = record context { known = context.known ++ (key, place) ∷ [] }

-- the outcome of a request, from what the space answered
abbrev pub outcome_got : ℕ → Wish → ContextView → Result AskResult SpaceError → Outcome Acquire
outcome_got place request context (Ok (got.Granted id)) = (Ok (Acquired id), keeping_ticket id place request context)
outcome_got place request context (Ok (got.Waits number searched)) = (Ok (MustWait number), awaiting place request searched context)
outcome_got place request context (Err refusal) = (Err (Space refusal), context)

-- a ticket that can be used again is returned. If there is none, room is made for one more. Then the earliest ticket that
-- suffices is cloned, or a new one requested
abbrev pub reusing : Option Held → ℕ → Wish → ContextView → Program (Outcome Acquire)
reusing (Some ticket) place request context = Give (Ok (Acquired ticket.id), context)
reusing None place request context =
    Grow (starved context)
    (gaining_from (earliest (suffices place request) context.kept) context.who place request.mode >>= (λ end. Give (outcome_got place request context end)))

-- a request for a lock at a place
abbrev pub acquiring_at : ℕ → Wish → ContextView → Program (Outcome Acquire)
acquiring_at place request context = reusing (earliest (is_reusable place request) context.kept) place request context

-- whether a request got what it asked for: the lock, or a wait for it
abbrev pub got_lock : Result Acquire ContextError → Bool
got_lock (Ok _) = true
got_lock (Err _) = false

-- the end of a request at a place that was looked up for it: if the request got nothing there, the session gives up its pin of the place, and
-- the context is as it was before
abbrev pub letting_go : {A : Type 0} → (Result A ContextError → Bool) → ℕ → ContextView → Outcome A → Program (Outcome A)
letting_go has_got place before (reply, after) =
    if has_got reply then Give (reply, after) else Ask (Unpin before.who place) (λ _. Give (reply, before))

-- the rest of a request once the space has answered the key's place: the place is remembered, which takes memory, as long as the request gets
-- something there
abbrev pub place_answered : Wish → ContextView → Answer → Program (Outcome Acquire)
place_answered request context (At_place place) =
    Grow (starved context) (acquiring_at place request (remembering request.key place context)) >>= letting_go got_lock place context
place_answered request context answer = Give (Err (Space (refusal_answered answer)), context)

-- a request whose key's place is known, or else looked up in the space
abbrev pub finding : Option ℕ → Wish → ContextView → Program (Outcome Acquire)
finding (Some place) request context = acquiring_at place request context
finding None request context = Ask (Resolve context.who request.key) (place_answered request context)

-- a request for a lock
abbrev pub acquiring : Wish → ContextView → Program (Outcome Acquire)
acquiring request context =
    if is_some context.wait then Give (Err Waiting, context) else finding (place_known request.key context.known) request context

-- ---- without a wait

-- the outcome of a request that doesn't wait, from what the space answered
abbrev pub outcome_tried : ℕ → Wish → ContextView → Result Tried SpaceError → Outcome Tried
outcome_tried place request context (Ok (try_as.Acquired id)) = (Ok (try_as.Acquired id), keeping_ticket id place request context)
outcome_tried place request context (Ok try_as.WouldWait) = (Ok try_as.WouldWait, context)
outcome_tried place request context (Err refusal) = (Err (Space refusal), context)

-- a ticket that can be used again is returned. If there is none, room is made for one more. Then the earliest ticket that
-- suffices is cloned, or a new one requested
abbrev pub trying_again : Option Held → ℕ → Wish → ContextView → Program (Outcome Tried)
trying_again (Some ticket) place request context = Give (Ok (try_as.Acquired ticket.id), context)
trying_again None place request context =
    Grow (starved context)
    (trying_from (earliest (suffices place request) context.kept) context.who place request.mode >>= (λ end. Give (outcome_tried place request context end)))

-- a request that doesn't wait, for a lock at a place
abbrev pub trying_at : ℕ → Wish → ContextView → Program (Outcome Tried)
trying_at place request context = trying_again (earliest (is_reusable place request) context.kept) place request context

-- whether a request that doesn't wait got the lock
abbrev pub got_at_once : Result Tried ContextError → Bool
got_at_once (Ok (try_as.Acquired id)) = true
got_at_once _ = false

-- the rest of a request that doesn't wait, once the space has answered the key's place, which is remembered if the lock is got
abbrev pub trying_placed : Wish → ContextView → Answer → Program (Outcome Tried)
trying_placed request context (At_place place) =
    Grow (starved context) (trying_at place request (remembering request.key place context)) >>= letting_go got_at_once place context
trying_placed request context answer = Give (Err (Space (refusal_answered answer)), context)

-- a request whose key's place is known, or else looked up in the space
abbrev pub trying_found : Option ℕ → Wish → ContextView → Program (Outcome Tried)
trying_found (Some place) request context = trying_at place request context
trying_found None request context = Ask (Resolve context.who request.key) (trying_placed request context)

-- a request for a lock that doesn't wait: as `acquiring`, but if the lock can't be granted now, the context gets none
abbrev pub trying : Wish → ContextView → Program (Outcome Tried)
trying request context =
    if is_some context.wait then Give (Err Waiting, context) else trying_found (place_known request.key context.known) request context

-- ---- the state afterwards

-- a call was refused for want of a place
abbrev pub IsNoPlace : {A : Type 0} → Result A ContextError → Type 0
IsNoPlace result = result ≡ Err (Space NoPlace)

-- a request is refused for want of a place only if the context doesn't know the key's place, and the space refused to give it one. Then
-- that was the only call
abbrev pub LacksPlaceOf : {S A : Type 0} → (S → Call → Answer → S → Type 0) → KeyName → ContextView → S → Result A ContextError → S → Type 0
LacksPlaceOf joins key context before result after =
    IsNoPlace result → (place_known key context.known ≡ None) × joins before (Resolve context.who key) (Refused NoPlace) after

-- the wait after a request: there is one only if the session has to wait, and a refusal leaves it unchanged
abbrev pub WaitsAfter : Result Acquire ContextError → Option Wanted → Option Wanted → Type 0
WaitsAfter (Ok (Acquired id)) before after = after ≡ None
WaitsAfter (Ok (MustWait number)) before after = IsSome after
WaitsAfter (Err error) before after = after ≡ before

-- a session has what it had, pins no more, and has lost at most its pin of this key's place. It still pins that place besides if it owes it a
-- reschedule
pub record HasWhatItHad {S : Type 0} (members : Ghosts S) (who : ℕ) (key : KeyName) (before after : S) : Type 0 where
  pub locks : ((members.own after who).held ≡ (members.own before who).held) × ((members.own after who).wait ≡ (members.own before who).wait)
  pub pins : (place : ℕ) → is_pinned place (members.own after who) ≡ true
      → (is_pinned place (members.own before who) ≡ true) ⊎ members.owes before who place
  pub keeps : (place : ℕ) → is_pinned place (members.own before who) ≡ true
      → (is_pinned place (members.own after who) ≡ true) ⊎ members.knows before who place key

-- a property holds, unless a ticket was acquired
abbrev pub UnlessAcquired : Result Tried ContextError → Type 0 → Type 0
UnlessAcquired (Ok (try_as.Acquired id)) P = Unit {0}
UnlessAcquired _ P = P
