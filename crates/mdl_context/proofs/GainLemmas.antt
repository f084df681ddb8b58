-- What a session has after it asked for a lock, and that it isn't refused for want of a pinned place.
use Rattle.std.proofs.Common.{inl, inr, arith, ◌≡◌, ◌≢◌, ℕ, Bool, true, false, Option, Some, None, Result, Ok, Err, List, [], ◌∷◌, refl, sym, ap, ◌∙◌, subst}
use Rattle.std.specs.Prelude.{IfErr, IsOkUnless}
use Rattle.mdl_key.specs.declared.mode.Mode.{Mode}
use Rattle.mdl_calls.specs.declared.space_error.SpaceError.{SpaceError}
use Rattle.std.specs.Option.{IfSome, option_map}
use Rattle.mdl_calls.specs.declared.answers.Held.{Held}
use Rattle.mdl_calls.specs.SessionLocks.{SessionLocks, Wait, IsRising, ticket_held, waiting, ending}
use Rattle.mdl_calls.specs.CallSpec.{wish_cause}
use Rattle.mdl_calls.specs.Words.{Answer, Call, Clone_ticket, IsCause, Knowledge, Upgrade_now, is_pinned, Runs, Give}
use Rattle.mdl_calls.proofs.RunLemmas.{runs_bind}
use Rattle.mdl_context.specs.declared.kept.Kept.{Kept}
use Rattle.mdl_context.specs.declared.kept.Wanted.{Wanted}
use Rattle.mdl_context.specs.Wishes.{Wish}
use Rattle.mdl_context.specs.declared.request.Acquire.{Acquire}
use Rattle.mdl_context.specs.declared.request.Acquire.TheVariants.{Acquired}
use Rattle.mdl_context.specs.declared.request.Tried.{Tried}
use Rattle.mdl_context.specs.declared.request.Tried.TheVariants as try_as
use Rattle.mdl_context.specs.declared.context_error.ContextError.{ContextError}
use Rattle.mdl_context.specs.declared.context_error.ContextError.TheVariants.{Space}
use Rattle.mdl_calls.specs.declared.space_error.SpaceError.TheVariants.{NoPlace, OutOfMemory}
use Rattle.mdl_context.specs.Contexts.{ContextView, Serves, wish_there, wish_here}
use Rattle.mdl_context.specs.Holdings.{earliest, is_kept_at}
use Rattle.mdl_context.specs.declared.wishes.Terms.{Terms}
use Rattle.mdl_context.specs.Terms.{meets}
use Rattle.mdl_context.specs.Requests.{IsNoPlace, Outcome, suffices, is_reusable, outcome_got, acquiring_at, outcome_tried, trying_at}
use Rattle.mdl_context.proofs.PlaceLemmas.{meets-at, equal}
use Rattle.mdl_context.proofs.ServingLemmas.{earliest-held}
use Rattle.mdl_context.specs.declared.asking.AskResult.{AskResult}
use Rattle.mdl_context.specs.declared.asking.AskResult.TheVariants as got
use Rattle.mdl_context.specs.Gains.{gaining_from, trying_from, own_got, OwnWaited}
use Rattle.mdl_context.specs.Upgrades.{is_merge_refusal}

-- ---- refusals

-- a request at a pinned place isn't refused for want of a place
pub placed-wish : (knows : Knowledge) (place : ℕ) (mode : Mode) (why : SpaceError) (own : SessionLocks) → wish_cause place mode why knows own → is_pinned place own ≡ true → why ≢ NoPlace
placed-wish knows place mode why own cause pinned e =
    let unpinned : is_pinned place own ≡ false = subst (λ refusal. wish_cause place mode refusal knows own) e cause in grind (arith, pinned, unpinned)

-- neither is a clone, nor an upgrade
pub placed-clone : (knows : Knowledge) (who id : ℕ) (mode : Mode) (why : SpaceError) (own : SessionLocks) → IsCause knows (Clone_ticket who id mode) why own → why ≢ NoPlace
placed-clone knows who id mode why own cause e = subst (λ refusal. IsCause knows (Clone_ticket who id mode) refusal own) e cause

pub placed-upgrade : (knows : Knowledge) (who id : ℕ) (mode : Mode) (why : SpaceError) (own : SessionLocks) → IsCause knows (Upgrade_now who id mode) why own → why ≢ NoPlace
placed-upgrade knows who id mode why own cause e = subst (λ refusal. IsCause knows (Upgrade_now who id mode) refusal own) e cause

-- nor a merge, nor a search
pub placed-merge : (why : SpaceError) → is_merge_refusal why ≡ true → why ≢ NoPlace
placed-merge why is e = let so : is_merge_refusal NoPlace ≡ true = subst (λ refusal. is_merge_refusal refusal ≡ true) e is in cc

pub placed-want : {A : Type 0} (result : Result A SpaceError) → IsOkUnless result OutOfMemory → IfErr result (λ why. why ≢ NoPlace)
placed-want (Ok x) only = tt
placed-want (Err why) only = λ e. (let so : OutOfMemory ≡ NoPlace = sym only ∙ e in cc)

-- and what the space refuses a context, it refuses for that
pub refused-for : {A : Type 0} (result : Result A ContextError) (why : SpaceError) → result ≡ Err (Space why) → IsNoPlace result → why ≡ NoPlace
refused-for result why is e = let so = sym is ∙ e in cc

pub placed-space : {A : Type 0} (why : SpaceError) → why ≢ NoPlace → IsNoPlace {A = A} (Err (Space why)) → ⊥
placed-space {A} why placed e = placed (refused-for {A = A} (Err (Space why)) why refl e)

-- ---- tickets and waits

-- a wait that began and was given up leaves nothing
pub began-and-ended : (number place : ℕ) (mode : Mode) (own : SessionLocks) → own.wait ≡ None → ending (waiting number place mode own) ≡ own
began-and-ended number place mode own none = ap (λ (wait : Option Wait). let o : SessionLocks = record own { wait = wait } in o) (sym none)

-- a wait that began goes on, or is given up
pub own-waited : (number place : ℕ) (mode : Mode) (result : Result AskResult SpaceError) (before mid after : SessionLocks) → OwnWaited number result mid after → mid ≡ waiting number place mode before
    → before.wait ≡ None → after ≡ own_got place mode result before
own-waited number place mode (Ok (got.Granted id)) before mid after told began idle = absurd told
own-waited number place mode (Ok (got.Waits n searched)) before mid after told began idle = told.1 ∙ began ∙ ap (λ m. waiting m place mode before) (sym told.0)
own-waited number place mode (Err refusal) before mid after told began idle = told ∙ ap ending began ∙ began-and-ended number place mode before idle

-- a session that has no wait here has none there
idle-wait : (wait : Option Wait) (wanted : Option Wanted) → option_map wish_there wait ≡ option_map wish_here wanted → wanted ≡ None → wait ≡ None
idle-wait None wanted same none = refl
idle-wait (Some wait) None same none = cc
idle-wait (Some wait) (Some wanted) same none = cc

pub idle-there : (own : SessionLocks) (context : ContextView) → Serves own context → context.wait ≡ None → own.wait ≡ None
idle-there own context serves none = idle-wait own.wait context.wait serves.wait none

-- what is found at a place is there
found-place : (p : Kept → Bool) (place : ℕ) (kept : List Kept) (held : Held) → ((t : Kept) → p t ≡ true → is_kept_at place t ≡ true) → earliest p kept ≡ Some held → held.place ≡ place
found-place p place [] held there found = cc
found-place p place (x ∷ xs) held there found = go (p x) refl (found-place p place xs held there) where
  go : (b : Bool) → p x ≡ b → (earliest p xs ≡ Some held → held.place ≡ place) → held.place ≡ place
  go true e later = let here : held.place ≡ x.place = grind (arith, e, found) in here ∙ equal x.place place (there x e)
  go false e later = later (grind (arith, e, found))

-- a ticket that suffices is held, and at the place
pub sufficient-held : (place : ℕ) (terms : Terms) (own : SessionLocks) (context : ContextView) (ticket : Option Held) → IsRising own → Serves own context
    → ticket ≡ earliest (meets place terms) context.kept → IfSome ticket (λ held. (ticket_held held.id own ≡ Some held) × (held.place ≡ place))
sufficient-held place terms own context None rising serves is = tt
sufficient-held place terms own context (Some held) rising serves is =
    (earliest-held (meets place terms) own context held rising serves (sym is), found-place (meets place terms) place context.kept held (meets-at place terms) (sym is))

module _ {S : Type 0} (joins : S → Call → Answer → S → Type 0) (place : ℕ) (request : Wish) (before : ContextView) (found : Option Held)
    (is : found ≡ earliest (is_reusable place request) before.kept) where
  -- no ticket can be used again, and one is gained
  pub run-gained : (ticket : Option Held) (result : Result AskResult SpaceError) (reply : Outcome Acquire) (a b : S) → found ≡ None → ticket ≡ earliest (suffices place request) before.kept
      → Runs joins a (gaining_from ticket before.who place request.mode) result b → outcome_got place request before result ≡ reply → Runs joins a (acquiring_at place request before) reply b
  run-gained ticket result reply a b none enough run same =
      rw (sym is ∙ none) (inr (runs_bind joins (gaining_from (earliest (suffices place request) before.kept) before.who place request.mode) (λ end. Give (outcome_got place request before end)) a b b result reply
      (rw enough at run) (same, refl)))

  -- the same for a wish that isn't waited for, whether one is gained or not
  pub run-tried : (ticket : Option Held) (result : Result Tried SpaceError) (reply : Outcome Tried) (a b : S) → found ≡ None → ticket ≡ earliest (suffices place request) before.kept
      → Runs joins a (trying_from ticket before.who place request.mode) result b → outcome_tried place request before result ≡ reply → Runs joins a (trying_at place request before) reply b
  run-tried ticket result reply a b none enough run same =
      rw (sym is ∙ none) (inr (runs_bind joins (trying_from (earliest (suffices place request) before.kept) before.who place request.mode) (λ end. Give (outcome_tried place request before end)) a b b result reply
      (rw enough at run) (same, refl)))

  -- or one can be
  pub run-reused : (ticket : Held) (after : ContextView) (a : S) → found ≡ Some ticket → after ≡ before → Runs joins a (acquiring_at place request before) (Ok (Acquired ticket.id), after) a
  run-reused ticket after a some same = rw (sym is ∙ some) (ap (λ context. (Ok (Acquired ticket.id), context)) (sym same), refl)

  pub run-tried-again : (ticket : Held) (after : ContextView) (a : S) → found ≡ Some ticket → after ≡ before → Runs joins a (trying_at place request before) (Ok (try_as.Acquired ticket.id), after) a
  run-tried-again ticket after a some same = rw (sym is ∙ some) (ap (λ context. (Ok (try_as.Acquired ticket.id), context)) (sym same), refl)

  -- or there is no room for one
  pub run-starved : (after : ContextView) (a : S) → found ≡ None → after ≡ before → Runs joins a (acquiring_at place request before) (Err (Space OutOfMemory), after) a
  run-starved after a none same = rw (sym is ∙ none) (inl (ap (λ context. (Err (Space OutOfMemory), context)) (sym same), refl))

  pub run-tried-starved : (after : ContextView) (a : S) → found ≡ None → after ≡ before → Runs joins a (trying_at place request before) (Err (Space OutOfMemory), after) a
  run-tried-starved after a none same = rw (sym is ∙ none) (inl (ap (λ context. (Err (Space OutOfMemory), context)) (sym same), refl))
