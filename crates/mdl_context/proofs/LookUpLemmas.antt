-- A request at a place that was looked up for it. If the request gets nothing there, the place is let go of, and the reply stays.
use Rattle.std.proofs.Common.{◌≡◌, ℕ, Bool, true, false, [], ◌∷◌, Result, Ok, Err, if◌then◌else◌, refl}
use Rattle.std.specs.Prelude.{OnErr}
use Rattle.std.specs.Result.{is_err}
use Rattle.mdl_calls.specs.Words.{Answer, Call, Unpin, Program, Give, Ask, ◌>>=◌, Each, EachCall, IsFaithful, Runs}
use Rattle.mdl_calls.proofs.FaithfulLemmas.{calls_bind, each_bind, either, faithful_bind}
use Rattle.mdl_calls.proofs.RunLemmas.{runs_bind}
use Rattle.mdl_context.specs.declared.context_error.ContextError.{ContextError}
use Rattle.mdl_context.specs.declared.request.Acquire.{Acquire}
use Rattle.mdl_context.specs.declared.request.Tried.{Tried}
use Rattle.mdl_context.specs.declared.request.Tried.TheVariants as try_as
use Rattle.mdl_context.specs.Contexts.{ContextView}
use Rattle.mdl_context.specs.MemoryLaws.{IsStarved}
use Rattle.mdl_context.specs.Requests.{Outcome, UnlessAcquired, got_at_once, got_lock, letting_go}
use Rattle.mdl_context.specs.Tidying.{unpinning_all}

module _ {A : Type 0} (has_got : Result A ContextError → Bool) (place : ℕ) (before : ContextView) (request : Program (Outcome A)) where
  -- what is so of each reply of the request, and stays so where it got nothing, is so of each reply
  pub each_looked_up : (P : Outcome A → Type 0)
      → ((reply : Result A ContextError) (after : ContextView) → has_got reply ≡ false → P (reply, after) → P (reply, before))
      → Each P request → Each P (request >>= letting_go has_got place before)
  each_looked_up P stays each = each_bind {A = Outcome A} {B = Outcome A} P P request (letting_go has_got place before) each ends where
    ends : (outcome : Outcome A) → P outcome → Each P (letting_go has_got place before outcome)
    ends (reply, after) is = by (has_got reply) refl where
      by : (got : Bool) → has_got reply ≡ got → Each P (if got then Give (reply, after) else Ask (Unpin before.who place) (λ _. Give (reply, before)))
      by true got = is
      by false got = λ answer. stays reply after got is

  -- the session's pin is given up at most
  pub calls_looked_up : (P : Call → Type 0) → P (Unpin before.who place) → EachCall P request → EachCall P (request >>= letting_go has_got place before)
  calls_looked_up P unpins each = calls_bind {A = Outcome A} {B = Outcome A} P request (letting_go has_got place before) each ends where
    ends : (outcome : Outcome A) → EachCall P (letting_go has_got place before outcome)
    ends (reply, after) =
        either {A = Outcome A} (EachCall P) (has_got reply) (Give (reply, after)) (Ask (Unpin before.who place) (λ _. Give (reply, before))) tt
        (unpins, λ answer. tt)

  -- where memory was wanting, the reply still says so
  pub faithful_looked_up : IsFaithful IsStarved request → IsFaithful IsStarved (request >>= letting_go has_got place before)
  faithful_looked_up made = faithful_bind {A = Outcome A} {B = Outcome A} IsStarved IsStarved request (letting_go has_got place before) made starved ends where
    starved : (outcome : Outcome A) → IsStarved outcome → Each IsStarved (letting_go has_got place before outcome)
    starved (reply, after) is =
        either {A = Outcome A} (Each IsStarved) (has_got reply) (Give (reply, after)) (Ask (Unpin before.who place) (λ _. Give (reply, before))) is
        (λ answer. is)

    ends : (outcome : Outcome A) → IsFaithful IsStarved (letting_go has_got place before outcome)
    ends (reply, after) =
        either {A = Outcome A} (IsFaithful IsStarved) (has_got reply) (Give (reply, after)) (Ask (Unpin before.who place) (λ _. Give (reply, before))) tt
        (λ takes. cc, λ answer. tt)

-- ---- runs

module _ {S A : Type 0} (joins : S → Call → Answer → S → Type 0) (has_got : Result A ContextError → Bool) (place : ℕ) (before : ContextView)
    (request : Program (Outcome A)) (reply : Result A ContextError) (after : ContextView) where
  -- the request got something
  pub run-got : (a b : S) → Runs joins a request (reply, after) b → has_got reply ≡ true
      → Runs joins a (request >>= letting_go has_got place before) (reply, after) b
  run-got a b run got =
      runs_bind {A = Outcome A} {B = Outcome A} joins request (letting_go has_got place before) a b b (reply, after) (reply, after) run (rw got (refl, refl))

  -- or nothing
  pub run-let_go : (a mid b : S) → Runs joins a request (reply, after) mid → has_got reply ≡ false → Runs joins mid (unpinning_all before.who (place ∷ [])) tt b
      → Runs joins a (request >>= letting_go has_got place before) (reply, before) b
  run-let_go a mid b run lost (answer, next, step, (same, here)) =
      runs_bind {A = Outcome A} {B = Outcome A} joins request (letting_go has_got place before) a mid b (reply, after) (reply, before) run
      (rw lost (answer, next, step, (refl, here)))

-- ---- what is so of a request that got nothing

pub lost-lock : (reply : Result Acquire ContextError) → is_err reply ≡ true → got_lock reply ≡ false
lost-lock (Ok got) lost = cc
lost-lock (Err why) lost = refl

pub got-lock : (reply : Result Acquire ContextError) → is_err reply ≡ false → got_lock reply ≡ true
got-lock (Ok got) has = refl
got-lock (Err why) has = cc

pub so-lost : {P : Type 0} (reply : Result Acquire ContextError) → got_lock reply ≡ false → OnErr reply P → P
so-lost (Ok got) lost so = cc
so-lost (Err why) lost so = so

pub so-lost_at_once : {P : Type 0} (reply : Result Tried ContextError) → got_at_once reply ≡ false → UnlessAcquired reply P → P
so-lost_at_once (Ok (try_as.Acquired id)) lost so = cc
so-lost_at_once (Ok try_as.WouldWait) lost so = so
so-lost_at_once (Err why) lost so = so

pub on-err : {A P : Type 0} (reply : Result A ContextError) → P → OnErr reply P
on-err (Ok got) so = tt
on-err (Err why) so = so

pub unless-acquired : {P : Type 0} (reply : Result Tried ContextError) → P → UnlessAcquired reply P
unless-acquired (Ok (try_as.Acquired id)) so = tt
unless-acquired (Ok try_as.WouldWait) so = so
unless-acquired (Err why) so = so

-- where a property follows from another
pub unless-weaker : {P Q : Type 0} (reply : Result Tried ContextError) → (P → Q) → UnlessAcquired reply P → UnlessAcquired reply Q
unless-weaker (Ok (try_as.Acquired id)) so holds = tt
unless-weaker (Ok try_as.WouldWait) so holds = so holds
unless-weaker (Err why) so holds = so holds
