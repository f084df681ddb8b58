-- How a context ends, from what it did one after the other.
use Rattle.std.proofs.Common.{◌≡◌, true, false, Option, Some, None, Result, Ok}
use Rattle.std.specs.Prelude.{is_some}
use Rattle.mdl_calls.specs.Words.{Answer, Call, Runs}
use Rattle.mdl_calls.proofs.RunLemmas.{runs_bind}
use Rattle.mdl_context.specs.declared.context_error.ContextError.{ContextError}
use Rattle.mdl_context.specs.declared.kept.Wanted.{Wanted}
use Rattle.mdl_context.specs.declared.request.Resume.{Resume}
use Rattle.mdl_context.specs.Contexts.{ContextView}
use Rattle.mdl_context.specs.Releases.{giving_up_all}
use Rattle.mdl_context.specs.Waits.{giving_up_wait}
use Rattle.mdl_c_calls.specs.Transactions.{ending_from}

module _ {S : Type 0} (joins : S → Call → Answer → S → Type 0) where
  -- a session without a wait
  pub run-idle : (context after : ContextView) (a b : S) → is_some context.wait ≡ false → Runs joins a (giving_up_all context) (Ok tt, after) b
      → Runs joins a (ending_from context.wait context) (Ok tt, after) b
  run-idle context after a b idle run = by context.wait idle where
    by : (wait : Option Wanted) → is_some wait ≡ false → Runs joins a (ending_from wait context) (Ok tt, after) b
    by None idle = run
    by (Some wanted) idle = cc

  -- one that waits
  pub run-waiting : (context between after : ContextView) (end : Result Resume ContextError) (a mid b : S) → is_some context.wait ≡ true
      → Runs joins a (giving_up_wait context) (end, between) mid → Runs joins mid (giving_up_all between) (Ok tt, after) b
      → Runs joins a (ending_from context.wait context) (Ok tt, after) b
  run-waiting context between after end a mid b waits first second = by context.wait waits where
    by : (wait : Option Wanted) → is_some wait ≡ true → Runs joins a (ending_from wait context) (Ok tt, after) b
    by None waits = cc
    by (Some wanted) waits = runs_bind joins (giving_up_wait context) (λ outcome. giving_up_all outcome.1) a mid b (end, between) (Ok tt, after) first second
