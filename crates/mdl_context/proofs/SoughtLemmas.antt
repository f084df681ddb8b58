-- What follows on searches for deadlocks: the session waits on, or its wait is given up.
use Rattle.std.proofs.Common.{◌≡◌, ℕ, Bool, true, false, Ok, Err, Result, refl, subst}
use Rattle.mdl_calls.specs.declared.space_error.SpaceError.{SpaceError}
use Rattle.mdl_calls.specs.Words.{Answer, Call, Runs, Give, ◌>>◌, Over, Cut_off, Failed, seeking, most_searches}
use Rattle.mdl_calls.proofs.RunLemmas.{runs_bind}
use Rattle.mdl_context.specs.declared.asking.AskResult.{AskResult}
use Rattle.mdl_context.specs.declared.asking.AskResult.TheVariants as got
use Rattle.mdl_context.specs.declared.context_error.ContextError.TheVariants.{Space}
use Rattle.mdl_context.specs.declared.request.Resume.{Resume}
use Rattle.mdl_context.specs.Contexts.{ContextView}
use Rattle.mdl_context.specs.Gains.{abandoning, wish_sought, waiting_on}
use Rattle.mdl_context.specs.Requests.{Outcome}
use Rattle.mdl_context.specs.Tidying.{tidied, tidying, unneeded, unpinning_all}
use Rattle.mdl_context.specs.Waits.{without_wait, with_searches_over, looking, wait_sought, searching_on}
use Rattle.mdl_context.specs.SearchEnds.{sought}
use Rattle.mdl_context.proofs.TidyLemmas.{run-tidied}

module _ {S : Type 0} (joins : S → Call → Answer → S → Type 0) where
  -- the session waits for the wanted ticket
  pub run-waiting : (who number : ℕ) (over : Bool) (a b : S) → Runs joins a (seeking most_searches who) (sought (Ok over)) b → Runs joins a (waiting_on who number) (Ok (got.Waits number over)) b
  run-waiting who number true a b run = runs_bind joins (seeking most_searches who) (wish_sought who number) a b b Over _ run (refl, refl)
  run-waiting who number false a b run = runs_bind joins (seeking most_searches who) (wish_sought who number) a b b Cut_off _ run (refl, refl)

  -- a wait is given up, and then this is answered
  run-abandoned : {A : Type 0} (who : ℕ) (outcome reply : A) (a b : S) → Runs joins a (abandoning who) tt b → outcome ≡ reply → Runs joins a (abandoning who >> Give outcome) reply b
  run-abandoned who outcome reply a b run same = runs_bind joins (abandoning who) (λ _. Give outcome) a b b tt reply run (same, refl)

  -- the wish is given up
  pub run-refused : (who number : ℕ) (refusal : SpaceError) (a mid b : S) → Runs joins a (seeking most_searches who) (Failed refusal) mid
      → Runs joins mid (abandoning who) tt b → Runs joins a (waiting_on who number) (Err refusal) b
  run-refused who number refusal a mid b failed abandoned =
      runs_bind joins (seeking most_searches who) (wish_sought who number) a mid b (Failed refusal) _ failed
      (run-abandoned {A = Result AskResult SpaceError} who _ _ mid b abandoned refl)

  -- the wait is looked after
  pub run-over : (before between : ContextView) (reply : Outcome Resume) (a mid b : S) → Runs joins a (seeking most_searches before.who) Over mid → between ≡ with_searches_over before
      → Runs joins mid (looking between) reply b → Runs joins a (searching_on before) reply b
  run-over before between reply a mid b over same looked =
      runs_bind joins (seeking most_searches before.who) (wait_sought before) a mid b Over reply over (subst (λ context. Runs joins mid (looking context) reply b) same looked)

  pub run-cut_off : (before : ContextView) (reply : Outcome Resume) (a mid b : S) → Runs joins a (seeking most_searches before.who) Cut_off mid
      → Runs joins mid (looking before) reply b → Runs joins a (searching_on before) reply b
  run-cut_off before reply a mid b cut looked = runs_bind joins (seeking most_searches before.who) (wait_sought before) a mid b Cut_off reply cut looked

  -- the wait is given up, and then the context lets go of the places where it has nothing
  pub run-failed : (refusal : SpaceError) (before left after : ContextView) (a mid then b : S) → Runs joins a (seeking most_searches before.who) (Failed refusal) mid
      → Runs joins mid (abandoning before.who) tt then → left ≡ without_wait before → Runs joins then (unpinning_all left.who (unneeded left)) tt b
      → after ≡ tidied left → Runs joins a (searching_on before) (Err (Space refusal), after) b
  run-failed refusal before left after a mid then b failed abandoned same let_go is =
      let end : Outcome Resume = (Err (Space refusal), without_wait before) in
      runs_bind joins (seeking most_searches before.who) (wait_sought before) a mid b (Failed refusal) _ failed
      (runs_bind {A = Unit {0}} {B = Outcome Resume} joins (abandoning before.who) (λ _. tidying end) mid then b tt _ abandoned
      (subst (λ (context : ContextView). Runs joins then (tidying {A = Resume} (Err (Space refusal), context)) (Err (Space refusal), after) b) same
      (run-tidied joins {A = Resume} (Err (Space refusal)) left after then b let_go is)))
