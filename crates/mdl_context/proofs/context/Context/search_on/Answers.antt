-- The searches run as said, and then the wait is looked after, or given up.
use Rattle.std.proofs.Common.{◌≡◌, ap}
use Rattle.mdl_context.specs.Contexts.{ContextView}
use Rattle.mdl_context.specs.Holdings.{context_of}
use Rattle.mdl_context.proofs.BeyondLemmas.{same-context}
use Rattle.mdl_context.proofs.SoughtLemmas.{run-over, run-cut_off, run-failed}
use Rattle.mdl_context.proofs.context.Context.search_on.Goals as goal

pub returns-in-Ok-true-clause-run : goal.returns-in-Ok-true-clause-run
returns-in-Ok-true-clause-run g c =
    rw (← c.self.view_is) (run-over g.S.LockSpace.joins _ _ _ _ _ _ (rw (c.in-Ok-true.is, c.in-Ok-true.field-0-test) at c.seek.ensures.run)
    (same-context c.self.inside.who _ _ _ _ _ _ c.end_searches.ensures.kept c.end_searches.ensures.known c.end_searches.ensures.wait) c.look.ensures.run)

pub returns-in-Ok-false-clause-run : goal.returns-in-Ok-false-clause-run
returns-in-Ok-false-clause-run g c =
    let same : c.self.inside.who ≡ c.args.self.now.who = ap (λ (v : ContextView). v.who) c.self.view_is in
    run-cut_off g.S.LockSpace.joins c.args.self.now _ _ _ _ (rw (same, c.in-Ok-false.is, c.in-Ok-false.field-0-test) at c.seek.ensures.run) c.look-in-Ok-false.ensures.run

pub returns-in-Err-clause-run : goal.returns-in-Err-clause-run
returns-in-Err-clause-run g c =
    let dropped : ContextView = context_of c.self.inside.who c.drop_wait.new.self in
    rw (← c.self.view_is) (run-failed g.S.LockSpace.joins c.in-Err.refusal _ dropped _ _ _ _ _ (rw c.in-Err.is at c.seek.ensures.run) c.abandon.ensures.run
    (same-context c.self.inside.who _ _ _ _ _ _ c.drop_wait.ensures.kept c.drop_wait.ensures.known c.drop_wait.ensures.wait) c.tidy.ensures.run c.tidy.ensures.tidied)
