-- The wait is gone, and then the places where nothing is left.
use Rattle.std.proofs.Common.{◌≡◌, Ok, subst}
use Rattle.mdl_calls.specs.Words.{Runs}
use Rattle.mdl_context.specs.declared.request.Resume.{Resume}
use Rattle.mdl_context.specs.declared.request.Resume.TheVariants as resume_as
use Rattle.mdl_context.specs.Contexts.{ContextView}
use Rattle.mdl_context.specs.Holdings.{context_of}
use Rattle.mdl_context.specs.Tidying.{tidying}
use Rattle.mdl_context.specs.Waits.{without_wait}
use Rattle.mdl_context.proofs.BeyondLemmas.{same-context}
use Rattle.mdl_context.proofs.TidyLemmas.{run-tidied}
use Rattle.mdl_context.proofs.context.Context.lose.Goals as goal

pub returns-clause-run : goal.returns-clause-run
returns-clause-run g c =
    let joins = g.S.LockSpace.joins in
    let dropped : ContextView = context_of c.self.inside.who c.drop_wait.new.self in
    let same : dropped ≡ without_wait (context_of c.self.inside.who c.self.inside.holdings) =
    same-context c.self.inside.who _ _ _ _ _ _ c.drop_wait.ensures.kept c.drop_wait.ensures.known c.drop_wait.ensures.wait in
    rw (← c.self.view_is)
    (subst (λ (context : ContextView). Runs joins c.args.space.now (tidying {A = Resume} (Ok (resume_as.Lost c.args.how), context)) (Ok (resume_as.Lost c.args.how), c.tidy.new.self) c.tidy.new.space)
    same (run-tidied joins {A = Resume} (Ok (resume_as.Lost c.args.how)) dropped c.tidy.new.self c.args.space.now c.tidy.new.space c.tidy.ensures.run c.tidy.ensures.tidied))
