use Rattle.std.proofs.Common.{refl, sym, ◌∙◌}
use Rattle.mdl_key.specs.declared.mode.Duration.TheVariants.{Explicit}
use Rattle.mdl_context.specs.Holdings.{kept_for}
use Rattle.mdl_context.proofs.AttendLemmas.{attends-changed}
use Rattle.mdl_context.proofs.JustLemmas.{needs-changed, stays-over}
use Rattle.mdl_context.proofs.context.Context.make_explicit.Goals as goal

pub returns-clause-attends : goal.returns-clause-attends
returns-clause-attends g c =
    rw (← c.self.view_is) (λ space attends. attends-changed (kept_for Explicit) (λ t. refl) space _ _ refl c.make_explicit.ensures.known c.make_explicit.ensures.kept c.make_explicit.ensures.wait (sym c.is_waiting.ensures ∙ c.if-is_waiting.false) attends)

pub returns-clause-tidy : goal.returns-clause-tidy
returns-clause-tidy g c space =
    rw (← c.self.view_is) (stays-over g.S.LockSpace space space _ _
    (needs-changed (kept_for Explicit) (λ t. refl) _ _ refl c.make_explicit.ensures.known c.make_explicit.ensures.kept c.make_explicit.ensures.wait) refl (λ place owes. owes))
