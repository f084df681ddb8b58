use Rattle.std.proofs.Common.{refl, sym, ap, ◌∙◌}
use Rattle.mdl_calls.specs.declared.answers.Held.{Held}
use Rattle.mdl_context.specs.Holdings.{lasting}
use Rattle.mdl_context.proofs.AttendLemmas.{attends-changed}
use Rattle.mdl_context.proofs.JustLemmas.{needs-changed, stays-over}
use Rattle.mdl_context.proofs.PlaceLemmas.{held-lasting}
use Rattle.mdl_context.proofs.context.Context.set_duration.Goals as goal

pub returns-clause-attends : goal.returns-clause-attends
returns-clause-attends g c =
    rw (← c.self.view_is) (λ space attends. attends-changed (lasting c.args.id c.args.duration) (held-lasting c.args.id c.args.duration) space _ _ refl c.set_duration.ensures.known c.set_duration.ensures.kept c.set_duration.ensures.wait (sym c.is_waiting.ensures ∙ c.if-is_waiting.false) attends)

pub returns-clause-tidy : goal.returns-clause-tidy
returns-clause-tidy g c space =
    let same = held-lasting c.args.id c.args.duration in
    rw (← c.self.view_is) (stays-over g.S.LockSpace space space _ _
    (needs-changed (lasting c.args.id c.args.duration) (λ t. ap (λ (h : Held). h.place) (same t)) _ _ refl c.set_duration.ensures.known c.set_duration.ensures.kept
    c.set_duration.ensures.wait) refl (λ place owes. owes))
