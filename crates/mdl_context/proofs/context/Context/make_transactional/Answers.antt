use Rattle.std.proofs.Common.{refl, sym, ap, ◌∙◌}
use Rattle.mdl_calls.specs.declared.answers.Held.{Held}
use Rattle.mdl_context.specs.Holdings.{transactional}
use Rattle.mdl_context.proofs.AttendLemmas.{attends-changed}
use Rattle.mdl_context.proofs.JustLemmas.{needs-changed, stays-over}
use Rattle.mdl_context.proofs.PlaceLemmas.{held-transactional}
use Rattle.mdl_context.proofs.context.Context.make_transactional.Goals as goal

pub returns-clause-attends : goal.returns-clause-attends
returns-clause-attends g c =
    let known = c.self.inside.holdings.known in
    rw (← c.self.view_is) (λ space attends. attends-changed (transactional known) (held-transactional known) space _ _ refl c.make_transactional.ensures.known c.make_transactional.ensures.kept c.make_transactional.ensures.wait (sym c.is_waiting.ensures ∙ c.if-is_waiting.false) attends)

pub returns-clause-tidy : goal.returns-clause-tidy
returns-clause-tidy g c space =
    let known = c.self.inside.holdings.known in
    rw (← c.self.view_is) (stays-over g.S.LockSpace space space _ _
    (needs-changed (transactional known) (λ t. ap (λ (h : Held). h.place) (held-transactional known t)) _ _ refl c.make_transactional.ensures.known c.make_transactional.ensures.kept
    c.make_transactional.ensures.wait) refl (λ place owes. owes))
