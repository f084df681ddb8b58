-- The copy is gained, or what is asked for, or nothing has changed.
use Rattle.std.proofs.Common.{refl, ap, ◌∙◌}
use Rattle.mdl_calls.specs.SessionLocks.{cloning, gaining}
use Rattle.mdl_context.proofs.GainLemmas.{placed-clone}
use Rattle.mdl_context.proofs.asking.try_gain.Goals as goal

pub returns-in-Ok-clause-own : goal.returns-in-Ok-clause-own
returns-in-Ok-clause-own g c =
    let own = g.S.LockSpace.own c.args.space.now c.args.who in
    let held = rw c.in-Some.is at c.requires.held in
    g.met.S.LockSpace.laws.changes _ _ _ _ _ refl (rw c.in-Ok.is at c.clone_ticket.ensures)
    ∙ ap (λ ticket. cloning c.in-Ok.id c.args.mode ticket own) held.0 ∙ ap (λ place. gaining c.in-Ok.id place c.args.mode own) held.1

pub returns-in-Err-clause-own : goal.returns-in-Err-clause-own
returns-in-Err-clause-own g c = g.met.S.LockSpace.laws.changes _ _ _ _ _ refl (rw c.in-Err.is at c.clone_ticket.ensures)

pub returns-in-Err-clause-placed : goal.returns-in-Err-clause-placed
returns-in-Err-clause-placed g c =
    placed-clone _ c.args.who _ c.args.mode c.in-Err.refusal _ (g.met.S.LockSpace.laws.explains _ _ _ _ _ refl (rw c.in-Err.is at c.clone_ticket.ensures))
