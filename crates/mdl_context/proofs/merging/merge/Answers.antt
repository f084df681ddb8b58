-- The new ticket is merged, or released.
use Rattle.std.proofs.Common.{refl, ap, ◌∙◌}
use Rattle.mdl_calls.specs.Causes.{Knowledge}
use Rattle.mdl_calls.specs.SessionLocks.{holds, giving_up}
use Rattle.mdl_context.proofs.MergeLemmas.{holds-second, refused-merge}
use Rattle.mdl_context.proofs.merging.merge.Goals as goal

pub release-requires-clause-held : goal.release-requires-clause-held
release-requires-clause-held g c =
    ap (holds c.args.new) (g.met.S.LockSpace.laws.changes _ _ _ _ _ refl (rw c.in-Err.is at c.merge.ensures))
    ∙ holds-second c.args.id c.args.new (g.S.LockSpace.own c.args.space.now c.args.who) c.requires.mergeable

pub returns-in-Ok-clause-own : goal.returns-in-Ok-clause-own
returns-in-Ok-clause-own g c = g.met.S.LockSpace.laws.changes _ _ _ _ _ refl (rw c.in-Ok.is at c.merge.ensures)

pub returns-in-Err-clause-own : goal.returns-in-Err-clause-own
returns-in-Err-clause-own g c =
    c.release.ensures.own ∙ ap (giving_up c.args.new) (g.met.S.LockSpace.laws.changes _ _ _ _ _ refl (rw c.in-Err.is at c.merge.ensures))

pub returns-in-Err-clause-refused : goal.returns-in-Err-clause-refused
returns-in-Err-clause-refused g c =
    let knows : Knowledge = g.S.LockSpace.knows c.args.space.now c.args.who in
    let told = refused-merge knows c.args.who c.args.id c.args.new c.merge.result (g.S.LockSpace.own c.args.space.now c.args.who) c.requires.mergeable c.requires.idle (g.met.S.LockSpace.laws.explains _ _ _ _ _ refl c.merge.ensures) in
    rw c.in-Err.is at told
