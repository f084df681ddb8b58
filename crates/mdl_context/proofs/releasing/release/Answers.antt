-- What is held can be released.
use Rattle.std.proofs.Common.{refl}
use Rattle.mdl_calls.specs.Causes.{Knowledge}
use Rattle.mdl_context.proofs.AttendLemmas.{known-still}
use Rattle.mdl_context.proofs.ReleaseLemmas.{is_ok-released, done-ok}
use Rattle.mdl_context.proofs.releasing.release.Goals as goal

pub unwrap-requires : goal.unwrap-requires
unwrap-requires g c =
    let knows : Knowledge = g.S.LockSpace.knows c.args.space.now c.args.who in
    is_ok-released knows c.args.who c.args.id c.release.result _ (g.met.S.LockSpace.laws.explains _ _ _ _ _ refl c.release.ensures) c.requires.held

pub returns-clause-own : goal.returns-clause-own
returns-clause-own g c =
    let knows : Knowledge = g.S.LockSpace.knows c.args.space.now c.args.who in
    let ok = is_ok-released knows c.args.who c.args.id c.release.result _ (g.met.S.LockSpace.laws.explains _ _ _ _ _ refl c.release.ensures) c.requires.held in
    g.met.S.LockSpace.laws.changes _ _ _ _ _ refl (rw (done-ok c.release.result ok) at c.release.ensures)

pub returns-clause-remembers : goal.returns-clause-remembers
returns-clause-remembers g c =
    let laws = g.met.S.LockSpace.laws in
    known-still g.S.LockSpace laws _ _ _ _ _ c.requires.speaks refl c.release.ensures
