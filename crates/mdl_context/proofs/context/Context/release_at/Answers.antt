-- What is kept is held.
use Rattle.std.proofs.Common.{refl, ap}
use Rattle.std.specs.Prelude.{is_some}
use Rattle.mdl_calls.specs.Words.{SessionLocks}
use Rattle.mdl_context.proofs.AttendLemmas.{attends-left}
use Rattle.mdl_context.proofs.BeyondLemmas.{holds-kept, serves-without}
use Rattle.mdl_context.proofs.context.Context.release_at.Goals as goal

pub release-requires-clause-held : goal.release-requires-clause-held
release-requires-clause-held g c =
    holds-kept c.args.id _ _ (rw (← c.self.view_is) at c.requires.attends.serves) (rw (← c.self.view_is) at c.requires.held)

pub returns-clause-attends : goal.returns-clause-attends
returns-clause-attends g c =
    attends-left _ _ _ _ _ (rw (← c.self.view_is) at c.requires.attends) c.release.ensures.remembers (ap (λ (own : SessionLocks). own.pins) c.release.ensures.own) c.release.ensures.speaks
    (serves-without c.args.id _ _ _ _ (rw (← c.self.view_is) at c.requires.attends.serves) c.release.ensures.own c.remove.ensures.kept c.remove.ensures.wait)
    refl c.remove.ensures.known c.remove.ensures.kept c.remove.ensures.wait (ap is_some (rw (← c.self.view_is) at c.requires.idle))
