-- The first ticket that goes tells the others by its number.
use Rattle.std.proofs.Common.{◌≡◌, [], refl, sym, ap, ◌∙◌}
use Rattle.std.specs.Prelude.{is_some}
use Rattle.mdl_context.specs.Contexts.{AreRising, beyond, newest_first, without_tickets}
use Rattle.mdl_context.proofs.BeyondLemmas.{rising-kept, gone-beyond, kept-beyond, none-beyond, without-none, same-context, run-as, run-none}
use Rattle.mdl_context.proofs.AttendLemmas.{attends-left}
use Rattle.mdl_context.proofs.ServingLemmas.{serves-left}
use Rattle.mdl_context.proofs.context.Context.release_beyond.Goals as goal

pub returns-in-Some-clause-run : goal.returns-in-Some-clause-run
returns-in-Some-clause-run g c =
    let kept = c.self.inside.holdings.kept in
    let rising : AreRising kept = rw (← c.self.view_is) at (rising-kept _ _ (g.met.S.LockSpace.laws.rising _ _ c.requires.attends.speaks) c.requires.attends.serves) in
    rw (← c.self.view_is)
    (run-as g.S.LockSpace.joins c.self.inside.who _ _ c.args.space.now c.release_all.new.space
    (ap newest_first (gone-beyond c.args.duration c.args.most c.in-Some.first kept c.nth_for.result rising c.nth_for.ensures c.in-Some.is)) c.release_all.ensures.run)

pub returns-in-Some-clause-kept : goal.returns-in-Some-clause-kept
returns-in-Some-clause-kept g c =
    let kept = c.self.inside.holdings.kept in
    let rising : AreRising kept = rw (← c.self.view_is) at (rising-kept _ _ (g.met.S.LockSpace.laws.rising _ _ c.requires.attends.speaks) c.requires.attends.serves) in
    rw (← c.self.view_is)
    (same-context c.self.inside.who _ _ _ _ _ _
    (c.release_all.ensures.kept ∙ kept-beyond c.args.duration c.args.most c.in-Some.first kept c.nth_for.result rising c.nth_for.ensures c.in-Some.is) c.release_all.ensures.known c.release_all.ensures.waits)

pub returns-in_default-clause-run : goal.returns-in_default-clause-run
returns-in_default-clause-run g c =
    rw (← c.self.view_is)
    (run-none g.S.LockSpace.joins c.self.inside.who _ c.args.space.now
    (ap newest_first (none-beyond c.args.duration c.args.most c.self.inside.holdings.kept c.nth_for.result c.nth_for.ensures c.in_default.is)))

pub returns-in_default-clause-kept : goal.returns-in_default-clause-kept
returns-in_default-clause-kept g c =
    let kept = c.self.inside.holdings.kept in
    let none : beyond c.args.duration c.args.most kept ≡ [] = none-beyond c.args.duration c.args.most kept c.nth_for.result c.nth_for.ensures c.in_default.is in
    rw (← c.self.view_is)
    (same-context c.self.inside.who _ _ _ _ _ _ (sym (ap (λ gone. without_tickets gone kept) none ∙ without-none kept)) refl refl)

pub returns-in-Some-clause-attends : goal.returns-in-Some-clause-attends
returns-in-Some-clause-attends g c =
    attends-left _ _ _ _ _ (rw (← c.self.view_is) at c.requires.attends) c.release_all.ensures.remembers c.release_all.ensures.pins c.release_all.ensures.speaks
    (serves-left _ _ _ _ (rw (← c.self.view_is) at c.requires.attends.serves) c.release_all.ensures.held c.release_all.ensures.wait c.release_all.ensures.waits)
    refl c.release_all.ensures.known c.release_all.ensures.kept c.release_all.ensures.waits (ap is_some (rw (← c.self.view_is) at c.requires.idle))
