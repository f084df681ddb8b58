-- The ticket goes, and then the places where nothing is left.
use Rattle.std.proofs.Common.{◌≡◌, Ok, true, false, refl, sym, ap, subst, ◌∙◌}
use Rattle.std.specs.Prelude.{is_some}
use Rattle.mdl_calls.specs.Words.{Done, Release, Ask, Give, Program, Runs}
use Rattle.mdl_context.specs.Contexts.{ContextView, has_number}
use Rattle.mdl_context.specs.Releases.{releasing}
use Rattle.mdl_context.specs.Tidying.{IsTidy}
use Rattle.mdl_context.proofs.BeyondLemmas.{run-released}
use Rattle.mdl_context.proofs.OthersLemmas.{leaves, for_releasing}
use Rattle.mdl_context.proofs.TidyLemmas.{is-tidy, let-go-after}
use Rattle.mdl_context.proofs.JustLemmas.{leaves-none}
use Rattle.mdl_context.proofs.LeftPinLemmas.{none-releasing}
use Rattle.mdl_context.proofs.context.Context.release.Goals as goal

pub release_at-requires-clause-held : goal.release_at-requires-clause-held
release_at-requires-clause-held g c = rw (← c.self.view_is) (sym c.position.ensures.has ∙ ap is_some c.in-Some.is)

pub returns-clause-run : goal.returns-clause-run
returns-clause-run g c =
    let before : ContextView = c.args.self.now in
    let held : has_number before.kept c.args.id ≡ true = rw (← c.self.view_is) (sym c.position.ensures.has ∙ ap is_some c.in-Some.is) in
    let idle : is_some before.wait ≡ false = rw (← c.self.view_is) (sym c.is_waiting.ensures ∙ c.if-is_waiting.false) in
    run-released g.S.LockSpace.joins c.args.id before c.release_at.new.self c.tidy.new.self c.args.space.now c.release_at.new.space c.tidy.new.space held idle
    c.release_at.ensures.run c.release_at.ensures.kept c.tidy.ensures.run c.tidy.ensures.tidied

pub returns-clause-others : goal.returns-clause-others
returns-clause-others g c =
    let laws = g.met.S.LockSpace.laws in
    leaves g.S.LockSpace laws c.args.self.now.who (releasing c.args.id c.args.self.now) _ _ _ (for_releasing c.args.id c.args.self.now) (returns-clause-run g c)

pub returns-clause-tidy : goal.returns-clause-tidy
returns-clause-tidy g c = subst IsTidy (sym c.tidy.ensures.tidied) (is-tidy c.release_at.new.self)

pub returns-clause-let_go : goal.returns-clause-let_go
returns-clause-let_go g c =
    let laws = g.met.S.LockSpace.laws in
    let left = c.release_at.ensures.kept in
    let call : Program (Unit {0}) = Ask (Release c.args.self.now.who c.args.id) (λ _. Give tt) in
    let run : Runs g.S.LockSpace.joins c.args.space.now call tt c.release_at.new.space = (Done, c.release_at.new.space, c.release_at.ensures.run, (refl, refl)) in
    let-go-after g.S.LockSpace laws call c.args.space.now c.release_at.new.space c.tidy.new.space tt c.args.self.now c.release_at.new.self c.tidy.new.self
    c.requires.speaks run (ap (λ (v : ContextView). v.who) left) (ap (λ (v : ContextView). v.known) left) c.tidy.ensures.let_go

pub returns-clause-just : goal.returns-clause-just
returns-clause-just g c =
    let laws = g.met.S.LockSpace.laws in
    let before = c.args.self.now in
    (leaves-none g.S.LockSpace laws c.args.space.now before c.requires (releasing c.args.id before) c.tidy.new.space (Ok tt, c.tidy.new.self)
    (none-releasing g.S.LockSpace laws c.args.space.now before c.requires c.args.id) (returns-clause-run g c) c.tidy.ensures.attends).1
