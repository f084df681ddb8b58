-- What goes is what lasts as long, and then the places where nothing is left.
use Rattle.std.proofs.Common.{List, Ok, ap, sym, subst, ◌∙◌}
use Rattle.mdl_context.specs.declared.kept.Kept.{Kept}
use Rattle.mdl_context.specs.Contexts.{ContextView, newest_first, tickets_for}
use Rattle.mdl_context.specs.Releases.{releasing_tickets}
use Rattle.mdl_context.specs.Tidying.{IsTidy}
use Rattle.mdl_context.proofs.BeyondLemmas.{run-given-up}
use Rattle.mdl_context.proofs.FrontLemmas.{without-newest}
use Rattle.mdl_context.proofs.JustLemmas.{leaves-none}
use Rattle.mdl_context.proofs.LeftPinLemmas.{none-giving_up}
use Rattle.mdl_context.proofs.OthersLemmas.{leaves, for_giving_up}
use Rattle.mdl_context.proofs.TidyLemmas.{is-tidy, let-go-after}
use Rattle.mdl_context.proofs.context.Context.finish_duration.Goals as goal

pub returns-clause-run : goal.returns-clause-run
returns-clause-run g c =
    let before : ContextView = c.args.self.now in
    let gone : List Kept = tickets_for c.args.duration before.kept in
    run-given-up g.S.LockSpace.joins (newest_first gone) before c.release_beyond.new.self c.tidy.new.self c.args.space.now c.release_beyond.new.space c.tidy.new.space c.release_beyond.ensures.run
    (c.release_beyond.ensures.kept ∙ ap (λ (kept : List Kept). let context : ContextView = record before { kept = kept } in context) (sym (without-newest gone before.kept)))
    c.tidy.ensures.run c.tidy.ensures.tidied

pub returns-clause-others : goal.returns-clause-others
returns-clause-others g c =
    let laws = g.met.S.LockSpace.laws in
    let before : ContextView = c.args.self.now in
    let gone : List Kept = newest_first (tickets_for c.args.duration before.kept) in
    leaves g.S.LockSpace laws before.who (releasing_tickets gone before) _ _ _ (for_giving_up gone before) (returns-clause-run g c)

pub returns-clause-tidy : goal.returns-clause-tidy
returns-clause-tidy g c = subst IsTidy (sym c.tidy.ensures.tidied) (is-tidy c.release_beyond.new.self)

pub returns-clause-let_go : goal.returns-clause-let_go
returns-clause-let_go g c =
    let laws = g.met.S.LockSpace.laws in
    let left = c.release_beyond.ensures.kept in
    let-go-after g.S.LockSpace laws _ c.args.space.now c.release_beyond.new.space c.tidy.new.space _ c.args.self.now c.release_beyond.new.self c.tidy.new.self
    c.requires.attends.speaks c.release_beyond.ensures.run (ap (λ (v : ContextView). v.who) left) (ap (λ (v : ContextView). v.known) left) c.tidy.ensures.let_go

pub returns-clause-just : goal.returns-clause-just
returns-clause-just g c =
    let laws = g.met.S.LockSpace.laws in
    let before : ContextView = c.args.self.now in
    let gone : List Kept = newest_first (tickets_for c.args.duration before.kept) in
    let attends = c.requires.attends in
    (leaves-none g.S.LockSpace laws c.args.space.now before attends {A = Unit {0}} (releasing_tickets gone before) c.tidy.new.space (Ok tt, c.tidy.new.self)
    (none-giving_up g.S.LockSpace laws c.args.space.now before attends gone) (returns-clause-run g c) c.tidy.ensures.attends).1
