-- The tickets of the key go, and then the places where nothing is left.
use Rattle.std.proofs.Common.{◌≡◌, Ok, List, false, sym, ap, subst, ◌∙◌}
use Rattle.std.specs.Prelude.{is_some}
use Rattle.mdl_context.specs.declared.kept.Kept.{Kept}
use Rattle.mdl_context.specs.Contexts.{ContextView, newest_first, place_known}
use Rattle.mdl_context.specs.Releases.{at_known_place, releasing_name, releasing_tickets, waiting_fault}
use Rattle.mdl_context.specs.Tidying.{IsTidy}
use Rattle.mdl_context.proofs.BeyondLemmas.{no-wait, run-given-up, run-unless}
use Rattle.mdl_context.proofs.FrontLemmas.{without-newest}
use Rattle.mdl_context.proofs.OthersLemmas.{leaves, for_giving_up}
use Rattle.mdl_context.proofs.TidyLemmas.{is-tidy, let-go-after}
use Rattle.mdl_context.proofs.JustLemmas.{leaves-none}
use Rattle.mdl_context.proofs.LeftPinLemmas.{none-giving_up_unless}
use Rattle.mdl_context.proofs.context.Context.release_name.Goals as goal

pub returns-clause-run : goal.returns-clause-run
returns-clause-run g c =
    let joins = g.S.LockSpace.joins in
    let before : ContextView = c.args.self.now in
    let gone = at_known_place (place_known c.args.key.now before.known) before.kept in
    let idle : is_some before.wait ≡ false = rw (← c.self.view_is) (sym c.is_waiting.ensures ∙ c.if-is_waiting.false) in
    let run = run-given-up joins (newest_first gone) before c.release_key.new.self c.tidy.new.self c.args.space.now c.release_key.new.space c.tidy.new.space c.release_key.ensures.run
    (c.release_key.ensures.kept ∙ ap (λ (kept : List Kept). let context : ContextView = record before { kept = kept } in context) (sym (without-newest gone before.kept)))
    c.tidy.ensures.run c.tidy.ensures.tidied in
    run-unless joins _ before (releasing_tickets (newest_first gone) before) c.args.space.now c.tidy.new.space _ (no-wait before idle) run

pub returns-clause-others : goal.returns-clause-others
returns-clause-others g c =
    let joins = g.S.LockSpace.joins in
    let laws = g.met.S.LockSpace.laws in
    let before : ContextView = c.args.self.now in
    let gone = at_known_place (place_known c.args.key.now before.known) before.kept in
    let run = run-given-up joins (newest_first gone) before c.release_key.new.self c.tidy.new.self c.args.space.now c.release_key.new.space c.tidy.new.space c.release_key.ensures.run
    (c.release_key.ensures.kept ∙ ap (λ (kept : List Kept). let context : ContextView = record before { kept = kept } in context) (sym (without-newest gone before.kept)))
    c.tidy.ensures.run c.tidy.ensures.tidied in
    leaves g.S.LockSpace laws before.who (releasing_tickets (newest_first gone) before) _ _ _ (for_giving_up (newest_first gone) before) run

pub returns-clause-tidy : goal.returns-clause-tidy
returns-clause-tidy g c = subst IsTidy (sym c.tidy.ensures.tidied) (is-tidy c.release_key.new.self)

pub returns-clause-let_go : goal.returns-clause-let_go
returns-clause-let_go g c =
    let laws = g.met.S.LockSpace.laws in
    let left = c.release_key.ensures.kept in
    let-go-after g.S.LockSpace laws _ c.args.space.now c.release_key.new.space c.tidy.new.space tt c.args.self.now c.release_key.new.self c.tidy.new.self
    c.requires.speaks c.release_key.ensures.run (ap (λ (v : ContextView). v.who) left) (ap (λ (v : ContextView). v.known) left) c.tidy.ensures.let_go

pub returns-clause-just : goal.returns-clause-just
returns-clause-just g c =
    let laws = g.met.S.LockSpace.laws in
    let before = c.args.self.now in
    (leaves-none g.S.LockSpace laws c.args.space.now before c.requires (releasing_name c.args.key.now before) c.tidy.new.space (Ok tt, c.tidy.new.self)
    (none-giving_up_unless g.S.LockSpace laws c.args.space.now before c.requires (waiting_fault before) (newest_first (at_known_place (place_known c.args.key.now before.known) before.kept))) (returns-clause-run g c) c.tidy.ensures.attends).1
