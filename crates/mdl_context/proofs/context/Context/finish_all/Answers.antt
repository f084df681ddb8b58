-- What ends with the transaction goes first; what is left then is explicit, and goes too. Then the places go where nothing is left.
use Rattle.std.proofs.Common.{Ok, List, ◌++◌, ap, sym, subst, ◌∙◌}
use Rattle.mdl_key.specs.declared.mode.Duration.TheVariants.{Explicit}
use Rattle.mdl_context.specs.declared.kept.Kept.{Kept}
use Rattle.mdl_context.specs.Contexts.{ContextView, newest_first, of_transaction, tickets_for}
use Rattle.mdl_context.specs.Releases.{giving_up_all, releasing_tickets}
use Rattle.mdl_context.specs.Tidying.{IsTidy}
use Rattle.mdl_context.proofs.BeyondLemmas.{rising-kept, run-given-up}
use Rattle.mdl_context.proofs.LeavingLemmas.{kept-all, nothing-kept, run-all}
use Rattle.mdl_context.proofs.OthersLemmas.{leaves, for_giving_up}
use Rattle.mdl_context.proofs.TidyLemmas.{is-tidy, let-go-after}
use Rattle.mdl_context.proofs.JustLemmas.{leaves-none}
use Rattle.mdl_context.proofs.LeftPinLemmas.{none-giving_up}
use Rattle.mdl_context.proofs.context.Context.finish_all.Goals as goal

pub returns-clause-run : goal.returns-clause-run
returns-clause-run g c =
    let joins = g.S.LockSpace.joins in
    let before = c.args.self.now in
    let first = c.release_since.ensures.kept in
    let rising = rising-kept _ _ (g.met.S.LockSpace.laws.rising _ _ c.requires.attends.speaks) c.requires.attends.serves in
    run-given-up joins _ before c.release_beyond.new.self c.tidy.new.self c.args.space.now c.release_beyond.new.space c.tidy.new.space
    (run-all joins before c.release_since.new.self c.args.space.now c.release_since.new.space c.release_beyond.new.space rising first c.release_since.ensures.run c.release_beyond.ensures.run)
    (kept-all before c.release_since.new.self c.release_beyond.new.self rising first c.release_beyond.ensures.kept) c.tidy.ensures.run c.tidy.ensures.tidied

pub returns-clause-kept : goal.returns-clause-kept
returns-clause-kept g c =
    let rising = rising-kept _ _ (g.met.S.LockSpace.laws.rising _ _ c.requires.attends.speaks) c.requires.attends.serves in
    ap (λ (v : ContextView). v.kept) c.tidy.ensures.tidied
    ∙ nothing-kept c.args.self.now c.release_since.new.self c.release_beyond.new.self rising c.release_since.ensures.kept c.release_beyond.ensures.kept

pub returns-clause-others : goal.returns-clause-others
returns-clause-others g c =
    let laws = g.met.S.LockSpace.laws in
    let before : ContextView = c.args.self.now in
    let gone : List Kept = of_transaction before.kept ++ newest_first (tickets_for Explicit before.kept) in
    leaves g.S.LockSpace laws before.who (releasing_tickets gone before) _ _ _ (for_giving_up gone before) (returns-clause-run g c)

pub returns-clause-tidy : goal.returns-clause-tidy
returns-clause-tidy g c = subst IsTidy (sym c.tidy.ensures.tidied) (is-tidy c.release_beyond.new.self)

pub returns-clause-let_go : goal.returns-clause-let_go
returns-clause-let_go g c =
    let laws = g.met.S.LockSpace.laws in
    let joins = g.S.LockSpace.joins in
    let before = c.args.self.now in
    let first = c.release_since.ensures.kept in
    let rising = rising-kept _ _ (laws.rising _ _ c.requires.attends.speaks) c.requires.attends.serves in
    let left = kept-all before c.release_since.new.self c.release_beyond.new.self rising first c.release_beyond.ensures.kept in
    let run = run-all joins before c.release_since.new.self c.args.space.now c.release_since.new.space c.release_beyond.new.space rising first c.release_since.ensures.run c.release_beyond.ensures.run in
    let-go-after g.S.LockSpace laws _ c.args.space.now c.release_beyond.new.space c.tidy.new.space _ before c.release_beyond.new.self c.tidy.new.self
    c.requires.attends.speaks run (ap (λ (v : ContextView). v.who) left) (ap (λ (v : ContextView). v.known) left) c.tidy.ensures.let_go

pub returns-clause-just : goal.returns-clause-just
returns-clause-just g c =
    let laws = g.met.S.LockSpace.laws in
    let before = c.args.self.now in
    (leaves-none g.S.LockSpace laws c.args.space.now before c.requires.attends (giving_up_all before) c.tidy.new.space (Ok tt, c.tidy.new.self)
    (none-giving_up g.S.LockSpace laws c.args.space.now before c.requires.attends (of_transaction before.kept ++ newest_first (tickets_for Explicit before.kept))) (returns-clause-run g c) c.tidy.ensures.attends).1
