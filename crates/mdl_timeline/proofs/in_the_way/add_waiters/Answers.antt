-- The sessions of all that are in the way were added.
use Rattle.std.proofs.Common.{◌∙◌, subst}
use Rattle.std.specs.List.{list_any}
use Rattle.std.proofs.lemmas.List.{take_all}
use Rattle.mdl_timeline.specs.Gains.{Gains}
use Rattle.mdl_timeline.proofs.WayLemmas.{gains-waiters, waiter}
use Rattle.mdl_timeline.proofs.in_the_way.add_waiters.Goals as goal

pub returns : goal.returns
returns c =
    let book = c.args.book.now in
    gains-waiters book c.args.wish c.args.those.now c.loop-pending.those
    (subst (λ tickets. Gains (λ session. list_any (waiter book c.args.wish session) tickets) c.args.those.now c.loop-pending.those)
    (take_all c.loop-pending.pending-index c.waiting-waiting.result.now c.loop-pending-test.false ∙ c.waiting-waiting.ensures) c.loop-pending.invariant)
