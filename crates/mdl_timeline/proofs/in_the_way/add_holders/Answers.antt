-- The sessions of all that are in the way were added.
use Rattle.std.proofs.Common.{◌∙◌, subst}
use Rattle.std.specs.List.{list_any}
use Rattle.std.proofs.lemmas.List.{take_all}
use Rattle.mdl_timeline.specs.Gains.{Gains}
use Rattle.mdl_timeline.proofs.WayLemmas.{gains-holders, holder}
use Rattle.mdl_timeline.proofs.in_the_way.add_holders.Goals as goal

pub returns : goal.returns
returns c =
    let book = c.args.book.now in
    gains-holders book c.args.wish c.args.those.now c.loop-held.those
    (subst (λ tickets. Gains (λ session. list_any (holder book c.args.wish session) tickets) c.args.those.now c.loop-held.those)
    (take_all c.loop-held.held-index c.granted-granted.result.now c.loop-held-test.false ∙ c.granted-granted.ensures) c.loop-held.invariant)
