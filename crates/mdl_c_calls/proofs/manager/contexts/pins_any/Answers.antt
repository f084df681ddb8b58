-- Each place that has a key is looked at, and no other can be pinned.
use Rattle.std.proofs.Common.{◌+◌, length, not, ap, sym, ◌∙◌, ◌==◌, arith}
use Rattle.mdl_core.specs.Words.{locks_at}
use Rattle.mdl_c_calls.proofs.UnpinLemmas.{one-more, pins-none, pins-some}
use Rattle.mdl_c_calls.proofs.manager.contexts.pins_any.Goals as goal

pub loop-index-init : goal.loop-index-init
loop-index-init c place least most = absurd (omega (arith, least, most))

pub loop-index-preserved : goal.loop-index-preserved
loop-index-preserved c =
    one-more c.loop-index.index (locks_at c.args.space.now c.args.who) (sym c.has_pin.ensures.pinned ∙ c.if-has_pin.false) c.loop-index.invariant

pub returns-then-has_pin : goal.returns-then-has_pin
returns-then-has_pin c =
    sym (pins-some (locks_at c.args.space.now c.args.who) (c.loop-index.index + 1) (sym c.has_pin.ensures.pinned ∙ c.if-has_pin.true))

pub returns : goal.returns
returns c =
    sym (ap (λ pins. not (length pins == 0))
    (pins-none c.args.space.now c.args.who c.loop-index.index c.requires (omega (arith, c.loop-index-test.false, c.place_count-index-end.ensures)) c.loop-index.invariant))
