-- The next ticket is slow.
use Rattle.mdl_shared.proofs.Lemmas.{arith, refl, rise_slowed, slowed_first, slowed_next, take_all, ◌∙◌}
use Rattle.mdl_shared.proofs.tickets.slow_down.Goals as goal

pub loop-own-init : goal.loop-own-init
loop-own-init c = record { items = slowed_first c.args.tickets.now.items; capacity = refl }

pub slow_one-requires : goal.slow_one-requires
slow_one-requires c = rw c.loop-own.invariant.items (rise_slowed _ c.args.tickets.now.items c.requires)

pub loop-own-preserved : goal.loop-own-preserved
loop-own-preserved c = record {
  items = slowed_next c.args.these.now c.loop-own.own-index _ c.args.tickets.now.items c.loop-own.tickets.items _ c.loop-own-test.true c.loop-own.invariant.items
      c.slow_one.ensures.items;
  capacity = c.slow_one.ensures.capacity ∙ c.loop-own.invariant.capacity;
}

pub returns-clause-items : goal.returns-clause-items
returns-clause-items c = rw (take_all c.loop-own.own-index c.args.these.now (omega arith)) at c.loop-own.invariant.items
