-- It stands before the first that it is better than.
use Rattle.std.proofs.Common.{sym, subst}
use Rattle.mdl_view.specs.Passes.{AreOrdered}
use Rattle.mdl_view.proofs.WayLemmas.{not_placed, placed_among, placed_seen}
use Rattle.mdl_view.proofs.ways_out.place_if.Goals as goal

pub returns-then-not-named-clause-put : goal.returns-then-not-named-clause-put
returns-then-not-named-clause-put c = not_placed c.args.named c.args.found.now.items c.args.way c.if-not-named.true

pub returns-clause-in_order : goal.returns-clause-in_order
returns-clause-in_order c =
    subst AreOrdered (sym c.in_ok-insert.ensures.items)
    (placed_seen c.args.found.now.items c.deref.result.now c.args.way c.place_of-place.result c.deref.ensures.value c.place_of-place.ensures.within
    c.requires.apart c.requires.in_order c.place_of-place.ensures.before c.place_of-place.ensures.at)

pub returns-clause-put : goal.returns-clause-put
returns-clause-put c =
    placed_among c.args.named c.args.found.now.items c.insert.new.self.items c.args.way c.place_of-place.result c.if-not-named.false c.in_ok-insert.ensures.items
