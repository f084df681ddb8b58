-- The graph of all books has the deadlock of the locks.
use Rattle.std.proofs.Common.{None, Some, sym, ap, ◌∙◌}
use Rattle.mdl_core.specs.Cores.{Core}
use Rattle.mdl_space.proofs.DeadlockLemmas.{victim-none, victim-same}
use Rattle.mdl_space.proofs.core_space.CoreSpace.victim_of.Goals as goal

pub returns-then-not-blocks_some : goal.returns-then-not-blocks_some
returns-then-not-blocks_some c =
    victim-none c.args.self.now c.args.who c.deref.result.now c.blocks_some.result
    (c.deref.ensures.value ∙ ap (λ (core : Core). core.books) c.self.view_is) c.blocks_some.ensures c.if-not-blocks_some.true

pub returns : goal.returns
returns c =
    victim-same c.args.self.now c.args.who c.loop-book.book-index c.loop-book.graph c.deref-book-items.result.now None c.loop-book.invariant
    (c.deref-book-items.ensures.value ∙ ap (λ (core : Core). core.books) c.self.view_is) c.loop-book-test.false
    (sym c.in-None.is ∙ c.in_ok-cycle.ensures)

pub returns-in-Some : goal.returns-in-Some
returns-in-Some c =
    ap Some c.victim.ensures
    ∙ victim-same c.args.self.now c.args.who c.loop-book.book-index c.loop-book.graph c.deref-book-items.result.now (Some c.in-Some.cycle) c.loop-book.invariant
    (c.deref-book-items.ensures.value ∙ ap (λ (core : Core). core.books) c.self.view_is) c.loop-book-test.false
    (sym c.in-Some.is ∙ c.in_ok-cycle.ensures)
