-- The graph's cycle among the unsettled is the deadlock of the books.
use Rattle.mdl_visits.proofs.Lemmas.{None, Some, ap, sym, victim_same, ◌∙◌}
use Rattle.mdl_visits.proofs.victim.find_victim.Goals as goal

pub returns-in-None : goal.returns-in-None
returns-in-None c = λ audited built.
    victim_same c.settled_of-settled.result c.args.words.now audited c.args.from c.args.graph.now None c.settled_of-settled.ensures built
    (sym c.in-None.is ∙ c.in_ok-cycle.ensures)

pub returns-in-Some : goal.returns-in-Some
returns-in-Some c = λ audited built.
    ap Some c.victim.ensures
    ∙ victim_same c.settled_of-settled.result c.args.words.now audited c.args.from c.args.graph.now (Some c.in-Some.cycle) c.settled_of-settled.ensures built
    (sym c.in-Some.is ∙ c.in_ok-cycle.ensures)
