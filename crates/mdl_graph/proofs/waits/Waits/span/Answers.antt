-- A row's pairs stand in its span, and a row without one has none.
use Rattle.std.proofs.Common.{◌≡◌, get_or, arith, sym}
use Rattle.std.proofs.lemmas.Grind.{common_steps}
use Rattle.mdl_graph.specs.Searches.{value_at}
use Rattle.mdl_graph.proofs.SpanLemmas.{span_holds, span_none}
use Rattle.mdl_graph.proofs.waits.Waits.span.Goals as goal

pub returns-in-Some-clause-row : goal.returns-in-Some-clause-row
returns-in-Some-clause-row c = λ session.
    let span : c.in-Some.span.now ≡ get_or c.self.inside.spans.items c.args.row (0, 0) = grind (arith, common_steps) in
    rw (← c.self.view_is, span) (span_holds c.self.inside.spans.items c.self.inside.pairs.now c.self.invariant c.args.row session)

pub returns-in-None-clause-row : goal.returns-in-None-clause-row
returns-in-None-clause-row c = λ session.
    let none : value_at c.self.inside.spans.items c.args.row ≡ 0 = grind (arith, common_steps) in
    rw (← c.self.view_is) (sym (span_none c.self.inside.spans.items c.self.inside.pairs.now c.self.invariant c.args.row session none))
