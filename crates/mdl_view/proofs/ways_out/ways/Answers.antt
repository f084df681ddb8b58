-- All sessions that block somebody alone are below the bound.
use Rattle.std.proofs.Common.{◌∙◌, arith, subst, sym}
use Rattle.mdl_view.specs.Passes.{AreWaysBelow, frees_some}
use Rattle.mdl_view.specs.SessionSets.{has}
use Rattle.mdl_view.proofs.WayLemmas.{no_ways, not_alone, ways_all}
use Rattle.mdl_view.proofs.ways_out.ways.Goals as goal

pub loop-session-init : goal.loop-session-init
loop-session-init c = subst (AreWaysBelow c.args.locks.now 0) (sym c.new-found.ensures.items) (no_ways c.args.locks.now)

pub returns : goal.returns
returns c =
    ways_all c.args.locks.now c.loop-session.session c.loop-session.found.items
    (λ session over. not_alone (frees_some c.args.locks.now session) (has c.in_ok-candidates.candidates session) (c.in_ok-candidates.ensures.some session)
    (c.bound-session-end.ensures session (omega (arith, c.loop-session-test.false)) ∙ c.in_ok-candidates.ensures.rest))
    c.loop-session.invariant
