-- The victim is the weakest of the member that was kept and those to come.
use Rattle.std.proofs.Common.{◌≡◌, drop}
use Rattle.mdl_graph.specs.Victims.{weakest, victim_of}
use Rattle.mdl_graph.proofs.cycle.victim.Given as goal

abbrev pub invariant-loop-member : goal.invariant-loop-member
invariant-loop-member l = (weakest l.weakest (drop l.member-index l.member-items)).session ≡ victim_of l.cycle
