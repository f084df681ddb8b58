-- The sessions of the tickets that were looked at.
use Rattle.std.proofs.Common.{take}
use Rattle.std.specs.List.{list_any}
use Rattle.mdl_timeline.specs.Gains.{Gains}
use Rattle.mdl_timeline.proofs.WayLemmas.{holder}
use Rattle.mdl_timeline.proofs.in_the_way.add_holders.Given as goal

abbrev pub invariant-loop-held : goal.invariant-loop-held
invariant-loop-held l = Gains (λ session. list_any (holder l.book l.wish session) (take l.held-index l.granted)) l.fn.those l.those
