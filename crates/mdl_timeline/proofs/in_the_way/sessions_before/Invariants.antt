-- The sessions of the locks that were looked at.
use Rattle.std.proofs.Common.{take}
use Rattle.std.specs.FinSet as set
use Rattle.mdl_graph.specs.WaitsFor.{waits_for}
use Rattle.mdl_view.specs.ViewLaws.{nobody}
use Rattle.mdl_timeline.specs.Gains.{Gains}
use Rattle.mdl_timeline.proofs.in_the_way.sessions_before.Given as goal

abbrev pub invariant-loop-book : goal.invariant-loop-book
invariant-loop-book l = Gains (waits_for nobody (take l.book-index l.books) l.who) set.empty l.those
