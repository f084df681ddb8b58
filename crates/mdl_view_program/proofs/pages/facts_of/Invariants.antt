-- What was played so far and is shown of it.
use Rattle.mdl_script.specs.Plays.{IsManned, world_of}
use Rattle.mdl_view_program.proofs.PageLemmas.{SoFar}
use Rattle.mdl_view_program.proofs.pages.facts_of.Given as goal

abbrev pub invariant-loop-line : goal.invariant-loop-line
invariant-loop-line l = record { so_far : SoFar l.lines l.line-index (world_of l.play) l.facts.items; manned : IsManned l.play }
