-- The way is better than none of those so far.
use Rattle.std.proofs.Common.{◌≡◌, false}
use Rattle.std.specs.List.{AllWithin}
use Rattle.mdl_view.specs.Ways.{is_better}
use Rattle.mdl_view.proofs.ways_out.place_of.Given as goal

abbrev pub invariant-loop-place : goal.invariant-loop-place
invariant-loop-place l = AllWithin (λ other. is_better l.way other ≡ false) l.found 0 l.place
