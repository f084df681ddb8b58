-- It isn't better than this one.
use Rattle.std.proofs.Common.{◌≡◌, ◌∙◌, false, sym}
use Rattle.std.proofs.lemmas.List.Elements.{AllWithin-more}
use Rattle.mdl_view.specs.Ways.{is_better}
use Rattle.mdl_view.proofs.WayLemmas.{read_any}
use Rattle.mdl_view.proofs.ways_out.place_of.Goals as goal

pub loop-place-preserved : goal.loop-place-preserved
loop-place-preserved c =
    AllWithin-more (λ other. is_better c.args.way other ≡ false) c.args.found.now 0 c.loop-place.place c.loop-place.invariant
    (read_any (λ other. is_better c.args.way other ≡ false) c.args.found.now c.loop-place.place _ c.loop-place-test.true
    (sym c.is_better.ensures ∙ c.if-is_better.false))
