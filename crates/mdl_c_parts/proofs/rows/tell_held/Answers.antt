-- One more ticket is written in each turn, and at the end all that fit.
use Rattle.std.proofs.Common.{◌≡◌, ◌∙◌, ℕ, ◌<◌, length, map, take, drop, ◌++◌, refl, sym, ap, arith}
use Rattle.std.proofs.lemmas.List.{length-map, length-take}
use Rattle.mdl_c_parts.specs.Rows.{held_row}
use Rattle.mdl_c_parts.proofs.WrittenLemmas.{written-all, written-more}
use Rattle.mdl_c_parts.proofs.rows.tell_held.Goals as goal

pub loop-at-preserved : goal.loop-at-preserved
loop-at-preserved c =
    let fits : c.loop-at.at < length c.args.room.now = omega (arith, length-take c.min.result c.args.tickets.now) in
    written-more held_row (take c.min.result c.args.tickets.now) c.args.room.now c.loop-at.room c.loop-at.at _ c.of.result c.loop-at-test.true fits c.loop-at.invariant c.of.ensures

pub returns : goal.returns
returns c =
    let items = take c.min.result c.args.tickets.now in
    let whole : c.loop-at.at ≡ length items = omega arith in (
      c.loop-at.invariant
          ∙ ap (λ (k : ℕ). map held_row (take k items) ++ drop k c.args.room.now) whole
          ∙ written-all held_row c.args.tickets.now items c.args.room.now c.min.result c.min.ensures refl,
      sym (length-map c.args.tickets.now held_row),
    )
