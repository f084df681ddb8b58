-- One more row of a class.
use Rattle.std.proofs.Common.{◌≡◌, ◌<◌, ◌∙◌, length, take, set, sym, ap, arith}
use Rattle.std.proofs.lemmas.List.{length-map}
use Rattle.mdl_lock_rows.specs.declared.row_class.LeftOut.{LeftOut}
use Rattle.mdl_lock_rows.specs.Numbering.{counted_among, with_one}
use Rattle.mdl_lock_rows.specs.Tables.{changed_at}
use Rattle.mdl_lock_rows.proofs.GrowLemmas.{changed-set}
use Rattle.mdl_lock_rows.proofs.TableLemmas.{count-few, counts-more}
use Rattle.mdl_lock_rows.proofs.left_out.counted.Goals.{in-Some, in_default}
use Rattle.mdl_lock_rows.proofs.left_out.counted.Goals as goal

pub add_one-requires-clause-count : goal.add_one-requires-clause-count
add_one-requires-clause-count c =
    let few = count-few c.args.rows.now c.loop-row.row-index c.row-item.result c.loop-row-test.true c.row-item.is c.args.known.now.keys
    c.loop-row.left_out.items c.in-Some.place c.index_mut.result.now c.loop-row.invariant c.in-Some.ensures.within in
    omega (arith, few.0, ap (λ (one : LeftOut). one.count) c.index_mut.ensures.value, c.loop-row-test.true, c.loop-row.auto.row-index-end)

pub add_one-requires-clause-waiting : goal.add_one-requires-clause-waiting
add_one-requires-clause-waiting c =
    let few = count-few c.args.rows.now c.loop-row.row-index c.row-item.result c.loop-row-test.true c.row-item.is c.args.known.now.keys
    c.loop-row.left_out.items c.in-Some.place c.index_mut.result.now c.loop-row.invariant c.in-Some.ensures.within in
    omega (arith, few.1, ap (λ (one : LeftOut). one.waiting) c.index_mut.ensures.value, c.loop-row-test.true, c.loop-row.auto.row-index-end)

pub loop-row-preserved : goal.loop-row-preserved
loop-row-preserved c =
    let make = with_one c.row-item.result.is_waiting in
    let more = counts-more c.args.rows.now c.loop-row.row-index c.row-item.result c.loop-row-test.true c.row-item.is c.args.known.now.keys
    c.loop-row.left_out.items c.match-get_index_of.left_out.items c.as_slice.ensures.unique c.loop-row.invariant in
    more (elim c.match-get_index_of.branch [
      | in-Some w ↦
          let list = c.loop-row.left_out.items in
          let place = w.in-Some.place in
          let many : length list ≡ length c.args.known.now.keys = ap length c.loop-row.invariant ∙ length-map c.args.known.now.keys (counted_among (take c.loop-row.row-index c.args.rows.now)) in
          let inside : place < length list = omega (arith, many, w.in-Some.ensures.within) in
          ap (λ left_out. left_out.items) w.left_out-is ∙ ap (λ (one : LeftOut). set list place one) (w.add_one.ensures ∙ ap make w.index_mut.ensures.value)
          ∙ sym (changed-set make list place w.index_mut.result.now inside) ∙ ap (λ found. changed_at found make list) (sym w.in-Some.is ∙ c.get_index_of.ensures.index)
      | in_default w ↦
          ap (λ left_out. left_out.items) w.left_out-is
          ∙ ap (λ found. changed_at found make c.loop-row.left_out.items) (sym w.in_default.is ∙ c.get_index_of.ensures.index)
    ])
