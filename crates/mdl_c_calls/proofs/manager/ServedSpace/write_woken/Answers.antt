-- Each session whose wait is newly settled is written behind those before it.
use Rattle.std.proofs.Common.{◌≡◌, ◌∙◌, ◌+◌, ◌≤◌, length, refl, sym, ap, arith}
use Rattle.mdl_c_parts.specs.Rows.{room_written}
use Rattle.mdl_c_calls.specs.Listings.{is_newly_settled}
use Rattle.mdl_c_calls.specs.Managers.{Managed, session_count_of}
use Rattle.mdl_c_calls.proofs.SettledLemmas.{picked-passed, picked-put, picked_to}
use Rattle.mdl_c_parts.proofs.WrittenLemmas.{written-none}
use Rattle.mdl_c_calls.proofs.manager.ServedSpace.write_woken.Goals as goal
use Rattle.mdl_c_calls.proofs.manager.ServedSpace.write_woken.Goals.{then-is_newly_settled, else-is_newly_settled}

pub loop-index-init : goal.loop-index-init
loop-index-init c = record { written = sym (written-none c.args.room.now); counted = refl; few = omega arith; within = omega arith; same = refl }

pub loop-index-preserved : goal.loop-index-preserved
loop-index-preserved c =
    let manager = c.args.self.now in
    let is_new = is_newly_settled manager c.args.told.now in
    let index = c.loop-index.index in
    let before = c.loop-index.invariant in
    let tells : is_new (index + 1) ≡ c.is_newly_settled.result =
    sym (ap (λ (m : Managed). is_newly_settled m c.args.told.now (index + 1)) before.same) ∙ sym c.is_newly_settled.ensures.told in
    let within : index + 1 ≤ session_count_of manager = omega (arith, c.loop-index-test.true, c.session_count-sessions.ensures) in
    elim c.if-is_newly_settled.branch [
      | then-is_newly_settled w ↦
          (let put = picked-put is_new c.args.room.now c.loop-index.room w.write_at.new.room index c.loop-index.count before.written before.counted
          (tells ∙ w.if-is_newly_settled.true) w.write_at.ensures in record {
            written = w.room-is ∙ put.0;
            counted = w.count-is ∙ put.1;
            few = omega (arith, w.count-is, before.few);
            within = within;
            same = c.is_newly_settled.ensures.unchanged ∙ before.same;
          })
      | else-is_newly_settled w ↦
          (let passed = picked-passed is_new index (tells ∙ w.if-is_newly_settled.false) in record {
            written = w.room-is ∙ before.written ∙ ap (λ xs. room_written xs c.args.room.now) passed;
            counted = w.count-is ∙ before.counted ∙ ap length passed;
            few = omega (arith, w.count-is, before.few);
            within = within;
            same = c.is_newly_settled.ensures.unchanged ∙ before.same;
          })
    ]

pub returns-clause-told : goal.returns-clause-told
returns-clause-told c =
    let is_new = is_newly_settled c.args.self.now c.args.told.now in
    let whole : c.loop-index.index ≡ session_count_of c.args.self.now =
    omega (arith, c.loop-index-test.false, c.loop-index.invariant.within, c.session_count-sessions.ensures) in (
      c.loop-index.invariant.written ∙ ap (λ n. room_written (picked_to is_new n) c.args.room.now) whole,
      c.loop-index.invariant.counted ∙ ap (λ n. length (picked_to is_new n)) whole,
    )
