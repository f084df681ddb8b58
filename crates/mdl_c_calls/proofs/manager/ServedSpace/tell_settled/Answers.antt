-- Each session whose wait is settled is written behind those before it.
use Rattle.std.proofs.Common.{◌≡◌, ◌∙◌, ◌+◌, ◌≤◌, [], length, refl, sym, ap, arith}
use Rattle.mdl_c_parts.specs.Rows.{room_written}
use Rattle.mdl_c_calls.specs.Listings.{has_settled_wait, settled_sessions}
use Rattle.mdl_c_calls.specs.Managers.{Managed, session_count_of}
use Rattle.mdl_c_calls.proofs.SettledLemmas.{picked-passed, picked-put, picked_to, settled-none}
use Rattle.mdl_c_parts.proofs.WrittenLemmas.{written-none}
use Rattle.mdl_c_calls.proofs.manager.ServedSpace.tell_settled.Goals as goal
use Rattle.mdl_c_calls.proofs.manager.ServedSpace.tell_settled.Goals.{then-has_settled_wait, else-has_settled_wait}

pub returns-then-settled_waits-eq0-clause-told : goal.returns-then-settled_waits-eq0-clause-told
returns-then-settled_waits-eq0-clause-told c =
    let none : settled_sessions c.args.self.now ≡ [] = settled-none c.args.self.now (sym c.settled_waits.ensures ∙ c.if-settled_waits-eq0.true) in
    rw none (sym (written-none c.args.room.now), refl)

pub loop-index-init : goal.loop-index-init
loop-index-init c = record { written = sym (written-none c.args.room.now); counted = refl; few = omega arith; within = omega arith; same = refl }

pub loop-index-preserved : goal.loop-index-preserved
loop-index-preserved c =
    let manager = c.args.self.now in
    let index = c.loop-index.index in
    let before = c.loop-index.invariant in
    let tells : has_settled_wait manager (index + 1) ≡ c.has_settled_wait.result =
    sym (ap (λ (m : Managed). has_settled_wait m (index + 1)) before.same) ∙ sym c.has_settled_wait.ensures.told in
    let within : index + 1 ≤ session_count_of manager = omega (arith, c.loop-index-test.true, c.session_count-sessions.ensures) in
    elim c.if-has_settled_wait.branch [
      | then-has_settled_wait w ↦
          (let put = picked-put (has_settled_wait manager) c.args.room.now c.loop-index.room w.write_at.new.room index c.loop-index.count before.written before.counted
          (tells ∙ w.if-has_settled_wait.true) w.write_at.ensures in record {
            written = w.room-is ∙ put.0;
            counted = w.count-is ∙ put.1;
            few = omega (arith, w.count-is, before.few);
            within = within;
            same = c.has_settled_wait.ensures.unchanged ∙ before.same;
          })
      | else-has_settled_wait w ↦
          (let passed = picked-passed (has_settled_wait manager) index (tells ∙ w.if-has_settled_wait.false) in record {
            written = w.room-is ∙ before.written ∙ ap (λ xs. room_written xs c.args.room.now) passed;
            counted = w.count-is ∙ before.counted ∙ ap length passed;
            few = omega (arith, w.count-is, before.few);
            within = within;
            same = c.has_settled_wait.ensures.unchanged ∙ before.same;
          })
    ]

pub returns-clause-told : goal.returns-clause-told
returns-clause-told c =
    let manager = c.args.self.now in
    let whole : c.loop-index.index ≡ session_count_of manager =
    omega (arith, c.loop-index-test.false, c.loop-index.invariant.within, c.session_count-sessions.ensures) in (
      c.loop-index.invariant.written ∙ ap (λ n. room_written (picked_to (has_settled_wait manager) n) c.args.room.now) whole,
      c.loop-index.invariant.counted ∙ ap (λ n. length (picked_to (has_settled_wait manager) n)) whole,
    )
