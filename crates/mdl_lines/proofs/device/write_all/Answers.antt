-- Each turn writes a little more of the text.
use Rattle.std.proofs.Common.{◌≡◌, ◌-◌, length, drop, take, length-drop, arith}
use Rattle.std.proofs.lemmas.List.{take_all}
use Rattle.mdl_lines.proofs.DeviceLemmas.{appends_more}
use Rattle.mdl_lines.proofs.device.write_all.Goals as goal

pub loop-preserved : goal.loop-preserved
loop-preserved g c =
    let text = c.args.text.now in
    let done = c.loop.done in
    let some = c.in_ok-done.ensures.some in
    let rest : take (length text - done) (drop done text) ≡ drop done text = take_all (length text - done) (drop done text) (omega (arith, length-drop done text)) in
    record {
      inside = omega (arith, length-drop done text, rw rest at some.0);
      written = appends_more _ _ _ text done c.in_ok-done.field-0 c.loop.invariant.written (rw rest at some.1);
    }
