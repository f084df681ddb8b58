-- Each turn plays one line more.
use Rattle.std.proofs.Common.{◌++◌, ap, ◌∙◌}
use Rattle.std.specs.String.{string_bytes}
use Rattle.mdl_script.specs.Plays.{world_of}
use Rattle.mdl_script.specs.Texts.{told_text}
use Rattle.mdl_script.specs.Worlds.{line_played}
use Rattle.mdl_script.proofs.SettleLemmas.{one-line, text-line}
use Rattle.mdl_script.proofs.replaying.play_lines.Goals as goal

pub loop-line-preserved : goal.loop-line-preserved
loop-line-preserved c =
    let played = c.in_ok-play_line.ensures in
    let printed = text-line c.loop-line.told.items (line_played c.line-item.result (world_of c.loop-line.play)).told c.play_line.new.told.items
    (string_bytes c.loop-line.out) (string_bytes c.push_all_told.new.out) c.loop-line.invariant.none played.told
    (c.in_ok-push_all_told.ensures ∙ ap (λ ts. string_bytes c.loop-line.out ++ told_text ts) c.deref.ensures.value) in
    let turn = one-line c.args.lines.now c.loop-line.line-index c.line-item.result _ c.loop-line.play c.play_line.new.self (string_bytes c.loop-line.out) (string_bytes c.push_all_told.new.out) _ _
    c.loop-line-test.true c.line-item.is c.loop-line.invariant.told c.loop-line.invariant.left printed played.left in
    record { told = turn.0; left = turn.1; manned = played.manned; none = c.clear.ensures.items }
