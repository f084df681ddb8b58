-- Each turn plays one line more.
use Rattle.std.proofs.Common.{ℕ, List, Bor, ◌∙◌, ap, map}
use Rattle.mdl_script.specs.Plays.{world_of}
use Rattle.mdl_lines.specs.Words.{line_in}
use Rattle.mdl_timeline.specs.Statements.{statement_words}
use Rattle.mdl_timeline.proofs.LineLemmas.{one-moment}
use Rattle.mdl_timeline.proofs.moments.moments_of.Goals as goal

pub loop-line-preserved : goal.loop-line-preserved
loop-line-preserved c =
    let line = c.line-item.result in
    let played = c.in_ok-play_line.ensures in
    let now = λ (line : Bor (List ℕ)). line.now in
    let words = c.deref-in-loop-line.ensures.value ∙ c.in_ok-statement.ensures
    ∙ ap (λ lines. statement_words (line_in lines line.number)) (ap (map now) c.deref.ensures.value ∙ c.in_ok-text_lines.ensures) in
    record {
      so_far = one-moment c.args.text.now c.args.lines.now c.loop-line.line-index line _ (world_of c.loop-line.play) (world_of c.play_line.new.play)
          c.deref-in-loop-line.result.now c.in_ok-play_line.field-0 c.loop-line.moments.items c.push.new.self.items _
          c.loop-line-test.true c.line-item.is c.loop-line.invariant.so_far words played.moment played.left c.in_ok-push.ensures.items;
      manned = played.manned;
    }
