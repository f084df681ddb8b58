use Rattle.std.proofs.Common.{◌∙◌, ◌+◌, ◌==◌, drop, sym, ap, rules, tests, arith}
use Rattle.std.proofs.lemmas.Grind.{common_steps}
use Rattle.std.proofs.lemmas.Iterator.Consumers.{YieldsList-at}
use Rattle.std.proofs.lemmas.Iterator.Splits.{YieldsList-from_slice_split}
use Rattle.mdl_lines.specs.Words.{lines_of}
use Rattle.mdl_lines.proofs.Items.{item_at, all_came}
use Rattle.mdl_lines.proofs.ScriptLemmas.{pieces, lines-fit}
use Rattle.mdl_client_table.specs.Forms.{with_line, with_lines}
use Rattle.mdl_client_table.proofs.LineLemmas.{all-read, one-more}
use Rattle.mdl_client_table.proofs.lines.read_lines.Goals as goal

pub overflow_add-number : goal.overflow_add-number
overflow_add-number c =
    let at = item_at c.loop-line.yielded _ c.loop-line.yielded_by c.next.result c.in-Some.line c.next.new.self c.in-Some.is c.next.ensures.steps (pieces c.args.text.now) (YieldsList-at c.into_iter-line-iterator.ensures.into_iter_gives (YieldsList-from_slice_split _ (λ byte. byte == 10) c.args.text.now c.split-line-items.ensures.rest c.split-line-items.ensures.done c.split-line-items.ensures.closure (λ x b q k. search (rules, tests)))) in
    omega (arith, at.0, lines-fit c.args.text.now)

pub loop-line-preserved : goal.loop-line-preserved
loop-line-preserved c =
    let at = item_at c.loop-line.yielded _ c.loop-line.yielded_by c.next.result c.in-Some.line c.next.new.self c.in-Some.is c.next.ensures.steps (pieces c.args.text.now) (YieldsList-at c.into_iter-line-iterator.ensures.into_iter_gives (YieldsList-from_slice_split _ (λ byte. byte == 10) c.args.text.now c.split-line-items.ensures.rest c.split-line-items.ensures.done c.split-line-items.ensures.closure (λ x b q k. search (rules, tests)))) in
    let so = c.loop-line.invariant in
    let number = c.loop-line.number in
    let left = drop (number + 1) (lines_of c.args.text.now) in
    record {
      counted = grind (arith, common_steps);
      read =
          ap (with_lines (number + 1 + 1) left) (c.in_ok-add_line.ensures ∙ ap (λ line. with_line (number + 1) line c.loop-line.reading) c.strip_carriage_return.ensures)
          ∙ sym (one-more c.args.text.now c.in-Some.line.now number _ c.loop-line.reading so.counted at) ∙ so.read;
    }

pub returns : goal.returns
returns c =
    let end = all_came c.loop-line.yielded _ c.loop-line.yielded_by c.next.result c.next.new.self c.in-None.is c.next.ensures.steps (pieces c.args.text.now) (YieldsList-at c.into_iter-line-iterator.ensures.into_iter_gives (YieldsList-from_slice_split _ (λ byte. byte == 10) c.args.text.now c.split-line-items.ensures.rest c.split-line-items.ensures.done c.split-line-items.ensures.closure (λ x b q k. search (rules, tests)))) in
    let so = c.loop-line.invariant in
    sym (all-read c.args.text.now c.loop-line.number _ c.loop-line.reading so.counted end) ∙ so.read
