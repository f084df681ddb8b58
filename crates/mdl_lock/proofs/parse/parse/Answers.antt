use Rattle.std.proofs.Common.{◌≡◌, Ok, Err, Some, None, [], ◌∷◌, ◌++◌, ◌+◌, drop, ◌==◌, refl, sym, ap, ◌∙◌, rules, tests, arith}
use Rattle.std.specs.Str.Lines.{strip_carriage_return}
use Rattle.std.proofs.lemmas.Grind.{common_steps}
use Rattle.std.proofs.lemmas.Iterator.Consumers.{YieldsList-at}
use Rattle.std.proofs.lemmas.Iterator.Splits.{YieldsList-from_slice_split}
use Rattle.std.specs.List.{All}
use Rattle.std.proofs.lemmas.Result.{IfOk-at_ok}
use Rattle.mdl_lines.specs.Lines.{lines_of}
use Rattle.mdl_lines.specs.ScriptLines.{all_said}
use Rattle.mdl_lock.specs.Scripts.{line_says}
use Rattle.mdl_lock.specs.Locks.{IsNumbered}
use Rattle.mdl_lines.proofs.ScriptLemmas.{joined, joined-said, pieces, left-said, all_read, lines-fit}
use Rattle.mdl_lock.proofs.Reading.{parsed-sessions}
use Rattle.mdl_lines.proofs.Items.{item_at, all_came}
use Rattle.mdl_lock.proofs.parse.parse.Goals as goal

pub overflow_add-number : goal.overflow_add-number
overflow_add-number c =
    let at = item_at c.loop-line.yielded _ c.loop-line.yielded_by c.next.result c.in-Some.line c.next.new.self c.in-Some.is c.next.ensures.steps (pieces c.args.text.now) (YieldsList-at c.into_iter-line-iterator.ensures.into_iter_gives (YieldsList-from_slice_split _ (λ byte. byte == 10) c.args.text.now c.split-line-items.ensures.rest c.split-line-items.ensures.done c.split-line-items.ensures.closure (λ x b q k. search (rules, tests)))) in
    omega (arith, at.0, lines-fit c.args.text.now)

pub loop-line-preserved : goal.loop-line-preserved
loop-line-preserved c =
    let at = item_at c.loop-line.yielded _ c.loop-line.yielded_by c.next.result c.in-Some.line c.next.new.self c.in-Some.is c.next.ensures.steps (pieces c.args.text.now) (YieldsList-at c.into_iter-line-iterator.ensures.into_iter_gives (YieldsList-from_slice_split _ (λ byte. byte == 10) c.args.text.now c.split-line-items.ensures.rest c.split-line-items.ensures.done c.split-line-items.ensures.closure (λ x b q k. search (rules, tests)))) in
    let so = c.loop-line.invariant in
    let says : Ok None ≡ line_says c.args.kind (strip_carriage_return c.in-Some.line.now) = ap Ok (sym c.in-Ok-None.field-0-is) ∙ sym c.in-Ok-None.is ∙ c.line_says.ensures ∙ ap (line_says c.args.kind) c.strip_carriage_return.ensures in
    let left = left-said (line_says c.args.kind) c.args.text.now c.in-Some.line.now _ _ _ so.counted at says in
    record { counted = grind (arith, common_steps); so_far = so.so_far; read = so.read ∙ ap (joined so.so_far) left; kept = so.kept }

pub loop-line-preserved-in-Ok-Some : goal.loop-line-preserved-in-Ok-Some
loop-line-preserved-in-Ok-Some c =
    let at = item_at c.loop-line.yielded _ c.loop-line.yielded_by c.next.result c.in-Some.line c.next.new.self c.in-Some.is c.next.ensures.steps (pieces c.args.text.now) (YieldsList-at c.into_iter-line-iterator.ensures.into_iter_gives (YieldsList-from_slice_split _ (λ byte. byte == 10) c.args.text.now c.split-line-items.ensures.rest c.split-line-items.ensures.done c.split-line-items.ensures.closure (λ x b q k. search (rules, tests)))) in
    let so = c.loop-line.invariant in
    let command = c.in-Ok-Some.command in
    let says : Ok (Some command) ≡ line_says c.args.kind (strip_carriage_return c.in-Some.line.now) = ap Ok (sym c.in-Ok-Some.field-0-is) ∙ sym c.in-Ok-Some.is ∙ c.line_says.ensures ∙ ap (line_says c.args.kind) c.strip_carriage_return.ensures in
    let left = left-said (line_says c.args.kind) c.args.text.now c.in-Some.line.now _ _ _ so.counted at says in
    let rest = all_said (line_says c.args.kind) (c.loop-line.number + 1 + 1) (drop (c.loop-line.number + 1) (lines_of c.args.text.now)) in
    record {
      counted = grind (arith, common_steps);
      so_far = so.so_far ++ command ∷ [];
      read = so.read ∙ ap (joined so.so_far) left ∙ joined-said so.so_far (c.loop-line.number + 1) command rest;
      kept = λ room. let pushed = c.push_in_room-has_room.ensures room in ap (λ before. before ++ command ∷ []) (so.kept pushed.0) ∙ sym pushed.1;
    }

pub returns-in-Err-clause-refused : goal.returns-in-Err-clause-refused
returns-in-Err-clause-refused c =
    let at = item_at c.loop-line.yielded _ c.loop-line.yielded_by c.next.result c.in-Some.line c.next.new.self c.in-Some.is c.next.ensures.steps (pieces c.args.text.now) (YieldsList-at c.into_iter-line-iterator.ensures.into_iter_gives (YieldsList-from_slice_split _ (λ byte. byte == 10) c.args.text.now c.split-line-items.ensures.rest c.split-line-items.ensures.done c.split-line-items.ensures.closure (λ x b q k. search (rules, tests)))) in
    let says : Err c.in-Err.error ≡ line_says c.args.kind (strip_carriage_return c.in-Some.line.now) = sym c.in-Err.is ∙ c.line_says.ensures ∙ ap (line_says c.args.kind) c.strip_carriage_return.ensures in
    c.loop-line.invariant.read ∙ ap (joined c.loop-line.invariant.so_far) (left-said (line_says c.args.kind) c.args.text.now c.in-Some.line.now _ _ _ c.loop-line.invariant.counted at says)

pub returns-then-has_room : goal.returns-then-has_room
returns-then-has_room c =
    let end = all_came c.loop-line.yielded _ c.loop-line.yielded_by c.next.result c.next.new.self c.in-None.is c.next.ensures.steps (pieces c.args.text.now) (YieldsList-at c.into_iter-line-iterator.ensures.into_iter_gives (YieldsList-from_slice_split _ (λ byte. byte == 10) c.args.text.now c.split-line-items.ensures.rest c.split-line-items.ensures.done c.split-line-items.ensures.closure (λ x b q k. search (rules, tests)))) in
    let so = c.loop-line.invariant in
    let read = all_read (line_says c.args.kind) c.args.text.now _ _ so.so_far so.counted end so.read ∙ ap Ok (so.kept c.if-has_room.true) in
    record { parsed = read; refused = tt; sessions = IfOk-at_ok (All IsNumbered) read (parsed-sessions c.args.kind c.args.text.now) }

pub returns-else-has_room-clause-refused : goal.returns-else-has_room-clause-refused
returns-else-has_room-clause-refused c =
    let end = all_came c.loop-line.yielded _ c.loop-line.yielded_by c.next.result c.next.new.self c.in-None.is c.next.ensures.steps (pieces c.args.text.now) (YieldsList-at c.into_iter-line-iterator.ensures.into_iter_gives (YieldsList-from_slice_split _ (λ byte. byte == 10) c.args.text.now c.split-line-items.ensures.rest c.split-line-items.ensures.done c.split-line-items.ensures.closure (λ x b q k. search (rules, tests)))) in
    let so = c.loop-line.invariant in
    let read = all_read (line_says c.args.kind) c.args.text.now _ _ so.so_far so.counted end so.read in
    rw read refl
