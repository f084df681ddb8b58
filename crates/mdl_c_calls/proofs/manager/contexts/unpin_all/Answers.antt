-- Each place that has a key is asked for once, in order.
use Rattle.std.proofs.Common.{◌+◌, ◌<◌, ◌≤◌, length, ap, ◌∙◌, refl, arith}
use Rattle.mdl_calls.specs.Words.{Unpin, done}
use Rattle.mdl_core.proofs.CallLaws.{core-keeps}
use Rattle.mdl_core.proofs.CoreSound.{calls_keep-sound}
use Rattle.mdl_core.proofs.SpaceLaws.{core-laws}
use Rattle.mdl_space.specs.CoreMembers.{core_space}
use Rattle.mdl_context.proofs.OthersLemmas.{both-leave, leaves-call, left-alone}
use Rattle.mdl_c_calls.proofs.UnpinLemmas.{gives-up, pins-none, run-all, run-over, run-unpin, unpinned-more}
use Rattle.mdl_c_calls.proofs.manager.contexts.unpin_all.Goals as goal

pub loop-index-init : goal.loop-index-init
loop-index-init c = record {
  speaks = c.requires.speaks;
  free = c.requires.free;
  books = refl;
  unpinned = λ place least most. absurd (omega (arith, least, most));
  run = run-all c.args.who (length c.args.space.now.books) c.args.space.now;
  others = left-alone core_space c.args.who c.args.space.now;
}

pub loop-index-preserved : goal.loop-index-preserved
loop-index-preserved c =
    let before = c.loop-index.invariant in
    let who = c.args.who in let index = c.loop-index.index in let now = c.loop-index.space in let next = c.unpin-answer.new.self in let answer = done c.unpin-answer.result in
    let gives = gives-up now next who (index + 1) answer before.free c.unpin-answer.ensures in
    let more : index < length c.args.space.now.books = omega (arith, c.loop-index-test.true, c.place_count-index-end.ensures) in
    record {
      speaks = core-keeps calls_keep-sound now next (Unpin who (index + 1)) answer who before.speaks c.unpin-answer.ensures;
      free = gives.free;
      books = gives.books ∙ before.books;
      unpinned = unpinned-more who index now next gives before.unpinned;
      run = λ b rest. before.run b (run-unpin who (length c.args.space.now.books) index now next b answer more c.unpin-answer.ensures rest);
      others = both-leave core_space who c.args.space.now now next before.others
          (leaves-call core_space core-laws now next (Unpin who (index + 1)) answer who refl c.unpin-answer.ensures);
    }

pub returns-clause-unpinned : goal.returns-clause-unpinned
returns-clause-unpinned c =
    let after = c.loop-index.invariant in
    let over : length c.args.space.now.books ≤ c.loop-index.index = omega (arith, c.loop-index-test.false, c.place_count-index-end.ensures) in (
      after.run c.loop-index.space (run-over c.args.who (length c.args.space.now.books) c.loop-index.index c.loop-index.space over),
      pins-none c.loop-index.space c.args.who c.loop-index.index after.speaks (omega (arith, over, ap (λ books. length books) after.books)) after.unpinned,
    )
