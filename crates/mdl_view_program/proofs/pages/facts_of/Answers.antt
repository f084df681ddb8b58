-- Each turn shows its line, and at the end no line is left.
use Rattle.std.proofs.Common.{arith, subst, sym}
use Rattle.mdl_lines.specs.Words.{IsScriptSession}
use Rattle.mdl_script.specs.Plays.{world_of}
use Rattle.mdl_syntax.specs.declared.script.Line.{Line}
use Rattle.mdl_view_program.proofs.PageLemmas.{all_so_far, none_so_far, one_so_far}
use Rattle.mdl_view_program.proofs.pages.facts_of.Goals as goal

pub loop-line-init : goal.loop-line-init
loop-line-init c = record {
  so_far = none_so_far c.args.lines.now (world_of c.in_ok-play.play) c.new-facts.result.items c.in_ok-play.ensures.first c.new-facts.ensures.items;
  manned = c.in_ok-play.ensures.manned;
}

pub play_line-requires : goal.play_line-requires
play_line-requires c = record {
  manned = c.loop-line.invariant.manned;
  session = subst (λ (line : Line). IsScriptSession line.session) (sym c.line-item.is) (c.requires.sessions c.loop-line.line-index _ c.loop-line-test.true);
}

pub loop-line-preserved : goal.loop-line-preserved
loop-line-preserved c = record {
  so_far = one_so_far c.args.lines.now c.loop-line.line-index c.line-item.result _ (world_of c.loop-line.play) (world_of c.play_line.new.self)
      c.books.result.now c.in_ok-facts_at.field-0 c.loop-line.facts.items c.push.new.self.items c.requires.order c.loop-line-test.true c.line-item.is
      c.in_ok-play_line.ensures.left c.books.ensures c.in_ok-facts_at.ensures c.in_ok-push.ensures.items c.loop-line.invariant.so_far;
  manned = c.in_ok-play_line.ensures.manned;
}

pub returns : goal.returns
returns c = all_so_far c.args.lines.now c.loop-line.line-index (world_of c.loop-line.play) c.loop-line.facts.items (omega arith) c.loop-line.invariant.so_far
