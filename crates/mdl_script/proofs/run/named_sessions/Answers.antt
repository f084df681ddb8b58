-- The session of each line is put into the set.
use Rattle.std.proofs.Common.{◌≡◌, List, take, sym, ◌∙◌, subst}
use Rattle.std.specs.FinSet as set
use Rattle.std.specs.Ordering.{nat_cmp}
use Rattle.std.proofs.lemmas.List.{take_all}
use Rattle.mdl_syntax.specs.declared.script.Line.{Line}
use Rattle.mdl_script.proofs.NamedLemmas.{HasNamed, one-named, one-passed}
use Rattle.mdl_script.proofs.run.named_sessions.Goals as goal
use Rattle.mdl_script.proofs.run.named_sessions.Goals.{then-is_session, else-is_session}

pub loop-line-init : goal.loop-line-init
loop-line-init c = rw c.new-named.ensures (λ who least most. set.contains-empty nat_cmp who)

pub loop-line-preserved : goal.loop-line-preserved
loop-line-preserved c =
    elim c.if-is_session.branch [
      | then-is_session w ↦ rw (w.named-is, w.insert.ensures)
          (one-named c.loop-line.named c.lines-lines.result.now c.loop-line.line-index c.line-item.result c.loop-line-test.true c.line-item.is c.loop-line.invariant)
      | else-is_session w ↦ rw w.named-is
          (one-passed c.loop-line.named c.lines-lines.result.now c.loop-line.line-index c.line-item.result c.loop-line-test.true c.line-item.is c.loop-line.invariant
          (sym c.is_session.ensures ∙ w.if-is_session.false))
    ]

pub returns : goal.returns
returns c =
    let whole : take c.loop-line.line-index c.lines-lines.result.now ≡ c.args.script.now =
    take_all c.loop-line.line-index c.lines-lines.result.now c.loop-line-test.false ∙ c.lines-lines.ensures in
    subst (λ (lines : List Line). HasNamed lines c.loop-line.named) whole c.loop-line.invariant
