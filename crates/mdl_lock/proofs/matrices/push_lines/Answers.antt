-- A mode of the kind adds its line, and another adds nothing.
use Rattle.std.proofs.Common.{◌++◌, sym, ap, ◌∙◌}
use Rattle.std.specs.String.{string_bytes}
use Rattle.mdl_key.specs.declared.mode.Mode.TheVariants.{IX}
use Rattle.mdl_key.specs.Modes.{all_modes, is_mode_of}
use Rattle.mdl_lock.specs.MatrixText.{line_of}
use Rattle.mdl_lock.proofs.MatrixRows.{written_more, passed_over}
use Rattle.mdl_lock.proofs.matrices.push_lines.Goals as goal
use Rattle.mdl_lock.proofs.matrices.push_lines.Goals.{then-has_mode+in_ok-line+in_ok-push_str, else-has_mode}

pub loop-ask-preserved : goal.loop-ask-preserved
loop-ask-preserved c =
    let loop = c.loop-ask in
    let line = line_of c.args.kind c.args.matrix in
    let has = is_mode_of c.args.kind in
    elim c.if-has_mode.branch [
      | then-has_mode+in_ok-line+in_ok-push_str w ↦
          written_more line has all_modes loop.ask-index IX c.loop-ask-test.true (string_bytes c.args.text.now) (string_bytes loop.text) (string_bytes c.if-has_mode.text) loop.invariant (sym c.has_mode.ensures ∙ w.if-has_mode.true)
          (ap string_bytes w.text-is ∙ w.in_ok-push_str.ensures.bytes ∙ ap (λ t. string_bytes loop.text ++ t) (w.deref.ensures ∙ w.in_ok-line.ensures))
      | else-has_mode w ↦
          rw (ap string_bytes w.text-is) (passed_over line has all_modes loop.ask-index IX c.loop-ask-test.true (string_bytes c.args.text.now) (string_bytes loop.text) loop.invariant (sym c.has_mode.ensures ∙ w.if-has_mode.false))
    ]
