-- No blank is behind.
use Rattle.std.proofs.Common.{◌≡◌, ◌-◌}
use Rattle.mdl_picture.specs.Texts.{blank_before}
use Rattle.mdl_picture.proofs.lines.blank_before.Given as goal

abbrev pub invariant-loop-back : goal.invariant-loop-back
invariant-loop-back l = blank_before l.text (l.end - l.back) ≡ blank_before l.text l.end
