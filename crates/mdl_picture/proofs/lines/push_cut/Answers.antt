-- The beginning of a line is within it.
use Rattle.std.proofs.Common.{◌≤◌, length, sym, arith}
use Rattle.std.proofs.lemmas.List.{length-take-le}
use Rattle.mdl_picture.proofs.lines.push_cut.Goals as goal

pub slice_bounds-push_text-length : goal.slice_bounds-push_text-length
slice_bounds-push_text-length c =
    let long : 30 ≤ length c.args.line.now = omega arith in
    sym (length-take-le 30 c.args.line.now long)
