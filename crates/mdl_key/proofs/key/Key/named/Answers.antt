-- The table's name begins where a character does, since it is a text itself.
use Rattle.std.proofs.Common.{◌≤◌, ◌++◌, length, sym, subst, arith}
use Rattle.std.specs.Str.{IsUtf8}
use Rattle.std.proofs.Math.Seq.{drop-append_seam}
use Rattle.std.proofs.lemmas.List.{length-append}
use Rattle.std.proofs.lemmas.Str.{IsCharBoundary-from_drop}
use Rattle.mdl_key.proofs.key.Key.named.Goals as goal

pub invariant_of-result : goal.invariant_of-result
invariant_of-result c =
    let schema = c.args.schema.now in
    let table = c.args.table.now in
    let inside : length schema ≤ length (schema ++ table) = omega (arith, length-append schema table) in
    rw c.in_ok-joined.ensures.both (IsCharBoundary-from_drop (schema ++ table) (length schema) inside (subst IsUtf8 (sym (drop-append_seam schema table)) c.utf8.table))
