-- By the marks, which are those of rising places.
use Rattle.std.proofs.Common.{◌≡◌, ◌<◌, ◌≤◌, false, nat_lt, length, sym, ◌∙◌, arith}
use Rattle.std.proofs.lemmas.Bool.Decides.{nat_tests}
use Rattle.std.proofs.lemmas.List.{get_or_read}
use Rattle.mdl_calls.proofs.MarkLemmas.{marked-at, marked-past}
use Rattle.mdl_calls.proofs.pins.Pins.contains.Goals as goal

pub returns-then-place-len : goal.returns-then-place-len
returns-then-place-len c =
    let marks = c.self.inside.marks.items in
    let fits : c.args.place < length marks = omega (arith, c.if-place-len.true, c.len.ensures) in
    record { pinned = rw (← c.self.view_is) (get_or_read marks c.args.place c.index.result.now fits c.index.ensures false ∙ sym (marked-at c.args.place marks)) }

pub returns-else-place-len : goal.returns-else-place-len
returns-else-place-len c =
    let marks = c.self.inside.marks.items in
    let past : length marks ≤ c.args.place = omega (arith, c.if-place-len.false, c.len.ensures) in
    let no : nat_lt c.args.place c.len.result ≡ false = grind (arith, nat_tests, c.if-place-len.false) in
    record { pinned = rw (← c.self.view_is) (no ∙ sym (marked-past c.args.place marks past)) }
