-- The mark of the place is taken away, if it has one.
use Rattle.std.proofs.Common.{◌≤◌, false, length, arith}
use Rattle.std.proofs.lemmas.List.{length-set}
use Rattle.mdl_calls.proofs.MarkLemmas.{marked-unset, marked-unset_past}
use Rattle.mdl_calls.proofs.pins.Pins.remove.Goals as goal

pub returns-then-place-len : goal.returns-then-place-len
returns-then-place-len c =
    let marks = c.self.inside.marks.items in
    rw (← c.self.view_is) (λ i. record { places = marked-unset c.args.place marks i; reach = length-set marks c.args.place false i })

pub returns-else-place-len : goal.returns-else-place-len
returns-else-place-len c =
    let marks = c.self.inside.marks.items in
    let past : length marks ≤ c.args.place = omega (arith, c.if-place-len.false, c.len.ensures) in
    rw (← c.self.view_is) (λ i. record { places = marked-unset_past c.args.place marks past i; reach = length marks })
