-- The place has a mark, which is set.
use Rattle.std.proofs.Common.{true}
use Rattle.std.proofs.lemmas.List.{length-set}
use Rattle.mdl_calls.proofs.MarkLemmas.{marked-set}
use Rattle.mdl_calls.proofs.pins.Pins.insert.Goals as goal

pub returns : goal.returns
returns c =
    let marks = c.self.inside.marks.items in
    let marked = marked-set c.args.place marks (rw (← c.self.view_is) at c.requires.reach) in
    rw (← c.self.view_is) (λ i. record { places = marked i; reach = length-set marks c.args.place true i })
