-- Both together are the list.
use Rattle.mdl_shared.proofs.Lemmas.{length-map, parted, rules, with_note}
use Rattle.mdl_shared.proofs.tickets.Tickets.is_empty.Goals as goal

pub returns : goal.returns
returns c =
    let whole = parted c.self.inside.places.items c.self.inside.gained.items c.self.invariant.rising in
    rw (← c.self.view_is) (rw (whole, length-map c.self.inside.gained.items (with_note c.self.inside.places.items)) (search rules))
