-- The places count the same tickets, and have the same notes and flags.
use Rattle.std.proofs.Common.{◌-◌, Bool, length, not}
use Rattle.mdl_shared.proofs.Lemmas.{Gained, vec_capacity}
use Rattle.mdl_shared.proofs.TicketEdits.{still}
use Rattle.mdl_shared.proofs.tickets.Tickets.keep_guess.Goals as goal

pub returns : goal.returns
returns c =
    let gained = c.self.inside.gained in
    let same = λ (p : Gained → Bool). still c.self.inside.places.items c.set_guess.new.places.items p gained.items c.set_guess.ensures.tickets.noted in
    rw (← c.self.view_is) (λ i. record {
      slow = same (λ t. not t.fast) i;
      fast = same (λ t. t.fast) i;
      owes = c.set_guess.ensures.owes i;
      room = record { spare = vec_capacity gained - length gained.items; reach = c.set_guess.ensures.tickets.as_many i };
    })
