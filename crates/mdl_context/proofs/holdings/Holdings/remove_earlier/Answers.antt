-- To take the ticket out at its place is to keep the others, and the place is marked.
use Rattle.std.proofs.Common.{◌≡◌, ◌<◌, ◌+◌, length, rules, Some, sym, ap, ◌∙◌}
use Rattle.std.specs.Prelude.{find}
use Rattle.std.specs.Vec.{vec_capacity}
use Rattle.mdl_context.specs.Contexts.{AreRising}
use Rattle.mdl_context.specs.Holdings.{has_ticket_number, without_number}
use Rattle.mdl_context.proofs.PlaceLemmas.{found_at, index-less, rising-numbers, room-stays}
use Rattle.mdl_context.proofs.SearchLemmas.{no_ticket, without_at}
use Rattle.mdl_context.specs.Indexes.{ticket_numbers, without_one}
use Rattle.mdl_context.proofs.SpareLemmas.{marked-one}
use Rattle.mdl_context.proofs.holdings.Holdings.remove_earlier.Goals as goal

pub remove-ticket-requires : goal.remove-ticket-requires
remove-ticket-requires c =
    let inside : c.args.at < length c.self.inside.tickets.items = (found_at (has_ticket_number c.args.id) c.self.inside.tickets.items c.args.at no_ticket (sym (rw (← c.self.view_is) at c.requires.here))).0 in
    search (rules, inside)

pub remove-requires : goal.remove-requires
remove-requires c =
    let kept = c.self.inside.tickets.items in
    let rising : AreRising kept = rw (← c.self.view_is) at c.requires.rising in
    let place = c.remove-ticket.result.place in
    rw (c.self.invariant.0 place) (rising-numbers place kept rising)

pub invariant_of-self : goal.invariant_of-self
invariant_of-self c =
    let kept = c.self.inside.tickets.items in
    let rising : AreRising kept = rw (← c.self.view_is) at c.requires.rising in
    let t = c.remove-ticket.result in
    let place = sym (rw (← c.self.view_is) at c.requires.here) in
    let found : find (has_ticket_number c.args.id) kept ≡ Some t = (found_at (has_ticket_number c.args.id) kept c.args.at t place).1 ∙ ap (λ x. Some x) (sym c.remove-ticket.ensures.value) in
    let left : c.remove-ticket.new.self.items ≡ without_number c.args.id kept = c.remove-ticket.ensures.items ∙ sym (without_at c.args.id kept c.args.at rising place) in
    let less = index-less kept c.args.id t c.self.inside.by_place c.remove.new.self rising found c.self.invariant.0 c.remove.ensures.numbers in
    let fewer : length c.remove-ticket.new.self.items + 1 ≡ length kept = search rules in
    let room = room-stays c.self.inside.wait c.self.inside.by_place c.remove.new.self (length kept) (length c.remove-ticket.new.self.items) (vec_capacity c.self.inside.tickets) fewer c.remove.ensures.stays c.self.invariant.1 in (
      rw left less,
      rw c.remove-ticket.ensures.capacity room,
      marked-one c.self.inside.known c.self.inside.by_place c.remove.new.self c.self.inside.wait c.self.inside.spare c.mark.new.self t.place
          (without_one c.args.id (ticket_numbers t.place c.self.inside.by_place)) c.remove.ensures.numbers c.mark.ensures.here c.mark.ensures.others c.self.invariant.2,
    )

pub returns-clause-kept : goal.returns-clause-kept
returns-clause-kept c =
    let kept = c.self.inside.tickets.items in
    let rising : AreRising kept = rw (← c.self.view_is) at c.requires.rising in
    let place = sym (rw (← c.self.view_is) at c.requires.here) in
    rw (← c.self.view_is) (c.remove-ticket.ensures.items ∙ sym (without_at c.args.id kept c.args.at rising place))
