-- The last ticket is behind all others.
use Rattle.std.proofs.Common.{◌≡◌, ◌+◌, ◌<◌, length, sym, ◌∙◌, arith}
use Rattle.mdl_context.specs.Holdings.{has_ticket_number}
use Rattle.mdl_context.proofs.PlaceLemmas.{found_at}
use Rattle.mdl_context.proofs.SearchLemmas.{no_ticket, without_end}
use Rattle.mdl_context.proofs.holdings.Holdings.remove.Goals as goal

pub overflow_add-at : goal.overflow_add-at
overflow_add-at c =
    let kept = c.self.inside.tickets.items in
    let inside : c.args.at < length kept = (found_at (has_ticket_number c.args.id) kept c.args.at no_ticket (sym (rw (← c.self.view_is) at c.requires.here))).0 in
    omega (arith, inside, c.self.inside.tickets.ok.0, c.self.inside.tickets.ok.1, c.self.inside.tickets.small)

pub remove_last-requires : goal.remove_last-requires
remove_last-requires c =
    let kept = c.args.self.now.kept in
    let inside : c.args.at < length kept = (found_at (has_ticket_number c.args.id) kept c.args.at no_ticket (sym c.requires.here)).0 in
    omega (arith, inside)

pub returns-then-at-len-clause-kept : goal.returns-then-at-len-clause-kept
returns-then-at-len-clause-kept c =
    let kept = c.args.self.now.kept in
    let ends : c.args.at + 1 ≡ length kept = rw (← c.self.view_is) (omega (arith, c.self.inside.tickets.ok.0)) in
    c.remove_last.ensures.kept ∙ sym (without_end c.args.id kept c.args.at c.requires.rising (sym c.requires.here) ends)
