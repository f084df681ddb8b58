-- Both tickets stand in the book of their place, and the one that goes keeps all away that clash with it.
use Rattle.std.proofs.Common.{◌≡◌, ℕ, true, sym, ap, subst}
use Rattle.mdl_core.specs.Cores.{Core, book_at, seat_at}
use Rattle.mdl_space.proofs.ServingLemmas.{seat_here}
use Rattle.std.specs.Prelude.{IsSome}
use Rattle.mdl_book.specs.Books.{lock_kind}
use Rattle.mdl_book.specs.Granting.{is_compatible}
use Rattle.mdl_book.specs.Tickets.{ticket_of}
use Rattle.mdl_calls.specs.SessionLocks.{is_number}
use Rattle.mdl_space.proofs.ModeLemmas.{held-compatible}
use Rattle.mdl_space.proofs.SpeakingLemmas.{found_among, held-found, held-stands}
use Rattle.mdl_space.proofs.core_space.CoreSpace.merge.Goals as goal

pub fold-requires-clause-key : goal.fold-requires-clause-key
fold-requires-clause-key c =
    let core : Core = c.args.self.now in
    let seat : c.index-seat.result.now ≡ seat_at c.args.who core =
    seat_here core _ c.args.who c.from.result c.index-seat.result.now (ap (λ (k : Core). k.seats) c.self.view_is) c.requires.0 c.from.ensures c.index-seat.ensures in
    (held-stands core c.args.who c.args.old c.requires c.index-seat.result.now c.ticket.result c.in-Some.kept seat c.ticket.ensures c.in-Some.is).0

pub fold-requires-clause-kept : goal.fold-requires-clause-kept
fold-requires-clause-kept c =
    let core : Core = c.args.self.now in
    let seat : c.index-seat.result.now ≡ seat_at c.args.who core =
    seat_here core _ c.args.who c.from.result c.index-seat.result.now (ap (λ (k : Core). k.seats) c.self.view_is) c.requires.0 c.from.ensures c.index-seat.ensures in
    (held-stands core c.args.who c.args.old c.requires c.index-seat.result.now c.ticket.result c.in-Some.kept seat c.ticket.ensures c.in-Some.is).1

pub fold-requires-clause-gone : goal.fold-requires-clause-gone
fold-requires-clause-gone c =
    let core : Core = c.args.self.now in
    let seat : c.index-seat.result.now ≡ seat_at c.args.who core =
    seat_here core _ c.args.who c.from.result c.index-seat.result.now (ap (λ (k : Core). k.seats) c.self.view_is) c.requires.0 c.from.ensures c.index-seat.ensures in
    subst (λ (place : ℕ). IsSome (ticket_of c.args.who c.in-Some-ticket.gone.id (book_at place core).granted)) (sym c.in_ok-check_merge.ensures.place)
    (held-stands core c.args.who c.args.new c.requires c.index-seat.result.now c.ticket-2.result c.in-Some-ticket.gone seat c.ticket-2.ensures c.in-Some-ticket.is).1

pub fold-requires-clause-compatible : goal.fold-requires-clause-compatible
fold-requires-clause-compatible c =
    let core : Core = c.args.self.now in
    let seat : c.index-seat.result.now ≡ seat_at c.args.who core =
    seat_here core _ c.args.who c.from.result c.index-seat.result.now (ap (λ (k : Core). k.seats) c.self.view_is) c.requires.0 c.from.ensures c.index-seat.ensures in
    let held = found_among (is_number c.args.new) (seat_at c.args.who core).held c.in-Some-ticket.gone
    (held-found core c.args.who c.args.new c.index-seat.result.now c.ticket-2.result c.in-Some-ticket.gone seat c.ticket-2.ensures c.in-Some-ticket.is) in
    subst (λ (place : ℕ). is_compatible (lock_kind (book_at place core)) (book_at place core).granted c.args.who c.in-Some-ticket.gone.mode ≡ true) (sym c.in_ok-check_merge.ensures.place)
    (held-compatible core c.args.who c.in-Some-ticket.gone c.requires held)
