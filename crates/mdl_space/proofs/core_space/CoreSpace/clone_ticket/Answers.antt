-- The held ticket keeps all away that clash with it, and so all that clash with what it covers.
use Rattle.std.proofs.Common.{◌≡◌, ap}
use Rattle.mdl_core.specs.Cores.{Core, seat_at}
use Rattle.mdl_calls.specs.SessionLocks.{is_number}
use Rattle.mdl_space.proofs.ServingLemmas.{seat_here}
use Rattle.mdl_space.proofs.SpeakingLemmas.{found_among, held-found, held-stands, clone-compatible}
use Rattle.mdl_space.proofs.core_space.CoreSpace.clone_ticket.Goals as goal

pub check_clone-requires-clause-key : goal.check_clone-requires-clause-key
check_clone-requires-clause-key c =
    let core : Core = c.args.self.now in
    let seat : c.index.result.now ≡ seat_at c.args.who core =
    seat_here core _ c.args.who c.from.result c.index.result.now (ap (λ (k : Core). k.seats) c.self.view_is) c.requires.0 c.from.ensures c.index.ensures in
    (held-stands core c.args.who c.args.id c.requires c.index.result.now c.ticket.result c.in-Some.ticket seat c.ticket.ensures c.in-Some.is).0

pub grant_at-requires-clause-key : goal.grant_at-requires-clause-key
grant_at-requires-clause-key c =
    let core : Core = c.args.self.now in
    let seat : c.index.result.now ≡ seat_at c.args.who core =
    seat_here core _ c.args.who c.from.result c.index.result.now (ap (λ (k : Core). k.seats) c.self.view_is) c.requires.0 c.from.ensures c.index.ensures in
    (held-stands core c.args.who c.args.id c.requires c.index.result.now c.ticket.result c.in-Some.ticket seat c.ticket.ensures c.in-Some.is).0

pub grant_at-requires-clause-compatible : goal.grant_at-requires-clause-compatible
grant_at-requires-clause-compatible c =
    let core : Core = c.args.self.now in
    let seat : c.index.result.now ≡ seat_at c.args.who core =
    seat_here core _ c.args.who c.from.result c.index.result.now (ap (λ (k : Core). k.seats) c.self.view_is) c.requires.0 c.from.ensures c.index.ensures in
    let held = found_among (is_number c.args.id) (seat_at c.args.who core).held c.in-Some.ticket
    (held-found core c.args.who c.args.id c.index.result.now c.ticket.result c.in-Some.ticket seat c.ticket.ensures c.in-Some.is) in
    clone-compatible core c.args.who c.in-Some.ticket c.args.mode c.requires held c.in_ok-check_clone.ensures.covers c.in_ok-check_clone.ensures.fits
