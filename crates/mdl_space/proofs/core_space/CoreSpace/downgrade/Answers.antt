-- The held ticket keeps all away that clash with it, and so all that clash with a weaker mode.
use Rattle.std.proofs.Common.{◌≡◌, ap, sym, ◌∙◌}
use Rattle.mdl_core.specs.Cores.{Core, has_key, seat_at}
use Rattle.mdl_space.proofs.ServingLemmas.{seat_here}
use Rattle.mdl_calls.specs.SessionLocks.{is_number}
use Rattle.mdl_space.proofs.ModeLemmas.{altered-key, lower-compatible}
use Rattle.mdl_space.proofs.SpeakingLemmas.{found_among, held-found, held-stands}
use Rattle.mdl_space.proofs.core_space.CoreSpace.downgrade.Goals as goal

pub is_lower-requires : goal.is_lower-requires
is_lower-requires c =
    let core : Core = c.args.self.now in
    let seat : c.index.result.now ≡ seat_at c.args.who core =
    seat_here core _ c.args.who c.from.result c.index.result.now (ap (λ (k : Core). k.seats) c.self.view_is) c.requires.0 c.from.ensures c.index.ensures in
    (held-stands core c.args.who c.args.id c.requires c.index.result.now c.ticket.result c.in-Some.ticket seat c.ticket.ensures c.in-Some.is).0

pub alter-requires-clause-key : goal.alter-requires-clause-key
alter-requires-clause-key c =
    let core : Core = c.args.self.now in
    let seat : c.index.result.now ≡ seat_at c.args.who core =
    seat_here core _ c.args.who c.from.result c.index.result.now (ap (λ (k : Core). k.seats) c.self.view_is) c.requires.0 c.from.ensures c.index.ensures in
    (held-stands core c.args.who c.args.id c.requires c.index.result.now c.ticket.result c.in-Some.ticket seat c.ticket.ensures c.in-Some.is).0

pub alter-requires-clause-stands : goal.alter-requires-clause-stands
alter-requires-clause-stands c =
    let core : Core = c.args.self.now in
    let seat : c.index.result.now ≡ seat_at c.args.who core =
    seat_here core _ c.args.who c.from.result c.index.result.now (ap (λ (k : Core). k.seats) c.self.view_is) c.requires.0 c.from.ensures c.index.ensures in
    (held-stands core c.args.who c.args.id c.requires c.index.result.now c.ticket.result c.in-Some.ticket seat c.ticket.ensures c.in-Some.is).1

pub alter-requires-clause-compatible : goal.alter-requires-clause-compatible
alter-requires-clause-compatible c =
    let core : Core = c.args.self.now in
    let seat : c.index.result.now ≡ seat_at c.args.who core =
    seat_here core _ c.args.who c.from.result c.index.result.now (ap (λ (k : Core). k.seats) c.self.view_is) c.requires.0 c.from.ensures c.index.ensures in
    let held = found_among (is_number c.args.id) (seat_at c.args.who core).held c.in-Some.ticket
    (held-found core c.args.who c.args.id c.index.result.now c.ticket.result c.in-Some.ticket seat c.ticket.ensures c.in-Some.is) in
    lower-compatible core c.args.who c.in-Some.ticket c.args.mode c.requires held (sym c.is_lower.ensures ∙ c.if-not-is_lower.false)

pub serve-requires : goal.serve-requires
serve-requires c =
    let core : Core = c.args.self.now in
    let seat : c.index.result.now ≡ seat_at c.args.who core =
    seat_here core _ c.args.who c.from.result c.index.result.now (ap (λ (k : Core). k.seats) c.self.view_is) c.requires.0 c.from.ensures c.index.ensures in
    let key = (held-stands core c.args.who c.args.id c.requires c.index.result.now c.ticket.result c.in-Some.ticket seat c.ticket.ensures c.in-Some.is).0 in
    ap (has_key c.in-Some.ticket.place) c.alter.ensures ∙ altered-key c.args.who c.in-Some.ticket c.args.mode core ∙ key
