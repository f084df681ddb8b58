-- A pinned place has a key.
use Rattle.std.proofs.Common.{◌≡◌, ap, sym, ◌∙◌}
use Rattle.mdl_calls.specs.SessionLocks.{is_pinned}
use Rattle.mdl_core.specs.Seats.{locks_of_seat}
use Rattle.mdl_core.specs.Words.{Core, SeatView, seat_at}
use Rattle.mdl_space.proofs.ServingLemmas.{seat_here}
use Rattle.mdl_space.proofs.core_space.CoreSpace.has_pin.Goals as goal

pub returns-clause-key : goal.returns-clause-key
returns-clause-key c pinned =
    let core : Core = c.args.self.now in
    let seat : c.index.result.now ≡ seat_at c.args.who core =
    seat_here core _ c.args.who c.from.result c.index.result.now (ap (λ (k : Core). k.seats) c.self.view_is) c.requires.0 c.from.ensures c.index.ensures in
    c.requires.1.tied.pinned c.args.who c.args.place c.requires.0
    (ap (λ (s : SeatView). is_pinned c.args.place (locks_of_seat s)) (sym seat) ∙ sym c.has_pin.ensures ∙ pinned)
