-- The numbers of the tickets that are left rise.
use Rattle.std.proofs.Common.{sym, subst}
use Rattle.std.specs.Prelude.{not, IsTrue}
use Rattle.mdl_calls.specs.SessionLocks.{are_rising, is_number}
use Rattle.mdl_core.specs.Seats.{SeatView}
use Rattle.mdl_space.proofs.ModeLemmas.{rising_left}
use Rattle.mdl_space.proofs.seat.Seat.fold.Goals as goal

pub set_mode-requires : goal.set_mode-requires
set_mode-requires c =
    subst (λ (seat : SeatView). IsTrue (are_rising seat.held)) (sym c.give_up.ensures) (rising_left (λ ticket. not (is_number c.args.gone.id ticket)) _ c.requires)
