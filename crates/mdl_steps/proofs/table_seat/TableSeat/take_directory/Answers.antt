-- A free latch of the directory may be taken, and what is recorded then is told.
use Rattle.std.proofs.Common.{ℕ, ◌<◌, ◌==◌, refl, sym, subst, arith, ap}
use Rattle.mdl_steps.proofs.Lemmas.{Allows, HasDirectory, IsDirectory, Mine, ReachedFor, either, none, sits, step, takes_directory, takes_directory_allowed, value_is}
use Rattle.mdl_steps.proofs.table_seat.TableSeat.take_directory.Goals as goal

pub compare_exchange-found-requires : goal.compare_exchange-found-requires
compare_exchange-found-requires c =
    let seat = c.self.inside.seat in
    let most = c.deref.result.now.shared.key in
    let slots = c.deref.result.now.shared.table_id.slots in
    let at = sits c.self.view_is c.self.invariant (ap (λ t. t.shared.table_id) c.deref.ensures) in
    let sized = at.sized in
    let some_slot = at.some in
    let some = at.positive in
    let inside : 0 < c.deref.result.now.shared.table_id.words = omega arith in (
      at.same,
      inside,
      subst (λ (k : ℕ). Allows (ReachedFor most) slots seat.id seat.me 0 (λ n. either (n == 0) k n) (takes_directory (step slots 0 0 k none) seat.me)) c.self.invariant.numbered
          (takes_directory_allowed slots seat.id seat.me some most),
    )

pub returns : goal.returns
returns c =
    let told = (c.compare_exchange-found.ensures.2.1 refl).0 c.if-found-ne0.false in
    let k = told.0 in
    rw (← c.self.view_is) (record {
      taken = (k, subst (λ (n : ℕ). IsDirectory n k c.self.inside.seat.me) (ap (λ t. t.shared.table_id.slots) c.deref.ensures) told.1, subst (λ (m : Mine). HasDirectory k m) (sym told.2) (record { recorded = refl; carried = refl }), value_is told.2);
    })
