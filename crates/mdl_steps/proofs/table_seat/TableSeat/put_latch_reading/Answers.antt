-- The holder of the latch may give it back and have read what stands, where the flags tell the lists exactly.
use Rattle.std.proofs.Common.{ℕ, ◌<◌, sym, subst, arith, ap, []}
use Rattle.mdl_steps.proofs.Lemmas.{Allows, IsPlace, MayPut, ReachedFor, TableId, none, puts_reading, sits, step}
use Rattle.mdl_steps.proofs.Reading.{puts_reading_allowed}
use Rattle.mdl_steps.proofs.table_seat.TableSeat.put_latch_reading.Goals as goal

pub store-requires : goal.store-requires
store-requires c =
    let seat = c.self.inside.seat in
    let most = c.deref.result.now.shared.key in
    let slots = c.deref.result.now.shared.table_id.slots in
    let place = c.args.latch.place in
    let word_at = c.latch_word.ensures in
    let at = sits c.self.view_is c.self.invariant (ap (λ t. t.shared.table_id) c.deref.ensures) in
    let sized = at.sized in
    let here = at.here (λ (t : TableId). IsPlace t c.args.latch.place) c.requires.place in
    let some = at.positive in
    let inside : c.latch_word.result < c.deref.result.now.shared.table_id.words = omega arith in
    let put = at.mine (MayPut place []) c.requires.put in (
      at.same,
      inside,
      subst (λ (i : ℕ). Allows (ReachedFor most) slots seat.id seat.me i (λ _. 0) (λ _. puts_reading (step slots i 0 0 none) seat.me 0)) (sym word_at)
          (puts_reading_allowed slots seat.id place seat.me some here.0 here.1 put.0 put.1.holds put.2 put.4 most),
    )
