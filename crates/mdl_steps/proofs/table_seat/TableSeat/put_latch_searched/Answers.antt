-- The holder of all latches that sees no deadlock may give one back, where the flags tell the lists exactly.
use Rattle.std.proofs.Common.{ℕ, ◌<◌, [], sym, subst, arith, ap}
use Rattle.mdl_steps.proofs.Lemmas.{Allows, IsPlace, MayPut, ReachedFor, SeesNoDeadlock, TableId, none, puts_searched, sits, step}
use Rattle.mdl_steps.proofs.Searching.{puts_searched_allowed}
use Rattle.mdl_steps.proofs.table_seat.TableSeat.put_latch_searched.Goals as goal

pub store-requires : goal.store-requires
store-requires c =
    let seat = c.self.inside.seat in
    let most = c.deref.result.now.shared.key in
    let slots = c.deref.result.now.shared.table_id.slots in
    let place = c.args.latch.place in
    let word_at = c.latch_word.ensures in
    let at = sits c.self.view_is c.self.invariant (ap (λ t. t.shared.table_id) c.deref.ensures) in
    let sized = at.sized in
    let here = at.here (λ (t : TableId). IsPlace t c.args.latch.place) c.requires.place in
    let some = at.positive in
    let inside : c.latch_word.result < c.deref.result.now.shared.table_id.words = omega arith in
    let put = at.mine (MayPut place []) c.requires.put in
    let sees = at.here (λ (t : TableId). SeesNoDeadlock t.slots seat.me) (at.mine (SeesNoDeadlock _) c.requires.sees) in (
      at.same,
      inside,
      subst (λ (i : ℕ). Allows (ReachedFor most) slots seat.id seat.me i (λ _. 0) (λ _. puts_searched (step slots i 0 0 none) seat.me 0)) (sym word_at)
          (puts_searched_allowed slots seat.id place seat.me some here.0 here.1 put sees most),
    )
