-- The holder of the latch may give it back, where the flags tell the lists exactly.
use Rattle.std.proofs.Common.{ℕ, ◌*◌, ◌<◌, List, sym, subst, arith, ap}
use Rattle.mdl_steps.proofs.Lemmas.{Allows, Deed, IsPlace, MayPut, ReachedFor, TableId, none, puts_allowed, puts_latch, sits, step}
use Rattle.mdl_steps.proofs.table_seat.TableSeat.put_latch_after.Goals as goal

pub store-requires : goal.store-requires
store-requires g c =
    let seat = c.self.inside.seat in
    let most = c.deref.result.now.shared.key in
    let slots = c.deref.result.now.shared.table_id.slots in
    let word_at = c.latch_word.ensures in
    let at = sits c.self.view_is c.self.invariant (ap (λ t. t.shared.table_id) c.deref.ensures) in
    let sized = at.sized in
    let here = at.here (λ (t : TableId). IsPlace t c.args.place) c.requires.place in
    let some = at.positive in
    let inside : c.latch_word.result < c.deref.result.now.shared.table_id.words = omega arith in
    let put = at.mine (MayPut c.args.place c.args._deeds.now) c.requires.put in (
      at.same,
      inside,
      subst (λ (i : ℕ). Allows (ReachedFor most) slots seat.id seat.me i (λ _. 0) (λ _. puts_latch g.J.Doing.deeds (step slots i 0 0 none) seat.me 0)) (sym word_at)
          (subst (λ (ds : List Deed). Allows (ReachedFor most) slots seat.id seat.me (8 * c.args.place) (λ _. 0) (λ _. puts_latch ds (step slots (8 * c.args.place) 0 0 none) seat.me 0)) c.requires.picked
          (puts_allowed slots seat.id c.args.place seat.me some here.0 here.1 put.0 put.1.holds.recorded c.args._deeds.now put.1.act put.1.may put.1.holds.carried put.2 put.3 put.4 most)),
    )
