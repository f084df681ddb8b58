-- The holder of the directory's latch may give it back, and know what stands there.
use Rattle.std.proofs.Common.{◌<◌, List, subst, arith, ap, ◌≡◌}
use Rattle.mdl_steps.proofs.Lemmas.{Allows, KnownKey, MayInform, Mine, ReachedFor, learnt, learnt_known, none, puts_directory, puts_directory_allowed, sits, step}
use Rattle.mdl_steps.proofs.table_seat.TableSeat.put_directory_knowing.Goals as goal

pub store-requires : goal.store-requires
store-requires g c =
    let seat = c.self.inside.seat in
    let most = c.deref.result.now.shared.key in
    let slots = c.deref.result.now.shared.table_id.slots in
    let at = sits c.self.view_is c.self.invariant (ap (λ t. t.shared.table_id) c.deref.ensures) in
    let sized = at.sized in
    let some_slot = at.some in
    let some = at.positive in
    let inside : 0 < c.deref.result.now.shared.table_id.words = omega arith in
    let put = at.mine MayInform c.requires.put in
    let picked = at.mine (λ (m : Mine). learnt m c.args._place ≡ g.J.Learning.learnt) c.requires.picked in (
      at.same,
      inside,
      subst (λ (more : List KnownKey). Allows (ReachedFor most) slots seat.id seat.me 0 (λ _. 0) (λ _. puts_directory more (step slots 0 0 0 none) seat.me 0)) picked
          (puts_directory_allowed slots seat.id seat.me some put.0 (learnt seat.me c.args._place) put.1 (learnt_known put.0 seat.me c.args._place put.1.recorded) most),
    )
