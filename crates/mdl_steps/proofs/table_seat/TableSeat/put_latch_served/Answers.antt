-- The holder of the latch may give it back who looked all waiters through.
use Rattle.std.proofs.Common.{ℕ, ◌<◌, ◌≤◌, sym, subst, arith, ap}
use Rattle.mdl_steps.proofs.Lemmas.{Allows, IsPlace, MayServe, ReachedFor, SeatState, TableId, none, puts_served, puts_served_allowed, sits, step, word_count}
use Rattle.mdl_steps.proofs.table_seat.TableSeat.put_latch_served.Goals as goal

pub store-requires : goal.store-requires
store-requires c =
    let seat = c.self.inside.seat in
    let most = c.deref.result.now.shared.key in
    let table = c.deref.result.now.shared.table_id in
    let place = c.args.latch.place in
    let word_at = c.latch_word.ensures in
    let at = sits c.self.view_is c.self.invariant (ap (λ t. t.shared.table_id) c.deref.ensures) in
    let sized = at.sized in
    let here = at.here (λ (t : TableId). IsPlace t c.args.latch.place) c.requires.place in
    let some = at.positive in
    let inside : c.latch_word.result < table.words = omega arith in
    let mine = subst (λ (s : SeatState). MayServe s.table place s.me) (sym c.self.view_is) c.requires.put in
    let put = subst (λ (t : TableId). MayServe t place seat.me) (sym (ap (λ t. t.shared.table_id) c.deref.ensures)) mine in
    let roomy = subst (λ (n : ℕ). word_count table.slots n ≤ table.words) (sym (ap (λ t. t.shared.key) c.deref.ensures)) at.roomy in (
      at.same,
      inside,
      subst (λ (i : ℕ). Allows (ReachedFor most) table.slots seat.id seat.me i (λ _. 0) (λ _. puts_served (step table.slots i 0 0 none) seat.me 0)) (sym word_at)
          (puts_served_allowed table seat.id place seat.me some here.0 here.1 put most roomy),
    )
