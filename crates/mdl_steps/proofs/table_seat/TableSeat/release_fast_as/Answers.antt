-- The subtraction is a fast release.
use Rattle.std.proofs.Common.{ℕ, ◌+◌, ◌-◌, ◌*◌, ◌%◌, ◌^◌, ◌<◌, sym, ap, subst, arith}
use Rattle.mdl_steps.proofs.Lemmas.{Allows, IsPlace, MayReleaseFast, Mine, ReachedFor, TableId, none, releases_fast, releases_fast_allowed, sits, step}
use Rattle.mdl_steps.proofs.table_seat.TableSeat.release_fast_as.Goals as goal

pub fetch_sub-requires : goal.fetch_sub-requires
fetch_sub-requires g c =
    let seat = c.self.inside.seat in
    let most = c.deref.result.now.shared.key in
    let table = c.deref.result.now.shared.table_id in
    let slots = table.slots in
    let place = c.args.place in
    let one = c.args.one in
    let at = sits c.self.view_is c.self.invariant (ap (λ t. t.shared.table_id) c.deref.ensures) in
    let here = at.here (λ (t : TableId). IsPlace t place) c.requires.place in
    let lost = at.mine (λ (m : Mine). MayReleaseFast place c.args._number one m) c.requires.lost in
    let sized = at.sized in
    let index = c.lock_word.ensures in
    let inside : c.lock_word.result < table.words = omega arith in (
      at.same,
      inside,
      subst (λ (i : ℕ). Allows (ReachedFor most) slots seat.id seat.me i (λ n. (n + (2 ^ 64 - one)) % 2 ^ 64) (releases_fast g.J.ReleasingFast.number (step slots i one 0 none) seat.me)) (sym index)
          (subst (λ (m : ℕ). Allows (ReachedFor most) slots seat.id seat.me (8 * place + 1) (λ n. (n + (2 ^ 64 - one)) % 2 ^ 64) (releases_fast m (step slots (8 * place + 1) one 0 none) seat.me)) c.requires.picked
          (releases_fast_allowed slots seat.id place seat.me here.0 here.1 c.args._number one lost at.positive most)),
    )
