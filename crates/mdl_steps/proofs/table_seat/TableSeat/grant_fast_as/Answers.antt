-- The exchange is a fast grant, or changes nothing.
use Rattle.std.proofs.Common.{ℕ, ◌+◌, ◌*◌, ◌%◌, ◌^◌, ◌<◌, ◌==◌, sym, ap, subst, arith, Option}
use Rattle.mdl_steps.proofs.Lemmas.{Allows, IsPlace, MayGrantFast, Mine, Mode, ReachedFor, TableId, either, grants_fast, grants_fast_allowed, none, sits, step}
use Rattle.mdl_steps.proofs.table_seat.TableSeat.grant_fast_as.Goals as goal

pub compare_exchange-requires : goal.compare_exchange-requires
compare_exchange-requires g c =
    let seat = c.self.inside.seat in
    let most = c.deref.result.now.shared.key in
    let table = c.deref.result.now.shared.table_id in
    let slots = table.slots in
    let place = c.args.place in
    let word = c.args.word.0 in
    let more = (word + c.args.one) % 2 ^ 64 in
    let at = sits c.self.view_is c.self.invariant (ap (λ t. t.shared.table_id) c.deref.ensures) in
    let here = at.here (λ (t : TableId). IsPlace t place) c.requires.place in
    let gained = at.mine (λ (m : Mine). MayGrantFast place c.args._mode c.args._noted c.args.one m) c.requires.gained in
    let sized = at.sized in
    let index = c.lock_word.ensures in
    let picked = c.requires.picked in
    let inside : c.lock_word.result < table.words = omega arith in (
      at.same,
      inside,
      subst (λ (i : ℕ). Allows (ReachedFor most) slots seat.id seat.me i (λ n. either (n == word) more n) (grants_fast g.J.GrantingFast.mode g.J.GrantingFast.noted (step slots i word more none) seat.me)) (sym index)
          (subst (λ (m : Mode). Allows (ReachedFor most) slots seat.id seat.me (8 * place + 1) (λ n. either (n == word) more n) (grants_fast m g.J.GrantingFast.noted (step slots (8 * place + 1) word more none) seat.me)) picked.0
          (subst (λ (o : Option ℕ). Allows (ReachedFor most) slots seat.id seat.me (8 * place + 1) (λ n. either (n == word) more n) (grants_fast c.args._mode o (step slots (8 * place + 1) word more none) seat.me)) picked.1
          (grants_fast_allowed slots seat.id place seat.me here.0 here.1 at.positive c.args._mode c.args._noted c.args.one gained word more c.requires.down (λ small one_small. omega arith) most))),
    )
