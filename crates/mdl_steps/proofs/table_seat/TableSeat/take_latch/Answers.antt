-- A free latch may be taken, and what is recorded then is told.
use Rattle.std.proofs.Common.{ℕ, ◌*◌, ◌<◌, ◌==◌, refl, sym, ap, ◌∙◌, subst, arith}
use Rattle.mdl_steps.proofs.Lemmas.{Allows, Holds, IsPlace, Mine, ReachedFor, TableId, either, elsewhere, elsewhere-taken, holds_taken, none, sits, step, takes_latch, takes_latch_allowed, value_is}
use Rattle.mdl_steps.proofs.table_seat.TableSeat.take_latch.Goals as goal

pub compare_exchange-found-requires : goal.compare_exchange-found-requires
compare_exchange-found-requires c =
    let seat = c.self.inside.seat in
    let most = c.deref.result.now.shared.key in
    let table = c.deref.result.now.shared.table_id in
    let place = c.args.place in
    let at = sits c.self.view_is c.self.invariant (ap (λ t. t.shared.table_id) c.deref.ensures) in
    let here = at.here (λ (t : TableId). IsPlace t place) c.requires.place in
    let sized = at.sized in
    let number = c.self.inside.number in
    let inside : c.latch_word.result < table.words = omega arith in (
      at.same,
      inside,
      subst (λ (i : ℕ). Allows (ReachedFor most) table.slots seat.id seat.me i (λ n. either (n == 0) number n) (takes_latch (step table.slots i 0 number none) seat.me)) (sym c.latch_word.ensures)
          (subst (λ (k : ℕ). Allows (ReachedFor most) table.slots seat.id seat.me (8 * place) (λ n. either (n == 0) k n) (takes_latch (step table.slots (8 * place) 0 k none) seat.me)) c.self.invariant.numbered
          (takes_latch_allowed table.slots seat.id place seat.me at.positive here.0 here.1 most)),
    )

pub returns-clause-taken : goal.returns-clause-taken
returns-clause-taken c =
    let place = c.args.place in
    let told = (c.compare_exchange-found.ensures.2.1 place c.latch_word.ensures).0 c.if-found-ne0.false in
    let h = told.0 in
    rw (← c.self.view_is) (refl, (h, told.1, subst (λ (m : Mine). Holds place h h.book m) (sym told.2) (holds_taken place h c.self.inside.seat.me told.1.here), value_is told.2))

pub returns-clause-apart : goal.returns-clause-apart
returns-clause-apart c =
    let place = c.args.place in
    let told = (c.compare_exchange-found.ensures.2.1 place c.latch_word.ensures).0 c.if-found-ne0.false in
    rw (← c.self.view_is) (ap (elsewhere place) told.2 ∙ elsewhere-taken place told.0 c.self.inside.seat.me told.1.here)

pub returns-then-found-ne0-clause-apart : goal.returns-then-found-ne0-clause-apart
returns-then-found-ne0-clause-apart c =
    let told = (c.compare_exchange-found.ensures.2.1 c.args.place c.latch_word.ensures).1 c.if-found-ne0.true in
    rw (← c.self.view_is) (ap (elsewhere c.args.place) told)
