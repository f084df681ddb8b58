-- The holder of the latch may leave just those flags up that tell of each ticket in the lists.
use Rattle.std.proofs.Common.{ℕ, ◌+◌, ◌*◌, ◌<◌, List, sym, ap, ◌∙◌, subst, arith, bit_and}
use Rattle.mdl_steps.proofs.Lemmas.{Allows, Deed, Holds, IsPlace, MayLower, Mine, ReachedFor, SeatState, TableId, all_booked, elsewhere, elsewhere-settled, flags_lowered, holds_settled, lowered, lowers_allowed, lowers_flags, none, sits, step}
use Rattle.mdl_steps.proofs.table_seat.TableSeat.lower_flags_after.Goals as goal

pub fetch_and-requires : goal.fetch_and-requires
fetch_and-requires g c =
    let seat = c.self.inside.seat in
    let most = c.deref.result.now.shared.key in
    let slots = c.deref.result.now.shared.table_id.slots in
    let word_at = c.lock_word.ensures in
    let at = sits c.self.view_is c.self.invariant (ap (λ t. t.shared.table_id) c.deref.ensures) in
    let sized = at.sized in
    let here = at.here (λ (t : TableId). IsPlace t c.args.latch.now.place) c.requires.place in
    let some = at.positive in
    let inside : c.lock_word.result < c.deref.result.now.shared.table_id.words = omega arith in
    let low = at.mine (MayLower c.args.latch.now.place c.args._deeds.now c.args.slow c.args.obtrusive) c.requires.lowered in (
      at.same,
      inside,
      subst (λ (i : ℕ). Allows (ReachedFor most) slots seat.id seat.me i (λ n. bit_and n c.keeping.result) (lowers_flags g.J.Doing.deeds (step slots i c.keeping.result 0 none) seat.me)) (sym word_at)
          (subst (λ (ds : List Deed). Allows (ReachedFor most) slots seat.id seat.me (8 * c.args.latch.now.place + 1) (λ n. bit_and n c.keeping.result) (lowers_flags ds (step slots (8 * c.args.latch.now.place + 1) c.keeping.result 0 none) seat.me)) c.requires.picked
          (lowers_allowed slots seat.id c.args.latch.now.place seat.me some here.0 here.1 low.0 low.1.holds.recorded c.args._deeds.now low.1.act low.1.may low.1.holds.carried c.args.slow c.args.obtrusive c.keeping.result c.keeping.ensures low.2 most)),
    )

pub returns-clause-keeps : goal.returns-clause-keeps
returns-clause-keeps g c =
    let place = c.args.latch.now.place in
    let seat = c.self.inside.seat in
    let slow = c.args.slow in
    let obtrusive = c.args.obtrusive in
    rw (← c.self.view_is) (λ h book has.
    let made = c.fetch_and.ensures.2.1 place slow obtrusive book c.lock_word.ensures c.keeping.ensures has.carried in
    subst (λ (m : Mine). Holds place (lowered c.args._deeds.now book slow obtrusive h) book m) (sym made)
    (subst (λ (ds : List Deed). Holds place (lowered ds book slow obtrusive h) book (flags_lowered place g.J.Doing.deeds c.fetch_and.result book slow obtrusive seat.me)) (sym c.requires.picked)
    (holds_settled place g.J.Doing.deeds c.fetch_and.result slow obtrusive h book seat.me has)))

pub returns-clause-apart : goal.returns-clause-apart
returns-clause-apart g c =
    let place = c.args.latch.now.place in
    let me = c.self.inside.seat.me in
    let low = subst (λ (s : SeatState). MayLower place c.args._deeds.now c.args.slow c.args.obtrusive s.me) (sym c.self.view_is) c.requires.lowered in
    let book = all_booked me.0.number c.args._deeds.now low.0.book in
    let made = c.fetch_and.ensures.2.1 place c.args.slow c.args.obtrusive book c.lock_word.ensures c.keeping.ensures low.1.holds.carried in
    rw (← c.self.view_is) (ap (elsewhere place) made ∙ elsewhere-settled place g.J.Doing.deeds c.fetch_and.result c.args.slow c.args.obtrusive book me)
