-- The subtraction makes the session's fast tickets there slow ones.
use Rattle.std.proofs.Common.{ℕ, ◌+◌, ◌-◌, ◌%◌, ◌^◌, ◌<◌, refl, sym, ap, ◌∙◌, subst, arith}
use Rattle.std.specs.Arc.{arc_value}
use Rattle.mdl_steps.proofs.Lemmas.{Allows, Holds, IsPlace, LatchRecord, MayMaterialise, Mine, ReachedFor, TableId, elsewhere, elsewhere_changed, holds_changed, materialised, materialises, materialises_allowed, moved, none, sits, step, with_granted}
use Rattle.mdl_steps.proofs.table_seat.TableSeat.materialise.Goals as goal

pub fetch_sub-requires : goal.fetch_sub-requires
fetch_sub-requires c =
    let seat = c.self.inside.seat in
    let most = c.deref.result.now.shared.key in
    let table = c.deref.result.now.shared.table_id in
    let slots = table.slots in
    let place = c.args.latch.now.place in
    let weight = c.args.weight in
    let at = sits c.self.view_is c.self.invariant (ap (λ t. t.shared.table_id) c.deref.ensures) in
    let here = at.here (λ (t : TableId). IsPlace t place) c.requires.place in
    let made_slow = at.mine (λ (m : Mine). (h : LatchRecord) × MayMaterialise place weight h m) c.requires.moved in
    let sized = at.sized in
    let index = c.lock_word.ensures in
    let inside : c.lock_word.result < table.words = omega arith in (
      at.same,
      inside,
      subst (λ (i : ℕ). Allows (ReachedFor most) slots seat.id seat.me i (λ n. (n + (2 ^ 64 - weight)) % 2 ^ 64) (materialises (step slots i weight 0 none) seat.me)) (sym index)
          (materialises_allowed slots seat.id place seat.me at.positive here.0 here.1 weight made_slow.0 made_slow.1 most),
    )

pub returns-clause-made : goal.returns-clause-made
returns-clause-made c =
    let place = c.args.latch.now.place in
    let made = c.fetch_sub.ensures.2.1 place c.lock_word.ensures in
    rw (← c.self.view_is) (c.fetch_sub.result, ap (λ (m : Mine). record { table = (arc_value c.self.inside.table).shared.table_id; me = m }) made)

pub returns-clause-keeps : goal.returns-clause-keeps
returns-clause-keeps c =
    let place = c.args.latch.now.place in
    let me = c.self.inside.seat.me in
    let made = c.fetch_sub.ensures.2.1 place c.lock_word.ensures in
    rw (← c.self.view_is) (λ h book has.
    subst (λ (m : Mine). Holds place (with_granted (moved place me.0) h) book m) (sym made)
    (holds_changed place (with_granted (moved place me.0)) (λ x. refl) me (materialised place c.fetch_sub.result me) refl refl h book has))

pub returns-clause-apart : goal.returns-clause-apart
returns-clause-apart c =
    let place = c.args.latch.now.place in
    let me = c.self.inside.seat.me in
    let made = c.fetch_sub.ensures.2.1 place c.lock_word.ensures in
    rw (← c.self.view_is) (ap (elsewhere place) made
    ∙ elsewhere_changed place (with_granted (moved place me.0)) (λ x. refl) me (materialised place c.fetch_sub.result me) refl refl)
