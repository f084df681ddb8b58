-- A session that met its wait lost may end it, under the latch of the place where its ticket waits.
use Rattle.std.proofs.Common.{◌≡◌, ℕ, ◌+◌, ◌*◌, ◌<◌, Some, refl, sym, ap, ◌∙◌, subst, arith}
use Rattle.mdl_steps.proofs.Lemmas.{Allows, Ask, Holds, LatchRecord, MayCancel, Mine, ReachedFor, elsewhere, elsewhere_changed, ended_lost, ends_lost, ends_lost_allowed, holds_changed, none, sits, step, with_cancelled}
use Rattle.mdl_steps.proofs.table_seat.TableSeat.end_lost.Goals as goal

pub store-requires : goal.store-requires
store-requires c =
    let seat = c.self.inside.seat in
    let most = c.deref.result.now.shared.key in
    let table = c.deref.result.now.shared.table_id in
    let slots = table.slots in
    let at = sits c.self.view_is c.self.invariant (ap (λ t. t.shared.table_id) c.deref.ensures) in
    let may = at.mine (λ (m : Mine). (h : LatchRecord) × MayCancel c.args.latch.now.place h m) c.requires.cancelled in
    let wait = at.mine (λ (m : Mine). c.args.wait ≡ m.0.waits) c.requires.wait.0 in
    let is : c.word_in-word.result ≡ 8 * seat.me.0.waits = (let made = c.word_in-word.ensures in omega arith) in
    let count : c.slot_count.result ≡ slots = c.slot_count.ensures ∙ ap (λ t. t.shared.table_id.slots) (c.deref-2.ensures ∙ sym c.deref.ensures) in
    let word : c.wait_word.result ≡ 8 * slots + 8 + 8 * seat.me.0.number = (let numbered = c.self.invariant.numbered in let made = c.wait_word.ensures in omega arith) in (
      at.same,
      subst (λ (w : ℕ). w < table.words) (sym word) at.own.1,
      subst (λ (i : ℕ). Allows (ReachedFor most) slots seat.id seat.me i (λ _. c.word_in-word.result) (λ _. ends_lost (step slots i c.word_in-word.result 0 none) seat.me c.word_in-word.result)) (sym word)
          (ends_lost_allowed slots seat.id seat.me at.positive c.args.latch.now.place may.0 may.1 c.word_in-word.result is most),
    )

pub returns-clause-keeps : goal.returns-clause-keeps
returns-clause-keeps c =
    let slots = c.deref.result.now.shared.table_id.slots in
    let at = sits c.self.view_is c.self.invariant (ap (λ t. t.shared.table_id) c.deref.ensures) in
    let place = c.args.latch.now.place in
    let me = c.self.inside.seat.me in
    let may = (at.mine (λ (m : Mine). (h : LatchRecord) × MayCancel place h m) c.requires.cancelled).1 in
    let count : c.slot_count.result ≡ slots = c.slot_count.ensures ∙ ap (λ t. t.shared.table_id.slots) (c.deref-2.ensures ∙ sym c.deref.ensures) in
    let word : c.wait_word.result ≡ 8 * slots + 8 + 8 * me.0.number = (let numbered = c.self.invariant.numbered in let made = c.wait_word.ensures in omega arith) in
    rw (← c.self.view_is) (λ a h book asks has.
    let both : Some may.ask ≡ Some a = sym may.asks ∙ asks in
    let ask_is : may.ask ≡ a = cc in
    let made = c.store.ensures.2.1 a may.state word asks may.told in
    subst (λ (m : Mine). Holds place (with_cancelled me.0.number a.number h) book m)
    (sym (made ∙ (λ i. ended_lost slots ((ap (λ (b : Ask). b.place) (sym ask_is) ∙ may.here) i) a.number may.state me)))
    (holds_changed place (with_cancelled me.0.number a.number) (λ x. refl) me (ended_lost slots place a.number may.state me) refl refl h book has))

pub returns-clause-apart : goal.returns-clause-apart
returns-clause-apart c =
    let slots = c.deref.result.now.shared.table_id.slots in
    let at = sits c.self.view_is c.self.invariant (ap (λ t. t.shared.table_id) c.deref.ensures) in
    let place = c.args.latch.now.place in
    let me = c.self.inside.seat.me in
    let may = (at.mine (λ (m : Mine). (h : LatchRecord) × MayCancel place h m) c.requires.cancelled).1 in
    let count : c.slot_count.result ≡ slots = c.slot_count.ensures ∙ ap (λ t. t.shared.table_id.slots) (c.deref-2.ensures ∙ sym c.deref.ensures) in
    let word : c.wait_word.result ≡ 8 * slots + 8 + 8 * me.0.number = (let numbered = c.self.invariant.numbered in let made = c.wait_word.ensures in omega arith) in
    let made = c.store.ensures.2.1 may.ask may.state word may.asks may.told in
    rw (← c.self.view_is) (ap (elsewhere place) (made ∙ (λ i. ended_lost slots (may.here i) may.ask.number may.state me))
    ∙ elsewhere_changed place (with_cancelled me.0.number may.ask.number) (λ x. refl) me (ended_lost slots place may.ask.number may.state me) refl refl)
