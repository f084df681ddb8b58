-- The holder of a latch may open a wait there, where it has none and the flags tell of its ticket.
use Rattle.std.proofs.Common.{◌≡◌, ℕ, ◌+◌, ◌*◌, ◌<◌, refl, sym, ap, ◌∙◌, subst, arith}
use Rattle.mdl_steps.proofs.Lemmas.{Allows, Holds, IsPlace, LatchRecord, MayOpen, Mine, Mode, ReachedFor, TableId, asked_ticket, elsewhere, elsewhere_changed, holds_changed, none, opened, opens_allowed, opens_wait, sits, step, with_waiting}
use Rattle.mdl_steps.proofs.table_seat.TableSeat.open_wait_at.Goals as goal

pub store-requires : goal.store-requires
store-requires g c =
    let seat = c.self.inside.seat in
    let most = c.deref.result.now.shared.key in
    let table = c.deref.result.now.shared.table_id in
    let slots = table.slots in
    let at = sits c.self.view_is c.self.invariant (ap (λ t. t.shared.table_id) c.deref.ensures) in
    let place = at.here (λ (t : TableId). IsPlace t c.args.latch.now.place) c.requires.place in
    let may = at.mine (λ (m : Mine). (h : LatchRecord) × MayOpen c.args.latch.now.place c.args.mode h m) c.requires.opened in
    let wait = at.mine (λ (m : Mine). c.args.wait ≡ m.0.waits + 1) c.requires.wait.0 in
    let picked = c.requires.picked in
    let is : c.word_in-word.result ≡ 8 * (seat.me.0.waits + 1) + 1 = (let made = c.word_in-word.ensures in omega arith) in
    let count : c.slot_count.result ≡ slots = c.slot_count.ensures ∙ ap (λ t. t.shared.table_id.slots) (c.deref-2.ensures ∙ sym c.deref.ensures) in
    let word : c.wait_word.result ≡ 8 * slots + 8 + 8 * seat.me.0.number = (let numbered = c.self.invariant.numbered in let made = c.wait_word.ensures in omega arith) in (
      at.same,
      subst (λ (w : ℕ). w < table.words) (sym word) at.own.1,
      subst (λ (i : ℕ). Allows (ReachedFor most) slots seat.id seat.me i (λ _. c.word_in-word.result) (λ _. opens_wait g.J.Wishing.place g.J.Wishing.mode (step slots i c.word_in-word.result 0 none) seat.me c.word_in-word.result)) (sym word)
          (subst (λ (p : ℕ). Allows (ReachedFor most) slots seat.id seat.me (8 * slots + 8 + 8 * seat.me.0.number) (λ _. c.word_in-word.result)
          (λ _. opens_wait p g.J.Wishing.mode (step slots (8 * slots + 8 + 8 * seat.me.0.number) c.word_in-word.result 0 none) seat.me c.word_in-word.result)) picked.0
          (subst (λ (m : Mode). Allows (ReachedFor most) slots seat.id seat.me (8 * slots + 8 + 8 * seat.me.0.number) (λ _. c.word_in-word.result)
          (λ _. opens_wait c.args.latch.now.place m (step slots (8 * slots + 8 + 8 * seat.me.0.number) c.word_in-word.result 0 none) seat.me c.word_in-word.result)) picked.1
          (opens_allowed slots seat.id seat.me at.positive c.args.latch.now.place c.args.mode place.0 place.1 may.0 may.1 c.word_in-word.result is most))),
    )

pub returns-clause-keeps : goal.returns-clause-keeps
returns-clause-keeps g c =
    let slots = c.deref.result.now.shared.table_id.slots in
    let at = sits c.self.view_is c.self.invariant (ap (λ t. t.shared.table_id) c.deref.ensures) in
    let place = c.args.latch.now.place in
    let me = c.self.inside.seat.me in
    let wait = at.mine (λ (m : Mine). c.args.wait ≡ m.0.waits + 1) c.requires.wait.0 in
    let is : c.word_in-word.result ≡ 8 * (me.0.waits + 1) + 1 = (let stored = c.word_in-word.ensures in omega arith) in
    let count : c.slot_count.result ≡ slots = c.slot_count.ensures ∙ ap (λ t. t.shared.table_id.slots) (c.deref-2.ensures ∙ sym c.deref.ensures) in
    let word : c.wait_word.result ≡ 8 * slots + 8 + 8 * me.0.number = (let numbered = c.self.invariant.numbered in let made = c.wait_word.ensures in omega arith) in
    let made = c.store.ensures.2.1 word is in
    rw (← c.self.view_is) (λ h book has.
    subst (λ (m : Mine). Holds place (with_waiting (asked_ticket c.args.mode me.0) h) book m)
    (sym (made ∙ (λ i. opened slots (sym c.requires.picked.0 i) (sym c.requires.picked.1 i) me)))
    (holds_changed place (with_waiting (asked_ticket c.args.mode me.0)) (λ x. refl) me (opened slots place c.args.mode me) refl refl h book has))

pub returns-clause-apart : goal.returns-clause-apart
returns-clause-apart g c =
    let slots = c.deref.result.now.shared.table_id.slots in
    let at = sits c.self.view_is c.self.invariant (ap (λ t. t.shared.table_id) c.deref.ensures) in
    let place = c.args.latch.now.place in
    let me = c.self.inside.seat.me in
    let wait = at.mine (λ (m : Mine). c.args.wait ≡ m.0.waits + 1) c.requires.wait.0 in
    let is : c.word_in-word.result ≡ 8 * (me.0.waits + 1) + 1 = (let stored = c.word_in-word.ensures in omega arith) in
    let count : c.slot_count.result ≡ slots = c.slot_count.ensures ∙ ap (λ t. t.shared.table_id.slots) (c.deref-2.ensures ∙ sym c.deref.ensures) in
    let word : c.wait_word.result ≡ 8 * slots + 8 + 8 * me.0.number = (let numbered = c.self.invariant.numbered in let made = c.wait_word.ensures in omega arith) in
    let made = c.store.ensures.2.1 word is in
    rw (← c.self.view_is) (ap (elsewhere place) (made ∙ (λ i. opened slots (sym c.requires.picked.0 i) (sym c.requires.picked.1 i) me))
    ∙ elsewhere_changed place (with_waiting (asked_ticket c.args.mode me.0)) (λ x. refl) me (opened slots place c.args.mode me) refl refl)
