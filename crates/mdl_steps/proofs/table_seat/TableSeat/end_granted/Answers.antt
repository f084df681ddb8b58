-- A session that met its wait granted may end it.
use Rattle.std.proofs.Common.{◌≡◌, ℕ, ◌+◌, ◌*◌, ◌<◌, Some, sym, ap, ◌∙◌, subst, arith}
use Rattle.mdl_steps.proofs.Lemmas.{Allows, Mine, ReachedFor, ends_granted, ends_granted_allowed, granted_state, none, sits, step}
use Rattle.mdl_steps.proofs.table_seat.TableSeat.end_granted.Goals as goal

pub store-requires : goal.store-requires
store-requires c =
    let seat = c.self.inside.seat in
    let most = c.deref.result.now.shared.key in
    let table = c.deref.result.now.shared.table_id in
    let slots = table.slots in
    let at = sits c.self.view_is c.self.invariant (ap (λ t. t.shared.table_id) c.deref.ensures) in
    let told = at.mine (λ (m : Mine). m.0.told ≡ Some granted_state) c.requires.told in
    let wait = at.mine (λ (m : Mine). c.args.wait ≡ m.0.waits) c.requires.wait.0 in
    let is : c.word_in-word.result ≡ 8 * seat.me.0.waits = (let made = c.word_in-word.ensures in omega arith) in
    let count : c.slot_count.result ≡ slots = c.slot_count.ensures ∙ ap (λ t. t.shared.table_id.slots) (c.deref-2.ensures ∙ sym c.deref.ensures) in
    let word : c.wait_word.result ≡ 8 * slots + 8 + 8 * seat.me.0.number = (let numbered = c.self.invariant.numbered in let made = c.wait_word.ensures in omega arith) in (
      at.same,
      subst (λ (w : ℕ). w < table.words) (sym word) at.own.1,
      subst (λ (i : ℕ). Allows (ReachedFor most) slots seat.id seat.me i (λ _. c.word_in-word.result) (λ _. ends_granted (step slots i c.word_in-word.result 0 none) seat.me c.word_in-word.result)) (sym word)
          (ends_granted_allowed slots seat.id seat.me at.positive told c.word_in-word.result is most),
    )
