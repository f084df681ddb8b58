-- Any session may settle any unsettled wait as lost.
use Rattle.std.proofs.Common.{◌≡◌, ℕ, ◌+◌, ◌*◌, ◌<◌, ◌≤◌, ◌==◌, refl, sym, ap, ◌∙◌, subst, arith}
use Rattle.mdl_steps.proofs.Lemmas.{Allows, IsSession, Killed, Loss, ReachedFor, TableId, TellsOwn, Timeout, Victim, either, lost_state, none, settles_lost, settles_lost_allowed, sits, step, wait_in, wait_word}
use Rattle.mdl_steps.proofs.table_seat.TableSeat.settle_wait.Goals as goal

is_lost : (how : Loss) → (2 < lost_state how) × (lost_state how ≤ 5)
is_lost Victim = (omega arith, omega arith)
is_lost Timeout = (omega arith, omega arith)
is_lost Killed = (omega arith, omega arith)

pub compare_exchange-requires : goal.compare_exchange-requires
compare_exchange-requires c =
    let seat = c.self.inside.seat in
    let most = c.deref.result.now.shared.key in
    let table = c.deref.result.now.shared.table_id in
    let slots = table.slots in
    let at = sits c.self.view_is c.self.invariant (ap (λ t. t.shared.table_id) c.deref.ensures) in
    let here = at.here (λ (t : TableId). IsSession t c.args.session) c.requires.session in
    let lost = is_lost c.args.how in
    let state = lost_state c.args.how in
    let open_is : c.word_in-open.result ≡ 8 * c.args.wait + 1 = c.word_in-open.ensures in
    let lost_is : c.word_in-lost.result ≡ 8 * c.args.wait + state = (let is = c.state.ensures in let word = c.word_in-lost.ensures in omega arith) in
    let count : c.slot_count.result ≡ slots = c.slot_count.ensures ∙ ap (λ t. t.shared.table_id.slots) (c.deref-2.ensures ∙ sym c.deref.ensures) in
    let word : c.wait_word.result ≡ 8 * slots + 8 + 8 * c.args.session = c.wait_word.ensures ∙ ap (λ (n : ℕ). wait_word n c.args.session) count in (
      at.same,
      subst (λ (w : ℕ). w < table.words) (sym word) here.1,
      subst (λ (i : ℕ). Allows (ReachedFor most) slots seat.id seat.me i (λ n. either (n == c.word_in-open.result) c.word_in-lost.result n) (settles_lost (step slots i c.word_in-open.result c.word_in-lost.result none) seat.me)) (sym word)
          (subst (λ (e : ℕ). Allows (ReachedFor most) slots seat.id seat.me (8 * slots + 8 + 8 * c.args.session) (λ n. either (n == e) c.word_in-lost.result n) (settles_lost (step slots (8 * slots + 8 + 8 * c.args.session) e c.word_in-lost.result none) seat.me)) (sym open_is)
          (subst (λ (l : ℕ). Allows (ReachedFor most) slots seat.id seat.me (8 * slots + 8 + 8 * c.args.session) (λ n. either (n == 8 * c.args.wait + 1) l n) (settles_lost (step slots (8 * slots + 8 + 8 * c.args.session) (8 * c.args.wait + 1) l none) seat.me)) (sym lost_is)
          (settles_lost_allowed seat.id c.args.session seat.me slots c.args.wait state here.0 c.args.how refl lost.0 lost.1 most))),
    )

pub returns-clause-own : goal.returns-clause-own
returns-clause-own c =
    let slots = c.deref.result.now.shared.table_id.slots in
    let count : c.slot_count.result ≡ slots = c.slot_count.ensures ∙ ap (λ t. t.shared.table_id.slots) (c.deref-2.ensures ∙ sym c.deref.ensures) in
    let word : c.wait_word.result ≡ 8 * slots + 8 + 8 * c.args.session = c.wait_word.ensures ∙ ap (λ (n : ℕ). wait_word n c.args.session) count in
    let lost_is : c.word_in-lost.result ≡ wait_in c.args.wait (lost_state c.args.how) = (let is = c.state.ensures in let made = c.word_in-lost.ensures in omega arith) in
    rw (← c.self.view_is) (subst (λ (k : ℕ). TellsOwn k c.args.session c.compare_exchange.result c.self.inside.seat.me.0) (ap (λ t. t.shared.table_id.slots) c.deref.ensures)
    (c.compare_exchange.ensures.2.1 c.args.session c.args.wait (lost_state c.args.how) word c.word_in-open.ensures lost_is).0)
