-- Any session may read any wait's word.
use Rattle.std.proofs.Common.{◌≡◌, ℕ, ◌+◌, ◌*◌, ◌<◌, sym, ap, ◌∙◌, subst}
use Rattle.mdl_steps.proofs.Lemmas.{Allows, IsSession, ReachedFor, TableId, TellsOwn, none, reads_wait, reads_wait_allowed, sits, step, wait_word}
use Rattle.mdl_steps.proofs.table_seat.TableSeat.read_wait.Goals as goal

pub load-requires : goal.load-requires
load-requires c =
    let seat = c.self.inside.seat in
    let most = c.deref-2.result.now.shared.key in
    let table = c.deref-2.result.now.shared.table_id in
    let slots = table.slots in
    let at = sits c.self.view_is c.self.invariant (ap (λ t. t.shared.table_id) c.deref-2.ensures) in
    let here = at.here (λ (t : TableId). IsSession t c.args.session) c.requires.session in
    let count : c.slot_count.result ≡ slots = c.slot_count.ensures ∙ ap (λ t. t.shared.table_id.slots) (c.deref.ensures ∙ sym c.deref-2.ensures) in
    let word : c.wait_word-index.result ≡ 8 * slots + 8 + 8 * c.args.session = c.wait_word-index.ensures ∙ ap (λ (n : ℕ). wait_word n c.args.session) count in (
      at.same,
      subst (λ (w : ℕ). w < table.words) (sym word) here.1,
      subst (λ (i : ℕ). Allows (ReachedFor most) slots seat.id seat.me i (λ n. n) (reads_wait (step slots i 0 0 none) seat.me)) (sym word)
          (reads_wait_allowed seat.id c.args.session seat.me slots most),
    )

pub returns-clause-own : goal.returns-clause-own
returns-clause-own c =
    let slots = c.deref-2.result.now.shared.table_id.slots in
    let count : c.slot_count.result ≡ slots = c.slot_count.ensures ∙ ap (λ t. t.shared.table_id.slots) (c.deref.ensures ∙ sym c.deref-2.ensures) in
    let word : c.wait_word-index.result ≡ 8 * slots + 8 + 8 * c.args.session = c.wait_word-index.ensures ∙ ap (λ (n : ℕ). wait_word n c.args.session) count in
    rw (← c.self.view_is) (subst (λ (k : ℕ). TellsOwn k c.args.session c.load.result c.self.inside.seat.me.0) (ap (λ t. t.shared.table_id.slots) c.deref-2.ensures)
    (c.load.ensures.2.1 c.args.session word).0)
