-- The holder of a latch may grant a wait whose ticket may stand beside all that is granted there.
use Rattle.std.proofs.Common.{◌≡◌, ℕ, ◌+◌, ◌*◌, ◌<◌, ◌==◌, refl, sym, ap, ◌∙◌, subst, inl, inr}
use Rattle.mdl_steps.proofs.Lemmas.{Allows, Holds, IsPlace, IsSession, LatchRecord, MayGrant, Mine, ReachedFor, TableId, TellsOwn, either, elsewhere, elsewhere_changed, holds_changed, missed_wait, none, settled_granted, settles_granted, sits, step, value_is, wait_in, wait_word, with_admitted}
use Rattle.mdl_steps.proofs.WaitGrants.{settles_granted_allowed}
use Rattle.mdl_steps.proofs.table_seat.TableSeat.grant_wait_at.Goals as goal

pub compare_exchange-requires : goal.compare_exchange-requires
compare_exchange-requires g c =
    let seat = c.self.inside.seat in
    let most = c.deref.result.now.shared.key in
    let table = c.deref.result.now.shared.table_id in
    let slots = table.slots in
    let at = sits c.self.view_is c.self.invariant (ap (λ t. t.shared.table_id) c.deref.ensures) in
    let here = at.here (λ (t : TableId). IsSession t c.args.session) c.requires.session in
    let place = at.here (λ (t : TableId). IsPlace t c.args.latch.now.place) c.requires.place in
    let may = at.mine (λ (m : Mine). (h : LatchRecord) × MayGrant c.args.latch.now.place c.args.session c.args.ticket h m) c.requires.granted in
    let picked = c.requires.picked in
    let open_is : c.word_in-open.result ≡ 8 * c.args.wait + 1 = c.word_in-open.ensures in
    let granted_is : c.word_in-granted.result ≡ 8 * c.args.wait + 2 = c.word_in-granted.ensures in
    let count : c.slot_count.result ≡ slots = c.slot_count.ensures ∙ ap (λ t. t.shared.table_id.slots) (c.deref-2.ensures ∙ sym c.deref.ensures) in
    let word : c.wait_word.result ≡ 8 * slots + 8 + 8 * c.args.session = c.wait_word.ensures ∙ ap (λ (n : ℕ). wait_word n c.args.session) count in (
      at.same,
      subst (λ (w : ℕ). w < table.words) (sym word) here.1,
      subst (λ (i : ℕ). Allows (ReachedFor most) slots seat.id seat.me i (λ n. either (n == c.word_in-open.result) c.word_in-granted.result n)
          (settles_granted g.J.Granting.place g.J.Granting.ticket (step slots i c.word_in-open.result c.word_in-granted.result none) seat.me)) (sym word)
          (subst (λ (e : ℕ). Allows (ReachedFor most) slots seat.id seat.me (8 * slots + 8 + 8 * c.args.session) (λ n. either (n == e) c.word_in-granted.result n)
          (settles_granted g.J.Granting.place g.J.Granting.ticket (step slots (8 * slots + 8 + 8 * c.args.session) e c.word_in-granted.result none) seat.me)) (sym open_is)
          (subst (λ (l : ℕ). Allows (ReachedFor most) slots seat.id seat.me (8 * slots + 8 + 8 * c.args.session) (λ n. either (n == 8 * c.args.wait + 1) l n)
          (settles_granted g.J.Granting.place g.J.Granting.ticket (step slots (8 * slots + 8 + 8 * c.args.session) (8 * c.args.wait + 1) l none) seat.me)) (sym granted_is)
          (subst (λ (p : ℕ). Allows (ReachedFor most) slots seat.id seat.me (8 * slots + 8 + 8 * c.args.session) (λ n. either (n == 8 * c.args.wait + 1) (8 * c.args.wait + 2) n)
          (settles_granted p g.J.Granting.ticket (step slots (8 * slots + 8 + 8 * c.args.session) (8 * c.args.wait + 1) (8 * c.args.wait + 2) none) seat.me)) picked.0
          (subst (λ (t : ℕ). Allows (ReachedFor most) slots seat.id seat.me (8 * slots + 8 + 8 * c.args.session) (λ n. either (n == 8 * c.args.wait + 1) (8 * c.args.wait + 2) n)
          (settles_granted c.args.latch.now.place t (step slots (8 * slots + 8 + 8 * c.args.session) (8 * c.args.wait + 1) (8 * c.args.wait + 2) none) seat.me)) picked.1
          (settles_granted_allowed slots seat.id c.args.session c.args.latch.now.place c.args.ticket c.args.wait seat.me at.positive here.0 place.0 place.1 may.0 may.1 most))))),
    )

pub returns-clause-own : goal.returns-clause-own
returns-clause-own g c =
    let slots = c.deref.result.now.shared.table_id.slots in
    let count : c.slot_count.result ≡ slots = c.slot_count.ensures ∙ ap (λ t. t.shared.table_id.slots) (c.deref-2.ensures ∙ sym c.deref.ensures) in
    let word : c.wait_word.result ≡ 8 * slots + 8 + 8 * c.args.session = c.wait_word.ensures ∙ ap (λ (n : ℕ). wait_word n c.args.session) count in
    rw (← c.self.view_is) (subst (λ (k : ℕ). TellsOwn k c.args.session c.compare_exchange.result c.self.inside.seat.me.0) (ap (λ t. t.shared.table_id.slots) c.deref.ensures)
    (c.compare_exchange.ensures.2.1 c.args.session c.args.wait word c.word_in-open.ensures).0)

pub returns-clause-missed : goal.returns-clause-missed
returns-clause-missed g c =
    let slots = c.deref.result.now.shared.table_id.slots in
    let count : c.slot_count.result ≡ slots = c.slot_count.ensures ∙ ap (λ t. t.shared.table_id.slots) (c.deref-2.ensures ∙ sym c.deref.ensures) in
    let word : c.wait_word.result ≡ 8 * slots + 8 + 8 * c.args.session = c.wait_word.ensures ∙ ap (λ (n : ℕ). wait_word n c.args.session) count in
    rw (← c.self.view_is) (λ missed. value_is ((c.compare_exchange.ensures.2.1 c.args.session c.args.wait word c.word_in-open.ensures).2 missed
    ∙ ap (λ (k : ℕ). missed_wait k c.args.session c.compare_exchange.result c.self.inside.seat.me) (ap (λ t. t.shared.table_id.slots) c.deref.ensures)))

pub returns-clause-keeps : goal.returns-clause-keeps
returns-clause-keeps g c =
    let slots = c.deref.result.now.shared.table_id.slots in
    let place = c.args.latch.now.place in
    let me = c.self.inside.seat.me in
    let count : c.slot_count.result ≡ slots = c.slot_count.ensures ∙ ap (λ t. t.shared.table_id.slots) (c.deref-2.ensures ∙ sym c.deref.ensures) in
    let word : c.wait_word.result ≡ 8 * slots + 8 + 8 * c.args.session = c.wait_word.ensures ∙ ap (λ (n : ℕ). wait_word n c.args.session) count in
    rw (← c.self.view_is) (λ found h book has.
    let made = (c.compare_exchange.ensures.2.1 c.args.session c.args.wait word c.word_in-open.ensures).1 found in
    subst (λ (m : Mine). Holds place (with_admitted c.args.session c.args.ticket h) book m)
    (sym (made ∙ (λ i. settled_granted slots (sym c.requires.picked.0 i) c.args.session (sym c.requires.picked.1 i) c.args.wait me)))
    (holds_changed place (with_admitted c.args.session c.args.ticket) (λ x. refl) me (settled_granted slots place c.args.session c.args.ticket c.args.wait me) refl refl h book has))

pub returns-clause-apart : goal.returns-clause-apart
returns-clause-apart g c =
    let slots = c.deref.result.now.shared.table_id.slots in
    let place = c.args.latch.now.place in
    let me = c.self.inside.seat.me in
    let count : c.slot_count.result ≡ slots = c.slot_count.ensures ∙ ap (λ t. t.shared.table_id.slots) (c.deref-2.ensures ∙ sym c.deref.ensures) in
    let word : c.wait_word.result ≡ 8 * slots + 8 + 8 * c.args.session = c.wait_word.ensures ∙ ap (λ (n : ℕ). wait_word n c.args.session) count in
    let told = c.compare_exchange.ensures.2.1 c.args.session c.args.wait word c.word_in-open.ensures in
    rw (← c.self.view_is) (elim (Rattle.std.proofs.lemmas.Bool.cases_eq c.compare_exchange.result (wait_in c.args.wait 1)) [
      | inl found ↦
          ap (elsewhere place) (told.1 found ∙ (λ i. settled_granted slots (sym c.requires.picked.0 i) c.args.session (sym c.requires.picked.1 i) c.args.wait me))
          ∙ elsewhere_changed place (with_admitted c.args.session c.args.ticket) (λ x. refl) me (settled_granted slots place c.args.session c.args.ticket c.args.wait me) refl refl
      | inr missed ↦ ap (elsewhere place) (told.2 missed)
    ])
