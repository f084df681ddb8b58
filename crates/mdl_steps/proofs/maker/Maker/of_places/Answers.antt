-- The words and slots are as at the start.
use Rattle.std.proofs.Common.{◌≡◌, ℕ, ◌+◌, List, length, sym, ap, ◌∙◌, subst, arith}
use Rattle.mdl_steps.proofs.Lemmas.{IsOpening, Slot, opening_words}
use Rattle.mdl_steps.proofs.Starts.{slot_count, is_opening}
use Rattle.mdl_steps.proofs.maker.Maker.of_places.Goals as goal

pub open-requires : goal.open-requires
open-requires c =
    let places = c.args.places in
    let sessions = c.args.sessions in
    let slots = c.in_ok-slots.slots in
    let made = ap length c.in_ok-slots.ensures in
    let many : c.len.result ≡ places + 1 = omega (arith, c.len.ensures, slots.ok.0, made, slot_count places) in
    let words = c.deref.ensures.value ∙ c.in_ok-words.ensures ∙ ap (λ (n : ℕ). opening_words n sessions) many in
    subst (λ (w : List ℕ). IsOpening sessions w slots.items) (sym words)
    (subst (λ (s : List Slot). IsOpening sessions (opening_words (places + 1) sessions) s) (sym c.in_ok-slots.ensures) (is_opening places sessions c.requires.sessions))
