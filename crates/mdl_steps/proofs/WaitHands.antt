-- What a seat has in hand after a step on a wait's word.
use Rattle.std.proofs.Common.{◌≡◌, ℕ, ◌==◌, List, ◌∷◌, map, cond, not, sym, ap, ◌∙◌, subst, filter}
use Rattle.mdl_steps.proofs.Common.{BookView, Holds, LatchRecord, Mine, elsewhere, held_at}
use Rattle.mdl_steps.proofs.Hands.{holds_stepped, elsewhere-stepped}
use Rattle.mdl_steps.specs.declared.step_kind.StepKind.TheVariants as step_kind

module _ (place : ℕ) (f : LatchRecord → LatchRecord) (stays : (x : LatchRecord) → (f x).place ≡ x.place) (m m′ : Mine) (latches : m′.0.latches ≡ map (λ h. cond (h.place == place) (f h) h) m.0.latches) (hand : m′.1 ≡ m.1) where
  -- the record of the place is changed
  pub holds_changed : (h : LatchRecord) (book : BookView) → Holds place h book m → Holds place (f h) book m′
  holds_changed h book has =
      let now = holds_stepped step_kind.ReadWord place 0 f h book m stays has in
      record { recorded = ap (held_at place) latches ∙ now.recorded; carried = subst (λ xs. ◌≡◌ {A = List (ℕ × Rattle.mdl_steps.specs.declared.slot.Slot.Slot)} xs ((place, Rattle.mdl_steps.specs.declared.slot.Slot.TheVariants.Place book) ∷ Rattle.mdl_steps.specs.Seats.rest xs)) (sym hand) has.carried }

  -- and no other
  pub elsewhere_changed : elsewhere place m′ ≡ elsewhere place m
  elsewhere_changed = ap (λ (hs : List LatchRecord). filter (λ h. not (h.place == place)) hs) latches ∙ elsewhere-stepped step_kind.ReadWord place 0 f m stays
