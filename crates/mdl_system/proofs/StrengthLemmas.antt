-- Of two modes of one kind, which is the stronger is the same in a kind that has both; and which modes a held one may become.
use Rattle.std.proofs.Common.{◌≡◌, Bool, true, false, ◌&&◌, ◌||◌, not, [], ◌∷◌, refl, sym, ◌∙◌}
use Rattle.std.specs.Prelude.{Contains}
use Rattle.std.specs.List.{list_all}
use Rattle.std.proofs.lemmas.Bool.{and_from, and_parts}
use Rattle.mdl_key.specs.declared.namespace.Kind.{Kind}
use Rattle.mdl_key.specs.declared.namespace.Kind.TheVariants.{Scoped, Object}
use Rattle.mdl_key.specs.declared.mode.Mode.{Mode}
use Rattle.mdl_key.specs.declared.mode.Mode.TheVariants.{SU, SNW, SNRW, X}
use Rattle.mdl_key.specs.Words.{is_at_least, IsAtLeast, all_modes, is_mode_of}
use Rattle.mdl_key.proofs.MatrixLemmas.{each_mode, same, same-true, at_least-exact}
use Rattle.mdl_system.specs.Strength.{downgrades, covers, may_upgrade, may_downgrade}
use Rattle.mdl_system.proofs.LawfulLemmas.{implied}
use Rattle.mdl_system.proofs.OrderLemmas.{Contains-here, Contains-later}

-- whether both tests answer the same of two modes, if both are modes of the kind
abbrev agrees : Kind → Mode → Mode → Bool
agrees kind held mode = not (is_mode_of kind held && is_mode_of kind mode) || same (covers held mode) (is_at_least kind held mode)

agrees_kind : (kind : Kind) → list_all (λ held. list_all (agrees kind held) all_modes) all_modes ≡ true
agrees_kind Scoped = refl
agrees_kind Object = refl

pub strength-by_kind : (kind : Kind) (held mode : Mode) → is_mode_of kind held ≡ true → is_mode_of kind mode ≡ true → covers held mode ≡ is_at_least kind held mode
strength-by_kind kind held mode held_fits mode_fits =
    same-true _ _ (implied _ _ (each_mode (agrees kind held) (each_mode (λ h. list_all (agrees kind h) all_modes) (agrees_kind kind) held) mode)
    (and_from _ _ held_fits mode_fits))

-- what covers another is at least as strong
pub covers-at_least : (kind : Kind) (held mode : Mode) → is_mode_of kind held ≡ true → is_mode_of kind mode ≡ true → covers held mode ≡ true → IsAtLeast kind held mode
covers-at_least kind held mode held_fits mode_fits covered =
    (at_least-exact kind held mode).0 (sym (strength-by_kind kind held mode held_fits mode_fits) ∙ covered)

-- whether a mode that a held one may be upgraded to covers it, and isn't one that it may be downgraded to
abbrev raises : Mode → Mode → Bool
raises held mode = not (may_upgrade held mode) || (covers mode held && not (may_downgrade held mode))

raises_all : list_all (λ held. list_all (raises held) all_modes) all_modes ≡ true
raises_all = refl

-- an upgrade is to a stronger mode
pub upgrade-raises : (held mode : Mode) → may_upgrade held mode ≡ true → (covers mode held ≡ true) × (may_downgrade held mode ≡ false)
upgrade-raises held mode may =
    let both = and_parts _ _ (implied _ _ (each_mode (raises held) (each_mode (λ h. list_all (raises h) all_modes) raises_all held) mode) may) in
    (both.0, unless (may_downgrade held mode) both.1)
  where
    unless : (b : Bool) → not b ≡ true → b ≡ false
    unless true e = cc
    unless false e = refl

-- a downgrade is to one of the modes that there are for it
pub downgrade-listed : (held mode : Mode) → may_downgrade held mode ≡ true → Contains (downgrades held) mode
downgrade-listed X SU may = Contains-here SU (SNW ∷ SNRW ∷ [])
downgrade-listed X SNW may = Contains-later SU (SNW ∷ SNRW ∷ []) SNW (Contains-here SNW (SNRW ∷ []))
downgrade-listed X SNRW may = Contains-later SU (SNW ∷ SNRW ∷ []) SNRW (Contains-later SNW (SNRW ∷ []) SNRW (Contains-here SNRW []))
downgrade-listed SNW SU may = Contains-here SU []
downgrade-listed _ _ may = cc
