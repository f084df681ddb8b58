-- Modes by their ranks.
use Rattle.std.proofs.Common.{◌≡◌, get_or, refl}
use Rattle.mdl_key.specs.declared.mode.Mode.{Mode}
use Rattle.mdl_key.specs.declared.mode.Mode.TheVariants.{IX, S, SH, SR, SW, SWLP, SU, SRO, SNW, SNRW, X}
use Rattle.mdl_key.specs.Modes.{mode_rank, all_modes}

-- each mode stands at its rank
pub at_rank : (mode : Mode) → get_or all_modes (mode_rank mode) IX ≡ mode
at_rank IX = refl
at_rank S = refl
at_rank SH = refl
at_rank SR = refl
at_rank SW = refl
at_rank SWLP = refl
at_rank SU = refl
at_rank SRO = refl
at_rank SNW = refl
at_rank SNRW = refl
at_rank X = refl
