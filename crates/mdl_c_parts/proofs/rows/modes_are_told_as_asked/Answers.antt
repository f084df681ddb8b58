-- Mode by mode.
use Rattle.std.proofs.Common.{◌≡◌, Some, refl}
use Rattle.mdl_key.specs.declared.mode.Mode.{Mode}
use Rattle.mdl_key.specs.declared.mode.Mode.TheVariants.{IX, S, SH, SR, SW, SWLP, SU, SRO, SNW, SNRW, X}
use Rattle.mdl_key.specs.Words.{mode_rank}
use Rattle.mdl_c_parts.specs.Codes.{mode_at}
use Rattle.mdl_c_parts.proofs.rows.modes_are_told_as_asked.Goals as goal

asked-as_told : (mode : Mode) → mode_at (mode_rank mode) ≡ Some mode
asked-as_told IX = refl
asked-as_told S = refl
asked-as_told SH = refl
asked-as_told SR = refl
asked-as_told SW = refl
asked-as_told SWLP = refl
asked-as_told SU = refl
asked-as_told SRO = refl
asked-as_told SNW = refl
asked-as_told SNRW = refl
asked-as_told X = refl

pub returns : goal.returns
returns c = asked-as_told
