-- What is said of classes that aren't named.
use Rattle.std.proofs.Common.{◌≡◌, ℕ, zero, suc, ◌<◌, ◌++◌, codes, refl, arith}
use Rattle.std.specs.Fmt.{decimal}
use Rattle.mdl_view_text.specs.LeftOuts.{more_classes}

pub some_more : (count : ℕ) → 0 < count → more_classes count ≡ codes ", and of " ++ decimal count ++ codes " more types"
some_more zero some = absurd (omega arith)
some_more (suc count) some = refl
