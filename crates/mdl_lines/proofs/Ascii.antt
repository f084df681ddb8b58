-- Lines of ASCII.
use Rattle.std.proofs.Common.{◌≡◌, ℕ, ◌<◌, false, List, nat_le, get_or, arith}
use Rattle.std.specs.List.{list_any}
use Rattle.std.specs.Str.{IsAscii}
use Rattle.std.proofs.lemmas.Bool.Decides.{nat_tests}
use Rattle.std.proofs.lemmas.List.Folds.{list_any_none}
use Rattle.std.proofs.lemmas.Str.Ascii.{All-from_ascii}

low : (byte : ℕ) → byte < 128 → nat_le 128 byte ≡ false
low byte l = grind (arith, nat_tests)

pub no_high_byte : (line : List ℕ) → IsAscii line → list_any (nat_le 128) line ≡ false
no_high_byte line h = list_any_none (nat_le 128) line (λ k d l. low (get_or line k d) (All-from_ascii line h k d l))
