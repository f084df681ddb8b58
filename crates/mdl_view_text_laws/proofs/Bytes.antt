-- Facts of bytes that are tested one by one.
use Rattle.std.proofs.Common.{◌≡◌, ℕ, zero, suc, ◌/◌, ◌%◌, ◌<◌, Bool, true, false, not, ◌&&◌, ◌==◌, inl, inr, Some, refl, sym, ap, subst, arith}
use Rattle.std.proofs.lemmas.Bool.{cases_eq, and_parts, eqb-true, not-true}
use Rattle.std.specs.Char.{digit_value, is_digit}
use Rattle.json.specs.Text.{code_unit}
use Rattle.mdl_view_text.specs.Names.{hex_digit}

-- a test of each number below this one
abbrev pub passes_below : (ℕ → Bool) → ℕ → Bool
passes_below test zero = true
passes_below test (suc n) = test n && passes_below test n

pub passes_there : (test : ℕ → Bool) (n : ℕ) → passes_below test n ≡ true → (x : ℕ) → x < n → test x ≡ true
passes_there test zero all x h = absurd (omega arith)
passes_there test (suc n) all x h =
    let parts = and_parts _ _ all in
    elim (cases_eq x n) [ inl same ↦ subst (λ y. test y ≡ true) (sym same) parts.0 | inr other ↦ passes_there test n parts.1 x (omega arith) ]

-- ---- hexadecimal digits

abbrev is_read_back : ℕ → Bool
is_read_back half =
    is_digit (hex_digit half) 16 && ((digit_value (hex_digit half) == half) && (not (hex_digit half == 34) && not (hex_digit half == 92)))

pub record IsReadBack (half : ℕ) : Type 0 where
  pub is_digit : is_digit (hex_digit half) 16 ≡ true
  pub value : digit_value (hex_digit half) ≡ half
  pub no_quote : (hex_digit half == 34) ≡ false
  pub no_backslash : (hex_digit half == 92) ≡ false

pub each_digit : (half : ℕ) → half < 16 → IsReadBack half
each_digit half h =
    let whole = and_parts _ _ (passes_there is_read_back 16 refl half h) in
    let more = and_parts _ _ whole.1 in
    let last = and_parts _ _ more.1 in
    record {
      is_digit = whole.0;
      value = eqb-true _ _ more.0;
      no_quote = not-true _ last.0;
      no_backslash = not-true _ last.1;
    }

-- the code unit of a byte's two digits
pub code_unit-byte : (byte : ℕ) → byte < 256 → code_unit 48 48 (hex_digit (byte / 16)) (hex_digit (byte % 16)) ≡ Some byte
unfolding code_unit
code_unit-byte byte h =
    let high = each_digit (byte / 16) (omega arith) in
    let low = each_digit (byte % 16) (omega arith) in
    rw (high.is_digit, low.is_digit, high.value, low.value) (ap Some (omega arith))
