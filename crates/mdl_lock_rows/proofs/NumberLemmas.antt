-- Numbers of digits.
use Rattle.std.proofs.Common.{◌≡◌, ◌∙◌, ℕ, ◌+◌, ◌-◌, ◌*◌, ◌^◌, ◌<◌, ◌==◌, true, false, not, ◌&&◌, cond, List, [], ◌∷◌, length, nat_lt, refl, sym, ap, subst, arith, rules}
use Rattle.std.specs.Prelude.{Some, None, Result, Ok, Err, MatchResult, fold}
use Rattle.std.specs.List.{list_all, All}
use Rattle.std.specs.Result.{OkIff, result_ok}
use Rattle.std.specs.Str.{IsUtf8}
use Rattle.std.specs.Str.Parse.{ParsesUnsigned}
use Rattle.std.proofs.lemmas.Bool.{and_parts, ltb-true}
use Rattle.std.proofs.lemmas.Bool.Decides.{nat_tests}
use Rattle.std.proofs.lemmas.List.Elements.{All-nil, All-cons}
use Rattle.std.proofs.lemmas.Str.{IsUtf8-from_ascii}
use Rattle.std.proofs.lemmas.Str.Ascii.{IsAscii-from_all}
use Rattle.std.proofs.lemmas.Str.Parse.{IsNumeralModel, numerals_by_fold, parse_digits}
use Rattle.mdl_lines.specs.Words.{decimal_value, is_digit}
use Rattle.mdl_lock_rows.specs.Lines.{number_in}

-- digits are text
all_low : (digits : List ℕ) → list_all is_digit digits ≡ true → All (λ byte. byte < 128) digits
all_low [] e = All-nil (λ byte. byte < 128)
all_low (digit ∷ digits) e =
    let parts = and_parts (is_digit digit) (list_all is_digit digits) e in
    let low : digit < 128 = grind (arith, nat_tests, parts.0) in
    All-cons (λ byte. byte < 128) digit digits low (all_low digits parts.1)

pub digits-IsUtf8 : (digits : List ℕ) → list_all is_digit digits ≡ true → IsUtf8 digits
digits-IsUtf8 digits e = IsUtf8-from_ascii digits (IsAscii-from_all digits (all_low digits e))

-- the number so far, and the digits behind it
abbrev reads_on : ℕ → List ℕ → ℕ
reads_on value digits = fold (λ value digit. 10 * value + (digit - 48)) value digits

own : IsNumeralModel (λ digits. list_all is_digit digits ≡ true) (reads_on 0)
own = numerals_by_fold _ (search rules) reads_on (search rules)

fits : (digits : List ℕ) → (not (length digits == 0) && nat_lt (decimal_value digits) (2 ^ 64)) ≡ true → (0 < length digits) × (decimal_value digits < 2 ^ 64)
fits digits e =
    let parts = and_parts (not (length digits == 0)) (nat_lt (decimal_value digits) (2 ^ 64)) e in
    let some : 0 < length digits = grind (arith, nat_tests, parts.0) in
    (some, ltb-true _ _ parts.1)

-- what parsing digits gives
pub parsed-number_in : {E : Type 0} (digits : List ℕ) (r : Result ℕ E) → ParsesUnsigned 64 10 digits r → list_all is_digit digits ≡ true → result_ok r ≡ number_in digits
parsed-number_in {E} digits r h all = by r (parse_digits own 64 digits r h all) where
  by : (r : Result ℕ E) → OkIff r ((0 < length digits) × (decimal_value digits < 2 ^ 64)) (decimal_value digits) → result_ok r ≡ number_in digits
  by (Ok value) k =
      let test : (not (length digits == 0) && nat_lt (decimal_value digits) (2 ^ 64)) ≡ true = grind (arith, nat_tests, k.0.0, k.0.1) in
      ap Some k.1 ∙ ap (λ b. cond b (Some (decimal_value digits)) None) (sym test)
  by (Err error) k =
      elim (not (length digits == 0) && nat_lt (decimal_value digits) (2 ^ 64)) as (λ b. (not (length digits == 0) && nat_lt (decimal_value digits) (2 ^ 64)) ≡ b → None ≡ cond b (Some (decimal_value digits)) None) [
        | true ↦ λ e. absurd (k (fits digits e))
        | false ↦ λ e. refl
      ] refl

-- what a call says of its `Ok` or its `Err`, from what `ok` made of it
pub ok_from_some : {T E : Type 0} (r : Result T E) (P : T → Type 0) (Q : E → Type 0) (x : T) → Some x ≡ result_ok r → MatchResult r P Q → P x
ok_from_some (Ok y) P Q x e m = let same : y ≡ x = cc in subst P same m
ok_from_some (Err y) P Q x e m = absurd (cc)

pub err_from_none : {T E G : Type 0} (r : Result T E) (P : T → Type 0) (Q : E → Type 0) → None ≡ result_ok r → ((error : E) → Q error → G) → MatchResult r P Q → G
err_from_none (Ok y) P Q e k m = absurd (cc)
err_from_none (Err y) P Q e k m = k y m
