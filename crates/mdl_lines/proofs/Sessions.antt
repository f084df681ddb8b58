-- The numbers of sessions, and the words that write them.
use Rattle.std.proofs.Common.{◌≡◌, ℕ, ◌+◌, ◌-◌, ◌*◌, ◌≤◌, Bool, true, false, ◌&&◌, cond, List, [], ◌∷◌, length, slice_index, nat_le, refl, arith}
use Rattle.std.specs.Prelude.{Some, None, IfSome, fold}
use Rattle.std.specs.List.{list_all}
use Rattle.std.proofs.lemmas.Bool.{and_parts, leb-true}
use Rattle.mdl_key.specs.Words.{most_sessions}
use Rattle.mdl_lines.specs.Sessions.{IsScriptSession, is_digit, decimal_value, session_of}

-- more digits make no smaller number
value_grows : (value : ℕ) (digits : List ℕ) → value ≤ fold (λ value digit. 10 * value + (digit - 48)) value digits
value_grows value [] = omega arith
value_grows value (digit ∷ digits) = omega (arith, value_grows (10 * value + (digit - 48)) digits)

-- what the test of a session's word says of it
tested : (word : List ℕ) → (list_all is_digit word && nat_le 49 (slice_index word 0) && nat_le (decimal_value word) most_sessions) ≡ true → (49 ≤ slice_index word 0) × (decimal_value word ≤ most_sessions)
tested word h =
    let p = and_parts (list_all is_digit word && nat_le 49 (slice_index word 0)) _ h in
    (leb-true _ _ (and_parts (list_all is_digit word) _ p.0).1, leb-true _ _ p.1)

some_if : (P : ℕ → Type 0) (test : Bool) (value : ℕ) → (test ≡ true → P value) → IfSome (cond test (Some value) None) P
some_if P true value h = h refl
some_if P false value h = tt

none_unless : (test : Bool) (value : ℕ) → (test ≡ true → ⊥) → cond test (Some value) None ≡ None
none_unless true value h = absurd (h refl)
none_unless false value h = refl

from_first : (word : List ℕ) → 49 ≤ slice_index word 0 → 1 ≤ decimal_value word
from_first [] h = absurd (omega (arith, h))
from_first (digit ∷ digits) h = omega (arith, value_grows (10 * 0 + (digit - 48)) digits)

pub session_of-IsScriptSession : (word : List ℕ) → IfSome (session_of word) IsScriptSession
session_of-IsScriptSession word = some_if IsScriptSession _ (decimal_value word) (λ h. let t = tested word h in (from_first word t.0, t.1))

-- five digits without a leading zero make 10,000 and more
pub none_for_long : (word : List ℕ) → 5 ≤ length word → session_of word ≡ None
none_for_long [] l = absurd (omega arith)
none_for_long (a ∷ []) l = absurd (omega arith)
none_for_long (a ∷ b ∷ []) l = absurd (omega arith)
none_for_long (a ∷ b ∷ c ∷ []) l = absurd (omega arith)
none_for_long (a ∷ b ∷ c ∷ d ∷ []) l = absurd (omega arith)
none_for_long (a ∷ b ∷ c ∷ d ∷ e ∷ digits) l =
    none_unless _ (decimal_value (a ∷ b ∷ c ∷ d ∷ e ∷ digits)) (λ h. let t = tested (a ∷ b ∷ c ∷ d ∷ e ∷ digits) h in
    omega (arith, t.0, t.1, value_grows (10 * (10 * (10 * (10 * (10 * 0 + (a - 48)) + (b - 48)) + (c - 48)) + (d - 48)) + (e - 48)) digits))
