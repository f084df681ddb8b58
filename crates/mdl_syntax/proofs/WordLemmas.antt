-- The words of a line, cut at its first blank.
use Rattle.std.proofs.Common.{◌≡◌, ℕ, ◌+◌, ◌<◌, ◌≤◌, Bool, true, false, not, cond, ◌==◌, nat_lt, List, [], ◌∷◌, length, take, drop, refl, sym, ap, subst, arith}
use Rattle.std.specs.Prelude.{Some, None, filter, position}
use Rattle.std.specs.List.{All, slice_split, position_or_len}
use Rattle.std.proofs.lemmas.Bool.{ltb-true, ltb-false}
use Rattle.std.proofs.lemmas.List.Elements.{All-nil, All-cons}
use Rattle.std.proofs.lemmas.List.Splits.{slice_split_first, slice_split_none}
use Rattle.mdl_lines.specs.Lines.{is_blank, words_of}

-- a place that is found is the first that passes, and one that isn't found is past the end
pub found_at : {X : Type 0} (p : X → Bool) (xs : List X) (at : ℕ) → Some at ≡ position p xs → (at ≡ position_or_len p xs) × (position_or_len p xs < length xs)
found_at p xs at = by (nat_lt (position_or_len p xs) (length xs)) refl where
  by : (b : Bool) → nat_lt (position_or_len p xs) (length xs) ≡ b → Some at ≡ cond b (Some (position_or_len p xs)) None → (at ≡ position_or_len p xs) × (position_or_len p xs < length xs)
  by true is e = (cc, ltb-true _ _ is)
  by false is e = absurd (cc)

all_past : {X : Type 0} (p : X → Bool) (xs : List X) → length xs ≤ position_or_len p xs → All (λ x. p x ≡ false) xs
all_past p [] h = All-nil (λ y. p y ≡ false)
all_past p (x ∷ xs) h = by (p x) refl (all_past p xs) h where
  by : (b : Bool) → p x ≡ b → (length xs ≤ position_or_len p xs → All (λ x. p x ≡ false) xs) → length (x ∷ xs) ≤ cond (not b) (1 + position_or_len p xs) 0 → All (λ x. p x ≡ false) (x ∷ xs)
  by true is rest h = absurd (omega (arith, h))
  by false is rest h = All-cons (λ y. p y ≡ false) x xs is (rest (omega (arith, h)))

pub none_passes : {X : Type 0} (p : X → Bool) (xs : List X) → None ≡ position p xs → All (λ x. p x ≡ false) xs
none_passes p xs = by (nat_lt (position_or_len p xs) (length xs)) refl where
  by : (b : Bool) → nat_lt (position_or_len p xs) (length xs) ≡ b → None ≡ cond b (Some (position_or_len p xs)) None → All (λ x. p x ≡ false) xs
  by true is e = absurd (cc)
  by false is e = all_past p xs (ltb-false _ _ is)

-- a blank ends the first word, where there is one before it
pub words_of-cut : (line : List ℕ) (end : ℕ) → Some end ≡ position is_blank line → words_of line ≡ cond (not (length (take end line) == 0)) (take end line ∷ words_of (drop (end + 1) line)) (words_of (drop (end + 1) line))
words_of-cut line end e =
    let at = found_at is_blank line end e in
    let cut = slice_split_first is_blank line 0 at.1 in
    ap (λ parts. filter (λ word. not (length word == 0)) parts) (subst (λ n. slice_split is_blank line ≡ take n line ∷ slice_split is_blank (drop (n + 1) line)) (sym at.0) cut)

-- a line without a blank is a word, or empty
pub words_of-uncut : (line : List ℕ) → None ≡ position is_blank line → words_of line ≡ cond (not (length line == 0)) (line ∷ []) []
words_of-uncut line e = ap (λ parts. filter (λ word. not (length word == 0)) parts) (slice_split_none is_blank line (none_passes is_blank line e))
