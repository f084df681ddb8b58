-- Where words begin and end.
use Rattle.std.proofs.Common.{◌≡◌, ◌∙◌, ℕ, zero, suc, ◌+◌, ◌-◌, ◌<◌, ◌≤◌, Bool, true, false, List, [], ◌∷◌, ◌++◌, filter, get_or, sym, ap, refl, arith}
use Rattle.std.specs.List.{range_with_len}
use Rattle.std.proofs.lemmas.List.Elements.{filter-append}
use Rattle.mdl_lines.specs.Words.{is_blank}
use Rattle.mdl_view_text.specs.Explanations.{word_start}

-- behind a blank a word begins
starts : (line : List ℕ) (place : ℕ) → is_blank (get_or line place 32) ≡ true → suc place ≡ word_start line (suc place)
unfolding word_start
starts line place blank = rw blank refl

pub starts_here : (line : List ℕ) (end back : ℕ) → back < end → is_blank (get_or line (end - back - 1) 32) ≡ true
    → word_start line (end - back) ≡ word_start line end → end - back ≡ word_start line end
starts_here line end back inside blank so =
    let one : end - back ≡ suc (end - back - 1) = omega arith in
    one ∙ starts line (end - back - 1) blank ∙ ap (word_start line) (sym one) ∙ so

-- behind another byte it goes on
comes_before : (line : List ℕ) (place : ℕ) → is_blank (get_or line place 32) ≡ false → word_start line (suc place) ≡ word_start line place
unfolding word_start
comes_before line place other = rw other refl

pub came_before : (line : List ℕ) (end back : ℕ) → back < end → is_blank (get_or line (end - back - 1) 32) ≡ false
    → word_start line (end - back) ≡ word_start line end → word_start line (end - (back + 1)) ≡ word_start line end
came_before line end back inside other so =
    let one : end - back ≡ suc (end - back - 1) = omega arith in
    let same : end - (back + 1) ≡ end - back - 1 = omega arith in
    ap (word_start line) same ∙ sym (comes_before line (end - back - 1) other) ∙ ap (word_start line) (sym one) ∙ so

-- the first word may begin with its line
starts_line : (line : List ℕ) → word_start line 0 ≡ 0
unfolding word_start
starts_line line = refl

pub first_starts : (line : List ℕ) (end back : ℕ) → end ≤ back → word_start line (end - back) ≡ word_start line end → 0 ≡ word_start line end
first_starts line end back all so =
    let none : end - back ≡ 0 = omega arith in
    sym (starts_line line) ∙ ap (word_start line) (sym none) ∙ so

-- one number more
range_more : (a n j : ℕ) → a + n ≡ j → range_with_len a (suc n) ≡ range_with_len a n ++ j ∷ []
range_more a zero j is = let first : a ≡ j = omega arith in ap (λ x. x ∷ []) first
range_more a (suc n) j is = ap (λ xs. a ∷ xs) (range_more (a + 1) n j (omega arith))

-- one place more, where a word may end
pub one_end_more : (p : ℕ → Bool) (place : ℕ) (old new : List ℕ) → old ≡ filter p (range_with_len 1 place)
    → new ≡ old ++ filter p ((place + 1) ∷ []) → new ≡ filter p (range_with_len 1 (place + 1))
one_end_more p place old new so more =
    let next : suc place ≡ place + 1 = omega arith in
    let grown = range_more 1 place (place + 1) (omega arith) in
    more ∙ ap (λ zs. zs ++ filter p ((place + 1) ∷ [])) so ∙ sym (filter-append p (range_with_len 1 place) ((place + 1) ∷ []))
    ∙ ap (filter p) (sym grown) ∙ ap (λ n. filter p (range_with_len 1 n)) next
