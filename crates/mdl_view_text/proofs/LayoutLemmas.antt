-- Lists with marks, and where characters and lines end.
use Rattle.std.proofs.Common.{◌≡◌, ◌∙◌, ℕ, zero, suc, ◌+◌, ◌-◌, ◌<◌, ◌≤◌, true, false, cond, nat_le, List, [], ◌∷◌, ◌++◌, get_or, length, take, codes, sym, ap, refl, arith, length-append}
use Rattle.std.proofs.lemmas.Bool.Decides.{nat_tests}
use Rattle.mdl_view_text.specs.Layouts.{begin_of_character, cut, goes_on, most_columns}

-- a place where a character begins
begins : (text : List ℕ) (place : ℕ) → goes_on (get_or text (suc place) 0) ≡ false → suc place ≡ begin_of_character text (suc place)
unfolding begin_of_character
begins text place here = rw here refl

pub begins_here : (text : List ℕ) (most back : ℕ) → back < most → goes_on (get_or text (most - back) 0) ≡ false
    → begin_of_character text (most - back) ≡ begin_of_character text most → most - back ≡ begin_of_character text most
begins_here text most back inside here so =
    let one : most - back ≡ suc (most - (back + 1)) = omega arith in
    let there : goes_on (get_or text (suc (most - (back + 1))) 0) ≡ false = rw (← one) here in
    one ∙ begins text (most - (back + 1)) there ∙ ap (begin_of_character text) (sym one) ∙ so

-- a place where none does
goes_back : (text : List ℕ) (place : ℕ) → goes_on (get_or text (suc place) 0) ≡ true → begin_of_character text (suc place) ≡ begin_of_character text place
unfolding begin_of_character
goes_back text place goes = rw goes refl

pub went_back : (text : List ℕ) (most back : ℕ) → back < most → goes_on (get_or text (most - back) 0) ≡ true
    → begin_of_character text (most - back) ≡ begin_of_character text most → begin_of_character text (most - (back + 1)) ≡ begin_of_character text most
went_back text most back inside goes so =
    let one : most - back ≡ suc (most - (back + 1)) = omega arith in
    let there : goes_on (get_or text (suc (most - (back + 1))) 0) ≡ true = rw (← one) goes in
    sym (goes_back text (most - (back + 1)) there) ∙ ap (begin_of_character text) (sym one) ∙ so

-- the first place
begins_at_start : (text : List ℕ) → begin_of_character text 0 ≡ 0
unfolding begin_of_character
begins_at_start text = refl

pub back_at_start : (text : List ℕ) (most back : ℕ) → most ≤ back → begin_of_character text (most - back) ≡ begin_of_character text most
    → 0 ≡ begin_of_character text most
back_at_start text most back all so =
    let none : most - back ≡ 0 = omega arith in
    sym (begins_at_start text) ∙ ap (begin_of_character text) (sym none) ∙ so

-- it is not behind the place
begins_within : (text : List ℕ) (place : ℕ) → begin_of_character text place ≤ place
unfolding begin_of_character
begins_within text zero = omega arith
begins_within text (suc place) =
    elim (goes_on (get_or text (suc place) 0)) as (λ b. cond b (begin_of_character text place) (suc place) ≤ suc place) [
      | true ↦ omega (arith, begins_within text place)
      | false ↦ omega arith
    ]

-- a beginning is no longer than it is to be
take_within : (n : ℕ) (xs : List ℕ) → length (take n xs) ≤ n
take_within zero xs = omega arith
take_within (suc n) [] = omega arith
take_within (suc n) (x ∷ xs) = omega (arith, take_within n xs)

-- what a test of numbers says
at_most : (m n : ℕ) → nat_le m n ≡ true → m ≤ n
at_most m n e = grind (arith, nat_tests)

-- a text that is cut is within its room
cut_short : (text : List ℕ) (end room : ℕ) → end + 2 ≤ room → length (take end text ++ codes "..") ≤ room
cut_short text end room fits = omega (arith, length-append (take end text) (codes ".."), take_within end text)

pub cut_fits : (text : List ℕ) → length (cut most_columns text) ≤ most_columns
cut_fits text =
    elim (nat_le (length text) most_columns) as (λ b. nat_le (length text) most_columns ≡ b
    → length (cond b text (take (begin_of_character text (most_columns - 2)) text ++ codes "..")) ≤ most_columns) [
      | true ↦ λ e. at_most (length text) most_columns e
      | false ↦ λ e. cut_short text (begin_of_character text (most_columns - 2)) most_columns (omega (arith, begins_within text (most_columns - 2)))
    ] refl
