-- Where a text is broken.
use Rattle.std.proofs.Common.{◌≡◌, ◌∙◌, ℕ, suc, ◌+◌, ◌-◌, ◌<◌, ◌≤◌, eqb, false, List, get_or, length, sym, ap, refl, arith}
use Rattle.std.proofs.lemmas.Bool.Decides.{nat_tests}
use Rattle.mdl_picture.specs.Texts.{blank_before}

-- a blank is the last one before the next place
blank_there : (text : List ℕ) (place : ℕ) → get_or text place 0 ≡ 32 → place ≡ blank_before text (suc place)
unfolding blank_before
blank_there text place here = rw here refl

pub blank_here : (text : List ℕ) (end back place : ℕ) → back < end → place ≡ end - back - 1 → get_or text place 0 ≡ 32
    → blank_before text (end - back) ≡ blank_before text end → place ≡ blank_before text end
blank_here text end back place inside is here so =
    let next : suc place ≡ end - back = omega arith in
    blank_there text place here ∙ ap (blank_before text) next ∙ so

-- another byte is none
no_blank_there : (text : List ℕ) (place : ℕ) → eqb (get_or text place 0) 32 ≡ false → blank_before text (suc place) ≡ blank_before text place
unfolding blank_before
no_blank_there text place other = rw other refl

is_other : (byte : ℕ) → (byte ≡ 32 → ⊥) → eqb byte 32 ≡ false
is_other byte other = grind (arith, nat_tests)

pub no_blank_here : (text : List ℕ) (end back place : ℕ) → back < end → place ≡ end - back - 1 → (get_or text place 0 ≡ 32 → ⊥)
    → blank_before text (end - back) ≡ blank_before text end → blank_before text (end - (back + 1)) ≡ blank_before text end
no_blank_here text end back place inside is other so =
    let next : suc place ≡ end - back = omega arith in
    let this : end - (back + 1) ≡ place = omega arith in
    ap (blank_before text) this ∙ sym (no_blank_there text place (is_other (get_or text place 0) other)) ∙ ap (blank_before text) next ∙ so

-- none is before the first place
no_blank_before_all : (text : List ℕ) → blank_before text 0 ≡ length text
unfolding blank_before
no_blank_before_all text = refl

pub no_blank : (text : List ℕ) (end back : ℕ) → end ≤ back → blank_before text (end - back) ≡ blank_before text end → length text ≡ blank_before text end
no_blank text end back all so =
    let none : end - back ≡ 0 = omega arith in
    sym (no_blank_before_all text) ∙ ap (blank_before text) (sym none) ∙ so
