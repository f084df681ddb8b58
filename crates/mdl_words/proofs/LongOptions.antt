-- How a long option is spelled, without a value and with one.
use Rattle.std.proofs.Common.{◌≡◌, ◌∙◌, ◌==◌, ◌||◌, ap, ap₂, arith, refl, sym, true, false, Bool, [], ◌∷◌, ◌++◌, Option, Some, None, suc, drop, take, ◌+◌, if◌then◌else◌}
use Rattle.std.specs.Prelude.{option_and_then, unwrap_or}
use Rattle.std.specs.List.{after_first, before_first, position_or_len}
use Rattle.std.proofs.lemmas.Bool.Decides.{Decides-eqb}
use Rattle.clap.specs.Lexer.{has_byte, long_of, long_of_rest, name_and_value, strip_byte}
use Rattle.clap.specs.Walk.{Text}

-- a name that has no `=` is all that follows the hyphens
before_none : (text : Text) → has_byte 61 text ≡ false → before_first (λ x. x == 61) text ≡ text
before_none [] e = refl
before_none (x ∷ xs) e = go (x == 61) refl (before_none xs) e
  where
    go : (b : Bool) → (x == 61) ≡ b → (has_byte 61 xs ≡ false → before_first (λ x. x == 61) xs ≡ xs) → (b || has_byte 61 xs) ≡ false
        → before_first (λ x. x == 61) (x ∷ xs) ≡ x ∷ xs
    go true is behind bad = absurd (cc)
    go false is behind none =
        let one : 1 + position_or_len (λ x. x == 61) xs ≡ suc (position_or_len (λ x. x == 61) xs) = omega arith in
        rw is (ap (λ n. take n (x ∷ xs)) one ∙ ap (λ rest. x ∷ rest) (behind none))

name_from : (text name : Text) → name_and_value text ≡ (name, None) → text ≡ name
name_from text name e = go (has_byte 61 text) refl (ap (λ p. p.1) e)
  where
    go : (b : Bool) → has_byte 61 text ≡ b → ◌≡◌ {A = Option Text} (if b then Some (after_first (λ x. x == 61) text) else None) None → text ≡ name
    go true is bad = absurd (cc)
    go false is none = sym (before_none text is) ∙ ap (λ p. p.0) e

stripped : (text rest : Text) → strip_byte 45 text ≡ Some rest → text ≡ 45 ∷ rest
stripped [] rest e = absurd (cc)
stripped (x ∷ xs) rest e = go (x == 45) refl e
  where
    go : (b : Bool) → (x == 45) ≡ b → (if b then Some xs else None) ≡ Some rest → x ∷ xs ≡ 45 ∷ rest
    go true is found = ap₂ (λ y ys. y ∷ ys) ((Decides-eqb x 45).0 is) (ap (λ o. unwrap_or o xs) found)
    go false is bad = absurd (cc)

-- a text that has a `=` is what stands before it, the `=`, and what stands behind it
parted : (text : Text) → has_byte 61 text ≡ true → text ≡ before_first (λ x. x == 61) text ++ 61 ∷ after_first (λ x. x == 61) text
parted [] bad = absurd (cc)
parted (x ∷ xs) has = go (x == 61) refl (parted xs) has
  where
    go : (b : Bool) → (x == 61) ≡ b → (has_byte 61 xs ≡ true → xs ≡ before_first (λ x. x == 61) xs ++ 61 ∷ after_first (λ x. x == 61) xs) → (b || has_byte 61 xs) ≡ true
        → x ∷ xs ≡ before_first (λ x. x == 61) (x ∷ xs) ++ 61 ∷ after_first (λ x. x == 61) (x ∷ xs)
    go true is behind has = rw is (ap (λ y. y ∷ xs) ((Decides-eqb x 61).0 is))
    go false is behind has =
        let n = position_or_len (λ x. x == 61) xs in
        let before : 1 + n ≡ suc n = omega arith in
        let after : 1 + n + 1 ≡ suc (n + 1) = omega arith in
        rw is (ap (λ rest. x ∷ rest) (behind has) ∙ sym (ap₂ (λ a b. take a (x ∷ xs) ++ 61 ∷ drop b (x ∷ xs)) before after))

value_from : (text name v : Text) → name_and_value text ≡ (name, Some v) → text ≡ name ++ 61 ∷ v
value_from text name v e = go (has_byte 61 text) refl (ap (λ p. p.1) e)
  where
    go : (b : Bool) → has_byte 61 text ≡ b → ◌≡◌ {A = Option Text} (if b then Some (after_first (λ x. x == 61) text) else None) (Some v) → text ≡ name ++ 61 ∷ v
    go true is some = parted text is ∙ ap₂ (λ a b. a ++ 61 ∷ b) (ap (λ p. p.0) e) (ap (λ o. unwrap_or o v) some)
    go false is bad = absurd (cc)

-- the word of a long option is two hyphens, and a text that has its name and its value
worded : (w : Text) (p : Text × Option Text) → long_of w ≡ Some p → (text : Text) × (w ≡ 45 ∷ 45 ∷ text) × (name_and_value text ≡ p)
worded w p e = second (strip_byte 45 w) refl e
  where
    third : (rest : Text) (o : Option Text) → strip_byte 45 rest ≡ o → option_and_then long_of_rest o ≡ Some p
        → (text : Text) × (rest ≡ 45 ∷ text) × (name_and_value text ≡ p)
    third rest None is bad = absurd (cc)
    third rest (Some []) is bad = absurd (cc)
    third rest (Some (x ∷ xs)) is met = (x ∷ xs, stripped rest (x ∷ xs) is, ap (λ o. unwrap_or o (name_and_value (x ∷ xs))) met)

    second : (o : Option Text) → strip_byte 45 w ≡ o → option_and_then long_of_rest (option_and_then (strip_byte 45) o) ≡ Some p
        → (text : Text) × (w ≡ 45 ∷ 45 ∷ text) × (name_and_value text ≡ p)
    second None is bad = absurd (cc)
    second (Some rest) is met =
        let found = third rest (strip_byte 45 rest) refl met in
        (found.0, stripped w rest is ∙ ap (λ xs. 45 ∷ xs) found.1, found.2)

-- the word of a long option without a value is two hyphens and its name
pub spelled : (w name : Text) → long_of w ≡ Some (name, None) → w ≡ 45 ∷ 45 ∷ name
spelled w name e =
    let found = worded w (name, None) e in
    found.1 ∙ ap (λ xs. 45 ∷ 45 ∷ xs) (name_from found.0 name found.2)

-- and that of one with a value has a `=` and the value behind its name
pub spelled_with : (w name v : Text) → long_of w ≡ Some (name, Some v) → w ≡ 45 ∷ 45 ∷ (name ++ 61 ∷ v)
spelled_with w name v e =
    let found = worded w (name, Some v) e in
    found.1 ∙ ap (λ xs. 45 ∷ 45 ∷ xs) (value_from found.0 name v found.2)
