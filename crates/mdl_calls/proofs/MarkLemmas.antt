-- The places that a session pins, by the marks of all places.
use Rattle.std.proofs.Common.{◌≡◌, ℕ, zero, suc, ◌+◌, ◌<◌, ◌≤◌, Bool, true, false, ◌==◌, List, [], ◌∷◌, ◌++◌, length, get_or, replicate, set, take, refl, sym, ap, ◌∙◌, arith}
use Rattle.std.proofs.lemmas.Bool.Decides.{nat_tests}
use Rattle.std.proofs.lemmas.List.{get_or_past, set_past, take_all}
use Rattle.std.specs.List.{list_any}
use Rattle.mdl_calls.specs.Marks.{marked_from}
use Rattle.mdl_calls.specs.SessionLocks.{with_place, without_place}

-- ---- whether a place has a mark

marked-none_below : (place from : ℕ) (marks : List Bool) → place < from → list_any (λ pin. pin == place) (marked_from from marks) ≡ false
marked-none_below place from [] lt = refl
marked-none_below place from (true ∷ marks) lt = grind (arith, nat_tests, marked-none_below place (from + 1) marks)
marked-none_below place from (false ∷ marks) lt = marked-none_below place (from + 1) marks (omega arith)

marked-at_from : (from k : ℕ) (marks : List Bool) → list_any (λ pin. pin == from + k) (marked_from from marks) ≡ get_or marks k false
marked-at_from from k [] = refl
marked-at_from from zero (true ∷ marks) = grind (arith, nat_tests)
marked-at_from from zero (false ∷ marks) = marked-none_below (from + 0) (from + 1) marks (omega arith)
marked-at_from from (suc k) (true ∷ marks) =
    let same : from + 1 + k ≡ from + suc k = omega arith in
    let later = ap (λ (p : ℕ). list_any (λ pin. pin == p) (marked_from (from + 1) marks)) (sym same) ∙ marked-at_from (from + 1) k marks in
    grind (arith, nat_tests, later)
marked-at_from from (suc k) (false ∷ marks) =
    let same : from + 1 + k ≡ from + suc k = omega arith in
    ap (λ (p : ℕ). list_any (λ pin. pin == p) (marked_from (from + 1) marks)) (sym same) ∙ marked-at_from (from + 1) k marks

pub marked-at : (place : ℕ) (marks : List Bool) → list_any (λ pin. pin == place) (marked_from 0 marks) ≡ get_or marks place false
marked-at place marks =
    let same : 0 + place ≡ place = omega arith in
    ap (λ (p : ℕ). list_any (λ pin. pin == p) (marked_from 0 marks)) (sym same) ∙ marked-at_from 0 place marks

pub marked-past : (place : ℕ) (marks : List Bool) → length marks ≤ place → list_any (λ pin. pin == place) (marked_from 0 marks) ≡ false
marked-past place marks le = marked-at place marks ∙ get_or_past marks place false le

-- ---- more places without a mark

unmarked : (place n : ℕ) → marked_from place (replicate n false) ≡ []
unmarked place zero = refl
unmarked place (suc n) = unmarked (place + 1) n

marked-filled : (place n : ℕ) (marks : List Bool) → marked_from place (marks ++ replicate n false) ≡ marked_from place marks
marked-filled place n [] = unmarked place n
marked-filled place n (true ∷ marks) = ap (λ places. place ∷ places) (marked-filled (place + 1) n marks)
marked-filled place n (false ∷ marks) = marked-filled (place + 1) n marks

pub marked-resized : (marks more : List Bool) (slots n : ℕ) → length marks ≤ slots → more ≡ take slots marks ++ replicate n false
    → marked_from 0 more ≡ marked_from 0 marks
marked-resized marks more slots n le is =
    ap (marked_from 0) (is ∙ ap (λ kept. kept ++ replicate n false) (take_all slots marks le)) ∙ marked-filled 0 n marks

-- ---- one mark more

-- a place that comes before all others
before : (place from : ℕ) (marks : List Bool) → place < from → with_place place (marked_from from marks) ≡ place ∷ marked_from from marks
before place from [] lt = refl
before place from (true ∷ marks) lt = grind (arith, nat_tests)
before place from (false ∷ marks) lt = before place (from + 1) marks (omega arith)

-- and one that comes after the first
after : (place first : ℕ) (places : List ℕ) → first < place → with_place place (first ∷ places) ≡ first ∷ with_place place places
after place first places lt = grind (arith, nat_tests)

here : (place : ℕ) (places : List ℕ) → with_place place (place ∷ places) ≡ place ∷ places
here place places = grind (arith, nat_tests)

marked-one : (from k : ℕ) (marks : List Bool) → k < length marks → marked_from from (set marks k true) ≡ with_place (from + k) (marked_from from marks)
marked-one from k [] lt = absurd (omega arith)
marked-one from zero (true ∷ marks) lt =
    let same : from ≡ from + 0 = omega arith in
    sym (here from (marked_from (from + 1) marks)) ∙ ap (λ p. with_place p (from ∷ marked_from (from + 1) marks)) same
marked-one from zero (false ∷ marks) lt =
    let same : from ≡ from + 0 = omega arith in
    sym (before from (from + 1) marks (omega arith)) ∙ ap (λ p. with_place p (marked_from (from + 1) marks)) same
marked-one from (suc k) (true ∷ marks) lt =
    let same : from + 1 + k ≡ from + suc k = omega arith in
    ap (λ places. from ∷ places) (marked-one (from + 1) k marks (omega arith) ∙ ap (λ p. with_place p (marked_from (from + 1) marks)) same)
    ∙ sym (after (from + suc k) from (marked_from (from + 1) marks) (omega arith))
marked-one from (suc k) (false ∷ marks) lt =
    let same : from + 1 + k ≡ from + suc k = omega arith in
    marked-one (from + 1) k marks (omega arith) ∙ ap (λ p. with_place p (marked_from (from + 1) marks)) same

pub marked-set : (place : ℕ) (marks : List Bool) → place < length marks → marked_from 0 (set marks place true) ≡ with_place place (marked_from 0 marks)
marked-set place marks lt =
    let same : 0 + place ≡ place = omega arith in
    marked-one 0 place marks lt ∙ ap (λ p. with_place p (marked_from 0 marks)) same

-- ---- one mark fewer

-- a place below all others isn't among them
without-below : (place from : ℕ) (marks : List Bool) → place < from → without_place place (marked_from from marks) ≡ marked_from from marks
without-below place from [] lt = refl
without-below place from (true ∷ marks) lt = grind (arith, nat_tests, without-below place (from + 1) marks)
without-below place from (false ∷ marks) lt = without-below place (from + 1) marks (omega arith)

-- the first place goes
without-here : (place : ℕ) (places : List ℕ) → without_place place (place ∷ places) ≡ without_place place places
without-here place places = grind (arith, nat_tests)

-- or stays
without-after : (place first : ℕ) (places : List ℕ) → first < place → without_place place (first ∷ places) ≡ first ∷ without_place place places
without-after place first places lt = grind (arith, nat_tests)

unmarked-one : (from k : ℕ) (marks : List Bool) → marked_from from (set marks k false) ≡ without_place (from + k) (marked_from from marks)
unmarked-one from k [] = refl
unmarked-one from zero (true ∷ marks) =
    let same : from ≡ from + 0 = omega arith in
    sym (without-here from (marked_from (from + 1) marks) ∙ without-below from (from + 1) marks (omega arith))
    ∙ ap (λ p. without_place p (from ∷ marked_from (from + 1) marks)) same
unmarked-one from zero (false ∷ marks) =
    let same : from ≡ from + 0 = omega arith in
    sym (without-below from (from + 1) marks (omega arith)) ∙ ap (λ p. without_place p (marked_from (from + 1) marks)) same
unmarked-one from (suc k) (true ∷ marks) =
    let same : from + 1 + k ≡ from + suc k = omega arith in
    ap (λ places. from ∷ places) (unmarked-one (from + 1) k marks ∙ ap (λ p. without_place p (marked_from (from + 1) marks)) same)
    ∙ sym (without-after (from + suc k) from (marked_from (from + 1) marks) (omega arith))
unmarked-one from (suc k) (false ∷ marks) =
    let same : from + 1 + k ≡ from + suc k = omega arith in
    unmarked-one (from + 1) k marks ∙ ap (λ p. without_place p (marked_from (from + 1) marks)) same

pub marked-unset : (place : ℕ) (marks : List Bool) → marked_from 0 (set marks place false) ≡ without_place place (marked_from 0 marks)
marked-unset place marks =
    let same : 0 + place ≡ place = omega arith in
    unmarked-one 0 place marks ∙ ap (λ p. without_place p (marked_from 0 marks)) same

-- nothing goes where the place has no mark
pub marked-unset_past : (place : ℕ) (marks : List Bool) → length marks ≤ place → marked_from 0 marks ≡ without_place place (marked_from 0 marks)
marked-unset_past place marks le = ap (marked_from 0) (sym (set_past marks place false le)) ∙ marked-unset place marks
