-- Texts of pieces that are put there one after the other.
use Rattle.std.proofs.Common.{◌≡◌, ◌∙◌, ℕ, zero, suc, ◌+◌, ◌<◌, List, [], ◌∷◌, ◌++◌, length, get_or, take, Result, Ok, Err, OnOk, ap, sym, append_assoc, append-nil, drop, map, refl, arith}
use Rattle.std.specs.List.{flat_map}
use Rattle.std.proofs.lemmas.List.{take_more}
use Rattle.std.proofs.lemmas.Grind.{flat_map-append}
use Rattle.mdl_view_text.specs.Layouts.{listed, mark_before}

-- they are behind what there was
in_a_row : (there one two three first second third : List ℕ) → first ≡ there ++ one → second ≡ first ++ two → third ≡ second ++ three
    → third ≡ there ++ (one ++ (two ++ three))
in_a_row there one two three first second third e f g =
    g ∙ ap (λ xs. xs ++ three) (f ∙ ap (λ xs. xs ++ two) e) ∙ append_assoc (there ++ one) two three ∙ append_assoc there one (two ++ three)

-- so they are where the last one could be put there
pub put_in_a_row : {T E : Type 0} (result : Result T E) (there one two three first second third : List ℕ) → first ≡ there ++ one → second ≡ first ++ two
    → OnOk result (third ≡ second ++ three) → OnOk result (third ≡ there ++ (one ++ (two ++ three)))
put_in_a_row (Ok x) there one two three first second third e f g = in_a_row there one two three first second third e f g
put_in_a_row (Err x) there one two three first second third e f g = g

-- one element more puts its text there
pub one_more : {X : Type 0} (f : X → List ℕ) (xs : List X) (i : ℕ) (x : X) (old now new : List ℕ) → i < length xs → x ≡ get_or xs i x
    → now ≡ old ++ flat_map f (take i xs) → new ≡ now ++ f x → new ≡ old ++ flat_map f (take (i + 1) xs)
one_more f xs i x old now new inside is so more =
    let taken : take (i + 1) xs ≡ take i xs ++ x ∷ [] = take_more xs i x inside ∙ ap (λ y. take i xs ++ y ∷ []) (sym is) in
    let all : flat_map f (take (i + 1) xs) ≡ flat_map f (take i xs) ++ f x =
    ap (flat_map f) taken ∙ flat_map-append f (take i xs) (x ∷ []) ∙ ap (λ ys. flat_map f (take i xs) ++ ys) (append-nil (f x)) in
    more ∙ ap (λ ys. ys ++ f x) so ∙ append_assoc old (flat_map f (take i xs)) (f x) ∙ ap (λ ys. old ++ ys) (sym all)

-- a piece behind the others
pub behind : (there done piece now new : List ℕ) → now ≡ there ++ done → new ≡ now ++ piece → new ≡ there ++ (done ++ piece)
behind there done piece now new others last = last ∙ ap (λ xs. xs ++ piece) others ∙ append_assoc there done piece

-- the last one, where it could be put there
pub last_behind : {T E : Type 0} (result : Result T E) (there done piece now new : List ℕ) → now ≡ there ++ done → OnOk result (new ≡ now ++ piece)
    → OnOk result (new ≡ there ++ (done ++ piece))
last_behind (Ok x) there done piece now new others last = behind there done piece now new others last
last_behind (Err x) there done piece now new others last = last

-- texts of what is made of elements
texts_of : {X Y : Type 0} (f : Y → List ℕ) (g : X → Y) (xs : List X) → flat_map f (map g xs) ≡ flat_map (λ x. f (g x)) xs
texts_of f g [] = refl
texts_of f g (x ∷ xs) = ap (λ ys. f (g x) ++ ys) (texts_of f g xs)

pub one_more_made : {X Y : Type 0} (f : Y → List ℕ) (g : X → Y) (xs : List X) (i : ℕ) (d : X) (old now new : List ℕ) → i < length xs
    → now ≡ old ++ flat_map f (map g (take i xs)) → new ≡ now ++ f (g (get_or xs i d)) → new ≡ old ++ flat_map f (map g (take (i + 1) xs))
one_more_made {X} f g xs i d old now new inside so more =
    let h : X → List ℕ = λ x. f (g x) in
    let before : List ℕ = flat_map h (take i xs) in
    let this : List ℕ = h (get_or xs i d) in
    let taken : take (i + 1) xs ≡ take i xs ++ get_or xs i d ∷ [] = take_more xs i d inside in
    let all : flat_map h (take (i + 1) xs) ≡ before ++ this =
    ap (flat_map h) taken ∙ flat_map-append h (take i xs) (get_or xs i d ∷ []) ∙ ap (λ ys. before ++ ys) (append-nil this) in
    more ∙ ap (λ ys. ys ++ this) (so ∙ ap (λ ys. old ++ ys) (texts_of f g (take i xs))) ∙ append_assoc old before this
    ∙ ap (λ ys. old ++ ys) (sym all) ∙ ap (λ ys. old ++ ys) (sym (texts_of f g (take (i + 1) xs)))

-- the next element of a list is before the rest
next_of : {X : Type 0} (xs : List X) (i : ℕ) (x : X) → i < length xs → drop i xs ≡ get_or xs i x ∷ drop (suc i) xs
next_of [] i x inside = absurd (omega arith)
next_of (y ∷ ys) zero x inside = refl
next_of (y ∷ ys) (suc i) x inside = next_of ys i x (omega arith)

-- one element more is put there with its mark
pub next_listed : {X : Type 0} (mark : List ℕ) (text : ℕ → X → List ℕ) (xs : List X) (i : ℕ) (x : X) (all now marked new : List ℕ)
    → i < length xs → x ≡ get_or xs i x → now ++ listed mark text i (drop i xs) ≡ all → marked ≡ now ++ mark_before mark i
    → new ≡ marked ++ text i x → new ++ listed mark text (i + 1) (drop (i + 1) xs) ≡ all
next_listed mark text xs i x all now marked new inside is so mark_put text_put =
    let rest : List ℕ = listed mark text (suc i) (drop (suc i) xs) in
    let next : suc i ≡ i + 1 = omega arith in
    let split : drop i xs ≡ x ∷ drop (suc i) xs = next_of xs i x inside ∙ ap (λ y. y ∷ drop (suc i) xs) (sym is) in
    let both : new ≡ now ++ (mark_before mark i ++ text i x) = behind now (mark_before mark i) (text i x) marked new mark_put text_put in
    ap (λ n. new ++ listed mark text n (drop n xs)) (sym next) ∙ ap (λ ys. ys ++ rest) both
    ∙ append_assoc now (mark_before mark i ++ text i x) rest ∙ ap (λ ys. now ++ listed mark text i ys) (sym split) ∙ so

-- the same of what is made of elements
pub next_made : {X Y : Type 0} (mark : List ℕ) (text : ℕ → Y → List ℕ) (g : X → Y) (xs : List X) (i : ℕ) (d : X) (all now marked new : List ℕ)
    → i < length xs → now ++ listed mark text i (map g (drop i xs)) ≡ all → marked ≡ now ++ mark_before mark i
    → new ≡ marked ++ text i (g (get_or xs i d)) → new ++ listed mark text (i + 1) (map g (drop (i + 1) xs)) ≡ all
next_made mark text g xs i d all now marked new inside so mark_put text_put =
    let this : List ℕ = text i (g (get_or xs i d)) in
    let rest : List ℕ = listed mark text (suc i) (map g (drop (suc i) xs)) in
    let next : suc i ≡ i + 1 = omega arith in
    let both : new ≡ now ++ (mark_before mark i ++ this) = behind now (mark_before mark i) this marked new mark_put text_put in
    ap (λ n. new ++ listed mark text n (map g (drop n xs))) (sym next) ∙ ap (λ ys. ys ++ rest) both
    ∙ append_assoc now (mark_before mark i ++ this) rest ∙ ap (λ ys. now ++ listed mark text i (map g ys)) (sym (next_of xs i d inside)) ∙ so
