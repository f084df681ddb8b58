-- The rows of the matrices, and the words of a row.
use Rattle.std.proofs.Common.{◌≡◌, ℕ, ◌+◌, ◌<◌, Bool, true, false, cond, List, [], ◌∷◌, ◌++◌, length, take, get_or, refl, sym, ap, ◌∙◌, append_assoc, append-nil}
use Rattle.std.specs.Prelude.{◌==◌, codes, filter, flat_map, map}
use Rattle.std.proofs.lemmas.Grind.{flat_map-append}
use Rattle.std.proofs.lemmas.List.Elements.{filter_more}
use Rattle.std.specs.List.{list_any, join_by}
use Rattle.mdl_key.specs.declared.namespace.Kind.{Kind}
use Rattle.mdl_key.specs.declared.namespace.Kind.TheVariants.{Scoped, Object}
use Rattle.mdl_key.specs.declared.mode.Mode.{Mode}
use Rattle.mdl_key.specs.declared.mode.Mode.TheVariants.{IX, S, SH, SR, SW, SWLP, SU, SRO, SNW, SNRW, X}
use Rattle.mdl_key.specs.Modes.{all_modes, same_mode, mode_name}
use Rattle.mdl_lock.specs.declared.matrices.Matrix.{Matrix}
use Rattle.mdl_lock.specs.declared.matrices.Matrix.TheVariants.{Granted, Waiting}
use Rattle.mdl_lock.specs.MatrixText.{row_of, row_text}

-- a row stands in the order of the modes: it is what is left of all modes where the others are taken out
pub row_in_order : (matrix : Matrix) (kind : Kind) (ask : Mode) → filter (λ other. list_any (same_mode other) (row_of matrix kind ask)) all_modes ≡ row_of matrix kind ask
row_in_order Granted Scoped IX = refl
row_in_order Granted Scoped S = refl
row_in_order Granted Scoped SH = refl
row_in_order Granted Scoped SR = refl
row_in_order Granted Scoped SW = refl
row_in_order Granted Scoped SWLP = refl
row_in_order Granted Scoped SU = refl
row_in_order Granted Scoped SRO = refl
row_in_order Granted Scoped SNW = refl
row_in_order Granted Scoped SNRW = refl
row_in_order Granted Scoped X = refl
row_in_order Granted Object IX = refl
row_in_order Granted Object S = refl
row_in_order Granted Object SH = refl
row_in_order Granted Object SR = refl
row_in_order Granted Object SW = refl
row_in_order Granted Object SWLP = refl
row_in_order Granted Object SU = refl
row_in_order Granted Object SRO = refl
row_in_order Granted Object SNW = refl
row_in_order Granted Object SNRW = refl
row_in_order Granted Object X = refl
row_in_order Waiting Scoped IX = refl
row_in_order Waiting Scoped S = refl
row_in_order Waiting Scoped SH = refl
row_in_order Waiting Scoped SR = refl
row_in_order Waiting Scoped SW = refl
row_in_order Waiting Scoped SWLP = refl
row_in_order Waiting Scoped SU = refl
row_in_order Waiting Scoped SRO = refl
row_in_order Waiting Scoped SNW = refl
row_in_order Waiting Scoped SNRW = refl
row_in_order Waiting Scoped X = refl
row_in_order Waiting Object IX = refl
row_in_order Waiting Object S = refl
row_in_order Waiting Object SH = refl
row_in_order Waiting Object SR = refl
row_in_order Waiting Object SW = refl
row_in_order Waiting Object SWLP = refl
row_in_order Waiting Object SU = refl
row_in_order Waiting Object SRO = refl
row_in_order Waiting Object SNW = refl
row_in_order Waiting Object SNRW = refl
row_in_order Waiting Object X = refl

flat_map-map : {A B C : Type 0} (f : A → B) (g : B → List C) (xs : List A) → flat_map g (map f xs) ≡ flat_map (λ x. g (f x)) xs
flat_map-map f g [] = refl
flat_map-map f g (x ∷ xs) = ap (λ rest. g (f x) ++ rest) (flat_map-map f g xs)

join_by-map : {A B C : Type 0} (f : A → B) (g : B → List C) (separator : List C) (xs : List A) → join_by g separator (map f xs) ≡ join_by (λ x. g (f x)) separator xs
join_by-map f g separator [] = refl
join_by-map f g separator (x ∷ xs) = ap (λ rest. g (f x) ++ rest) (flat_map-map f (λ y. separator ++ g y) xs)

-- the names of the modes of a row, joined by spaces, are its text
pub joined_names : {A : Type 0} (name : A → List ℕ) (names : List A) (row : List Mode) → (length row == 0) ≡ false → map name names ≡ map mode_name row → join_by name (codes " ") names ≡ row_text row
joined_names name names [] some same = absurd (cc)
joined_names name names (mode ∷ modes) some same =
    sym (join_by-map name (λ text. text) (codes " ") names) ∙ ap (join_by (λ text. text) (codes " ")) same ∙ join_by-map mode_name (λ text. text) (codes " ") (mode ∷ modes)

-- what is written of the first items that pass, and of one more, which passes or doesn't
module _ {A B : Type 0} (write : A → List B) (test : A → Bool) (xs : List A) (i : ℕ) (d : A) (inside : i < length xs) where
  so_far_more : (passes : Bool) → test (get_or xs i d) ≡ passes → flat_map write (filter test (take (i + 1) xs)) ≡ flat_map write (filter test (take i xs)) ++ cond passes (write (get_or xs i d)) []
  so_far_more true e =
      ap (flat_map write) (filter_more test xs i d inside ∙ ap (λ b. filter test (take i xs) ++ cond b (get_or xs i d ∷ []) []) e)
      ∙ flat_map-append write (filter test (take i xs)) (get_or xs i d ∷ []) ∙ ap (λ last. flat_map write (filter test (take i xs)) ++ last) (append-nil (write (get_or xs i d)))
  so_far_more false e =
      ap (flat_map write) (filter_more test xs i d inside ∙ ap (λ b. filter test (take i xs) ++ cond b (get_or xs i d ∷ []) []) e)
      ∙ flat_map-append write (filter test (take i xs)) []

  pub written_more : (before text more : List B) → text ≡ before ++ flat_map write (filter test (take i xs)) → test (get_or xs i d) ≡ true → more ≡ text ++ write (get_or xs i d) → more ≡ before ++ flat_map write (filter test (take (i + 1) xs))
  written_more before text more so passes e =
      e ∙ ap (λ t. t ++ write (get_or xs i d)) so ∙ append_assoc before (flat_map write (filter test (take i xs))) (write (get_or xs i d)) ∙ ap (λ t. before ++ t) (sym (so_far_more true passes))

  pub passed_over : (before text : List B) → text ≡ before ++ flat_map write (filter test (take i xs)) → test (get_or xs i d) ≡ false → text ≡ before ++ flat_map write (filter test (take (i + 1) xs))
  passed_over before text so fails =
      so ∙ ap (λ t. before ++ t) (sym (so_far_more false fails ∙ append-nil (flat_map write (filter test (take i xs)))))

-- four texts, written one after another
pub written_in_turn : {A : Type 0} (a b c d empty one two three four : List A) → empty ≡ [] → one ≡ empty ++ a → two ≡ one ++ b → three ≡ two ++ c → four ≡ three ++ d → four ≡ a ++ b ++ c ++ d
written_in_turn a b c d empty one two three four e f g h k =
    k ∙ ap (λ t. t ++ d) (h ∙ ap (λ t. t ++ c) (g ∙ ap (λ t. t ++ b) (f ∙ ap (λ t. t ++ a) e)))
