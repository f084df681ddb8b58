-- Lists that are written into the room there is, from its start on.
use Rattle.std.proofs.Common.{◌≡◌, ◌∙◌, ℕ, zero, suc, ◌+◌, ◌-◌, ◌<◌, ◌≤◌, min, None, List, [], ◌∷◌, ◌++◌, length, map, take, drop, get_or, refl, sym, ap, append_assoc, arith}
use Rattle.std.specs.Prelude.{slice_get}
use Rattle.std.proofs.Math.ListN.{set}
use Rattle.std.proofs.lemmas.List.{append-nil, drop_all, drop_min, drop_more, length-drop, length-map, length-take-le, map-append, set_at, take-map, take_all, take_min, take_more, take_rest}
use Rattle.mdl_c_parts.specs.Rows.{room_written}

-- what fits, where that much is written
pub written-fits : {T : Type 0} (items room : List T) (n : ℕ) → n ≡ min (length items) (length room) → take n items ++ drop n room ≡ room_written items room
written-fits items room n fits =
    let turned : n ≡ min (length room) (length items) = omega arith in
    ap (λ (k : ℕ). take k items ++ drop n room) turned
    ∙ ap (λ (front : List _). front ++ drop n room) (take_min (length room) items)
    ∙ ap (λ (k : ℕ). take (length room) items ++ drop k room) fits
    ∙ ap (λ (rest : List _). take (length room) items ++ rest) (drop_min (length items) room)

-- one more item is written
pub written-more : {A B : Type 0} (f : A → B) (items : List A) (room now : List B) (at : ℕ) (default : A) (result : B) → at < length items → at < length room
    → now ≡ map f (take at items) ++ drop at room → result ≡ f (get_or items at default) → set now at result ≡ map f (take (at + 1) items) ++ drop (at + 1) room
written-more f items room now at default result within fits written there =
    let front : length (map f (take at items)) ≡ at = length-map (take at items) f ∙ length-take-le at items (omega arith) in
    ap (λ (xs : List _). set xs at result) (written ∙ ap (λ (rest : List _). map f (take at items) ++ rest) (drop_more room at result fits))
    ∙ set_at (map f (take at items)) (get_or room at result) (drop (at + 1) room) result at front
    ∙ sym (append_assoc (map f (take at items)) (result ∷ []) (drop (at + 1) room))
    ∙ ap (λ (xs : List _). xs ++ drop (at + 1) room)
    (ap (λ (x : _). map f (take at items) ++ x ∷ []) there
    ∙ sym (map-append f (take at items) (get_or items at default ∷ []))
    ∙ sym (ap (map f) (take_more items at default within)))

-- all items that fit are written
pub written-all : {A B : Type 0} (f : A → B) (all items : List A) (room : List B) (n : ℕ) → n ≡ min (length all) (length room) → items ≡ take n all
    → map f (take (length items) items) ++ drop (length items) room ≡ room_written (map f all) room
written-all f all items room n fits cut =
    let long : length items ≡ n = ap length cut ∙ length-take-le n all (omega arith) in
    let same : min (length (map f all)) (length room) ≡ n = ap (λ (k : ℕ). min k (length room)) (length-map all f) ∙ sym fits in
    ap (λ (xs : List _). map f xs ++ drop (length items) room) (take_all (length items) items (omega arith))
    ∙ ap (λ (xs : List _). map f xs ++ drop (length items) room) cut
    ∙ ap (λ (k : ℕ). map f (take n all) ++ drop k room) long
    ∙ ap (λ (xs : List _). xs ++ drop n room) (sym (take-map f n all))
    ∙ written-fits (map f all) room n (sym same)

-- the same, where that many are taken of all
pub written-to : {A B : Type 0} (f : A → B) (all : List A) (room : List B) (n : ℕ) → n ≡ min (length all) (length room)
    → map f (take n all) ++ drop n room ≡ room_written (map f all) room
written-to f all room n fits =
    let same : n ≡ min (length (map f all)) (length room) = fits ∙ ap (λ (k : ℕ). min k (length room)) (sym (length-map all f)) in
    ap (λ (xs : List _). xs ++ drop n room) (sym (take-map f n all)) ∙ written-fits (map f all) room n same

-- there is no item at an index
pub no-more : {T : Type 0} (items : List T) (at : ℕ) → slice_get items at ≡ None → length items ≤ at
no-more [] at none = omega arith
no-more (x ∷ items) zero none = cc
no-more (x ∷ items) (suc at) none = omega (arith, no-more items at none)

-- no items
pub written-none : {T : Type 0} (room : List T) → room_written [] room ≡ room
written-none [] = refl
written-none (x ∷ room) = refl

-- no room
written-nowhere : {T : Type 0} (items : List T) → room_written items [] ≡ []
written-nowhere [] = refl
written-nowhere (x ∷ items) = refl

-- items behind others, in the room that these leave
pub written-behind : {T : Type 0} (first second room : List T) (n : ℕ) → n ≡ min (length first) (length room)
    → take n (room_written first room) ++ room_written second (drop n (room_written first room)) ≡ room_written (first ++ second) room
written-behind [] second room n fits =
    let none : n ≡ 0 = omega arith in
    rw (none, written-none room) refl
written-behind (x ∷ first) second [] n fits =
    let none : n ≡ 0 = omega arith in
    rw none (ap (room_written second) (written-nowhere (x ∷ first)) ∙ written-nowhere second)
written-behind (x ∷ first) second (y ∷ room) zero fits = absurd (omega arith)
written-behind (x ∷ first) second (y ∷ room) (suc n) fits = ap (λ (xs : List _). x ∷ xs) (written-behind first second room n (omega arith))

-- the same, where the second list is written into the part of the room that the first one left
pub written-both : {T : Type 0} (first second room front back : List T) (n : ℕ) → n ≡ min (length first) (length room) → front ≡ room_written first room
    → back ≡ room_written second (take (length front - n) (drop n front)) → take n front ++ (back ++ drop (length front - n) (drop n front)) ≡ room_written (first ++ second) room
written-both first second room front back n fits begun put =
    let nothing : drop (length front - n) (drop n front) ≡ [] = drop_all (length front - n) (drop n front) (omega (arith, length-drop n front)) in
    ap (λ (rest : List _). take n front ++ (back ++ rest)) nothing
    ∙ ap (λ (rest : List _). take n front ++ rest) (append-nil back ∙ put ∙ ap (room_written second) (take_rest front n))
    ∙ ap (λ (xs : List _). take n xs ++ room_written second (drop n xs)) begun
    ∙ written-behind first second room n fits
