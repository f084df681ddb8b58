-- What a session keeps of its own is found in the space that it is as a lock space: its tickets by their numbers, the keys by their places.
use Rattle.std.proofs.Common.{◌≡◌, ℕ, Bool, false, ◌==◌, List, [], ◌∷◌, map, find, Option, Some, None, refl, sym, ap, ◌∙◌}
use Rattle.mdl_shared.proofs.Common.{KeyName, Kind, KnownKey, Mode, SessionTicket, as_held, by_bool, is_fit, is_mode_of, is_number, key_known, kind_known, kind_of, numbered, option_map, option_map_or}

-- what is found among the images of a list is the image of what is found in it
pub find-told : {A B : Type 0} (f : A → B) (test : B → Bool) (xs : List A) → find test (map f xs) ≡ option_map f (find (λ x. test (f x)) xs)
find-told f test [] = refl
find-told f test (x ∷ xs) =
    by_bool (test (f x))
    (λ hit. rw hit refl)
    (λ miss. rw miss (find-told f test xs))

-- ---- tickets

-- the ticket of a number, as it is told
pub ticket-told : (id : ℕ) (tickets : List SessionTicket) → find (is_number id) (map as_held tickets) ≡ option_map as_held (numbered id tickets)
ticket-told id tickets = find-told as_held (is_number id) tickets

-- ---- keys

option_map-map : {A B C : Type 0} (f : A → B) (g : B → C) (o : Option A) → option_map g (option_map f o) ≡ option_map (λ x. g (f x)) o
option_map-map f g None = refl
option_map-map f g (Some x) = refl

-- its kind is that of the key
pub kind-key : (place : ℕ) (known : List KnownKey) → kind_known place known ≡ option_map (λ (key : KeyName). kind_of key.namespace) (key_known place known)
kind-key place known =
    sym (option_map-map (λ (k : KnownKey). k.key) (λ (key : KeyName). kind_of key.namespace) (find (λ (k : KnownKey). k.place == place) known))

-- ---- what is known of a place's kind

-- the kind of a key that is known there
pub kind-of_key : (place : ℕ) (known : List KnownKey) (key : KeyName) → key_known place known ≡ Some key → kind_known place known ≡ Some (kind_of key.namespace)
kind-of_key place known key knows =
    kind-key place known ∙ ap (option_map (λ (k : KeyName). kind_of k.namespace)) knows

-- whether the mode is one of its
pub fit-known : (place : ℕ) (mode : Mode) (known : List KnownKey) (b : Bool) → is_fit place mode known ≡ b
    → (key : KeyName) → key_known place known ≡ Some key → is_mode_of (kind_of key.namespace) mode ≡ b
fit-known place mode known b fits key knows =
    sym (ap (λ (o : Option Kind). option_map_or (λ kind. is_mode_of kind mode) o false) (kind-of_key place known key knows)) ∙ fits

-- whether the mode is of a known kind
pub of-kind : (place : ℕ) (known : List KnownKey) (kind : Kind) (mode : Mode) (b : Bool) → kind_known place known ≡ Some kind → is_mode_of kind mode ≡ b
    → (key : KeyName) → key_known place known ≡ Some key → is_mode_of (kind_of key.namespace) mode ≡ b
of-kind place known kind mode b is fits key knows =
    let same : kind_of key.namespace ≡ kind = (let e = sym (kind-of_key place known key knows) ∙ is in cc) in
    ap (λ k. is_mode_of k mode) same ∙ fits
