-- The keys whose places a context knows: by their indexes, one more, and some forgotten.
use Rattle.std.proofs.Common.{◌≡◌, ◌∙◌, ◌⊎◌, inl, inr, ℕ, zero, suc, ◌<◌, Bool, true, false, List, [], ◌∷◌, ◌++◌, ◌+◌, length, take, get_or, position, map, filter, find, Option, Some, None, refl, sym, ap, subst, arith, rules}
use Rattle.std.specs.Prelude.{◌&&◌, ◌||◌, ◌==◌, not, All, slice_get, unwrap_or, if◌then◌else◌}
use Rattle.std.specs.List.{Contains, list_any, remove}
use Rattle.std.specs.Map.{keys_of, lookup}
use Rattle.std.specs.Option.{option_and_then, option_map, option_map_or}
use Rattle.std.specs.Cmp.{IsEquivalence}
use Rattle.std.specs.Cmp.Rules.{comparing}
use Rattle.indexmap.proofs.CallerLemmas.{insert_entry-new, updates-with_value_at}
use Rattle.indexmap.specs.IndexMap.{IndexMap, IsUnique, get, insert_entry, keys, with_value_at}
use Rattle.std.proofs.lemmas.Bool.Decides.{nat_tests}
use Rattle.std.proofs.lemmas.List.{map_push, take_more}
use Rattle.std.proofs.lemmas.List.Elements.{All-cons, All-filter, All-head, All-nil, All-push, All-tail, All-weaker, filter_map-append}
use Rattle.std.proofs.lemmas.List.Quantifiers.{position-Some}
use Rattle.std.proofs.lemmas.Option.{slice_get-get_or, slice_get-map, slice_get_within}
use Rattle.mdl_key.specs.Keys.{KeyName, key_eq}
use Rattle.mdl_system.proofs.Deciding.{key-Decides}
use Rattle.mdl_context.specs.declared.known.KnownPlace.{KnownPlace}
use Rattle.mdl_context.specs.declared.kept.Kept.{Kept}
use Rattle.mdl_context.specs.declared.kept.Wanted.{Wanted}
use Rattle.mdl_context.specs.Contexts.{is_of_user_locks, is_user_lock, place_known}
use Rattle.mdl_context.specs.Holdings.{IsIndexOf, is_kept_at, needs_place, numbers_among}
use Rattle.mdl_context.specs.Indexes.{Index}
use Rattle.mdl_context.specs.KnownKeys.{AreIndexes, AreKnownOnce, AreMet, KeepsKeys, is_dropped, known_key, known_keys, place_met}
use Rattle.mdl_context.specs.Spares.{HasOneKey}

abbrev pub Entry : Type 0
Entry = KeyName × ℕ

-- what is so of all is so of the first and of the others
pub all-parts : {X : Type 0} (P : X → Type 0) (xs ys : List X) → All P (xs ++ ys) → All P xs × All P ys
all-parts P [] ys all = (All-nil P, all)
all-parts P (x ∷ xs) ys all =
    let rest = all-parts P xs ys (All-tail P x (xs ++ ys) all) in
    (All-cons P x xs (All-head P x (xs ++ ys) all) rest.0, rest.1)

-- ---- by their indexes

-- what a list is read as past its end
abbrev pub no-known : KnownPlace
no-known = record { key = 0; place = 0 }

-- an element is the one that is there
pub own-item : {X : Type 0} (xs : List X) (i : ℕ) (d : X) → i < length xs → get_or xs i (get_or xs i d) ≡ get_or xs i d
own-item [] i d inside = absurd (omega arith)
own-item (x ∷ xs) zero d inside = refl
own-item (x ∷ xs) (suc i) d inside = own-item xs i d (omega (arith, inside))

-- an index within a list has an element
pub at-index : {X : Type 0} (xs : List X) (i : ℕ) → i < length xs → (x : X) × (slice_get xs i ≡ Some x)
at-index [] i inside = absurd (omega arith)
at-index (x ∷ xs) zero inside = (x, refl)
at-index (x ∷ xs) (suc i) inside = at-index xs i (omega arith)

module _ (keys : List KeyName) where
  -- a known key stands in the list
  known-here : (k : KnownPlace) → k.key < length keys → (key : KeyName) × (known_key keys k ≡ Some (key, k.place))
  known-here k inside = let there = at-index keys k.key inside in (there.0, rw there.1 refl)

  -- so the list has each known place
  pub places-listed : (order : List KnownPlace) → AreIndexes keys order → map (λ (e : Entry). e.1) (known_keys keys order) ≡ map (λ (k : KnownPlace). k.place) order
  places-listed [] all = refl
  places-listed (k ∷ ks) all =
      let here = known-here k (All-head (λ (k : KnownPlace). k.key < length keys) k ks all) in
      rw here.1 (ap (λ places. k.place ∷ places) (places-listed ks (All-tail (λ (k : KnownPlace). k.key < length keys) k ks all)))

  pub places-counted : (order : List KnownPlace) → AreIndexes keys order → length (known_keys keys order) ≡ length order
  places-counted [] all = refl
  places-counted (k ∷ ks) all =
      let here = known-here k (All-head (λ (k : KnownPlace). k.key < length keys) k ks all) in
      rw here.1 (ap suc (places-counted ks (All-tail (λ (k : KnownPlace). k.key < length keys) k ks all)))

  -- whether a known key's place is this one, and the lock there a user-level lock
  abbrev pub is_user_at : ℕ → KnownPlace → Bool
  is_user_at place k = k.place == place && option_map_or (λ (key : KeyName). is_of_user_locks key.namespace) (slice_get keys k.key) false

  pub user-listed : (place : ℕ) (order : List KnownPlace) → AreIndexes keys order → list_any (is_user_at place) order ≡ is_user_lock (known_keys keys order) place
  user-listed place [] all = refl
  user-listed place (k ∷ ks) all =
      let there = at-index keys k.key (All-head (λ (k : KnownPlace). k.key < length keys) k ks all) in
      rw there.1 (ap (λ (later : Bool). (k.place == place && is_of_user_locks there.0.namespace) || later) (user-listed place ks (All-tail (λ (k : KnownPlace). k.key < length keys) k ks all)))

  -- whether a known key is this one
  abbrev pub is_key_at : KeyName → KnownPlace → Bool
  is_key_at key k = option_map_or (key_eq key) (slice_get keys k.key) false

  -- the first that is this one has the key's place
  pub place-found : (key : KeyName) (order : List KnownPlace) → option_map (λ (k : KnownPlace). k.place) (find (is_key_at key) order) ≡ place_known key (known_keys keys order)
  place-found key [] = refl
  place-found key (k ∷ ks) = by (slice_get keys k.key) refl (place-found key ks) where
    by : (found : Option KeyName) → slice_get keys k.key ≡ found → option_map (λ (k : KnownPlace). k.place) (find (is_key_at key) ks) ≡ place_known key (known_keys keys ks)
        → option_map (λ (k : KnownPlace). k.place) (find (is_key_at key) (k ∷ ks)) ≡ place_known key (known_keys keys (k ∷ ks))
    by None none later = rw none later
    by (Some other) here later = rw here (either (key_eq key other) refl) where
      either : (same : Bool) → key_eq key other ≡ same
          → option_map (λ (k : KnownPlace). k.place) (if key_eq key other then Some k else find (is_key_at key) ks) ≡ (if key_eq key other then Some k.place else place_known key (known_keys keys ks))
      either true same = rw same refl
      either false differs = rw differs later

  -- a place by its number
  pub place-listed : (order : List KnownPlace) (i : ℕ) (k : KnownPlace) → AreIndexes keys order → slice_get order i ≡ Some k
      → slice_get (map (λ (e : Entry). e.1) (known_keys keys order)) i ≡ Some k.place
  place-listed order i k all here =
      ap (λ places. slice_get places i) (places-listed order all) ∙ slice_get-map (λ (k : KnownPlace). k.place) order i
      ∙ ap (option_map (λ (k : KnownPlace). k.place)) here

-- keys differ either way
key-differs : (j k : KeyName) → key_eq j k ≡ false → key_eq k j ≡ false
key-differs j k other = by (key_eq k j) refl where
  by : (test : Bool) → key_eq k j ≡ test → key_eq k j ≡ false
  by false is = is
  by true is = absurd (let again = (key-Decides j k).1 (sym ((key-Decides k j).0 is)) in let never : true ≡ false = sym again ∙ other in cc)

-- ---- one more

-- keys that come change no key that is known
pub keys-kept : (before after : List KeyName) (order : List KnownPlace) → AreIndexes before order → KeepsKeys before after → known_keys after order ≡ known_keys before order
keys-kept before after [] all keeps = refl
keys-kept before after (k ∷ ks) all keeps =
    let there = at-index before k.key (All-head (λ (k : KnownPlace). k.key < length before) k ks all) in
    let later = keys-kept before after ks (All-tail (λ (k : KnownPlace). k.key < length before) k ks all) keeps in
    rw (there.1, keeps k.key there.0 there.1) (ap (λ known. (there.0, k.place) ∷ known) later)

indexes-kept : (before after : List KeyName) (order : List KnownPlace) → AreIndexes before order → KeepsKeys before after → AreIndexes after order
indexes-kept before after order all keeps = All-weaker (λ (k : KnownPlace). k.key < length before) (λ (k : KnownPlace). k.key < length after) (λ (k : KnownPlace) inside.
    (let there = at-index before k.key inside in slice_get_within after k.key there.0 (keeps k.key there.0 there.1))) order all

module _ (before after : List KeyName) (order : List KnownPlace) (k : KnownPlace) (key : KeyName) (all : AreIndexes before order) (keeps : KeepsKeys before after)
    (here : slice_get after k.key ≡ Some key) where
  pub known-more : known_keys after (order ++ k ∷ []) ≡ known_keys before order ++ (key, k.place) ∷ []
  known-more =
      let last : known_keys after (k ∷ []) ≡ (key, k.place) ∷ [] = rw here refl in
      filter_map-append (known_key after) order (k ∷ []) ∙ ap (λ known. known ++ known_keys after (k ∷ [])) (keys-kept before after order all keeps)
      ∙ ap (λ known. known_keys before order ++ known) last

  pub indexes-more : AreIndexes after (order ++ k ∷ [])
  indexes-more = All-push (λ (k : KnownPlace). k.key < length after) order k (indexes-kept before after order all keeps) (slice_get_within after k.key key here)

-- what is known stays known as another key comes
pub known-still : (q : KeyName) (known more : List Entry) (place : ℕ) → place_known q known ≡ Some place → place_known q (known ++ more) ≡ Some place
known-still q [] more place is = absurd (cc)
known-still q (e ∷ es) more place is = by (key_eq q e.0) refl (known-still q es more place) where
  by : (test : Bool) → key_eq q e.0 ≡ test → (place_known q es ≡ Some place → place_known q (es ++ more) ≡ Some place) → place_known q ((e ∷ es) ++ more) ≡ Some place
  by true same later = rw same (rw same at is)
  by false other later = rw other (later (rw other at is))

known-later : (q : KeyName) (known more : List Entry) → place_known q known ≡ None → place_known q (known ++ more) ≡ place_known q more
known-later q [] more none = refl
known-later q (e ∷ es) more none = by (key_eq q e.0) refl (known-later q es more) where
  by : (test : Bool) → key_eq q e.0 ≡ test → (place_known q es ≡ None → place_known q (es ++ more) ≡ place_known q more) → place_known q ((e ∷ es) ++ more) ≡ place_known q more
  by true same later = absurd (let never = rw same at none in cc)
  by false other later = rw other (later (rw other at none))

known-itself : (key : KeyName) → key_eq key key ≡ true
known-itself key = (key-Decides key key).1 refl

module _ (met : List (KeyName × Option ℕ)) (known : List Entry) (key : KeyName) (place : ℕ) (new : place_known key known ≡ None) where
  last-known : place_known key (known ++ (key, place) ∷ []) ≡ Some place
  last-known = known-later key known ((key, place) ∷ []) new ∙ rw (known-itself key) refl

  pub met-more : AreMet met known → (more : List (KeyName × Option ℕ)) → ((q : KeyName) → place_met q more ≡ (if key_eq key q then Some place else place_met q met))
      → AreMet more (known ++ (key, place) ∷ [])
  met-more are more told q = by (key_eq key q) refl where
    by : (test : Bool) → key_eq key q ≡ test → place_met q more ≡ place_known q (known ++ (key, place) ∷ [])
    by true same =
        let one : key ≡ q = (key-Decides key q).0 same in
        told q ∙ rw same (rw (← one) (sym last-known))
    by false other =
        let differs : key_eq q key ≡ false = key-differs key q other in
        told q ∙ rw other (are q ∙ old (place_known q known) refl differs) where
          old : (found : Option ℕ) → place_known q known ≡ found → key_eq q key ≡ false → place_known q known ≡ place_known q (known ++ (key, place) ∷ [])
          old (Some at) is differs = is ∙ sym (known-still q known ((key, place) ∷ []) at is)
          old None is differs = is ∙ sym (known-later q known ((key, place) ∷ []) is ∙ rw differs refl)

-- ---- keys that are known once

-- a key that isn't known differs from each that is
key-apart : (key : KeyName) (e : Entry) (known : List Entry) → place_known key (e ∷ known) ≡ None → (key_eq key e.0 ≡ false) × (place_known key known ≡ None)
key-apart key e known none = by (key_eq key e.0) refl where
  by : (test : Bool) → key_eq key e.0 ≡ test → (key_eq key e.0 ≡ false) × (place_known key known ≡ None)
  by true same = absurd (let never = rw same at none in cc)
  by false other = (other, rw other at none)

-- one more
once-more : (known : List Entry) (key : KeyName) (place : ℕ) → place_known key known ≡ None → AreKnownOnce known → AreKnownOnce (known ++ (key, place) ∷ [])
once-more [] key place new once = (refl, tt)
once-more (e ∷ es) key place new once =
    let apart = key-apart key e es new in (
      known-later e.0 es ((key, place) ∷ []) once.0 ∙ rw (key-differs key e.0 apart.0) refl,
      once-more es key place apart.1 once.1,
    )

-- the last one
known-front : (q : KeyName) (known more : List Entry) → place_known q (known ++ more) ≡ None → place_known q known ≡ None
known-front q known more none = by (place_known q known) refl where
  by : (found : Option ℕ) → place_known q known ≡ found → found ≡ None
  by None is = refl
  by (Some place) is = let never = sym (known-still q known more place is) ∙ none in cc

once-front : (known : List Entry) (last : Entry) → AreKnownOnce (known ++ last ∷ []) → AreKnownOnce known × (place_known last.0 known ≡ None)
once-front [] last once = (tt, refl)
once-front (e ∷ es) last once =
    let none = known-front e.0 es (last ∷ []) once.0 in
    let rest = once-front es last once.1 in
    let apart = key-apart e.0 last [] (sym (known-later e.0 es (last ∷ []) none) ∙ once.0) in
    ((none, rest.0), rw (key-differs e.0 last.0 apart.0) rest.1)

-- the map without the last one
met-front : (met less : List (KeyName × Option ℕ)) (known : List Entry) (key : KeyName) (place : ℕ) → place_known key known ≡ None
    → AreMet met (known ++ (key, place) ∷ []) → ((q : KeyName) → place_met q less ≡ (if key_eq key q then None else place_met q met)) → AreMet less known
met-front met less known key place new are told q = by (key_eq key q) refl where
  by : (test : Bool) → key_eq key q ≡ test → place_met q less ≡ place_known q known
  by true same = told q ∙ rw same (sym new ∙ ap (λ (k : KeyName). place_known k known) ((key-Decides key q).0 same))
  by false other = told q ∙ rw other (are q ∙ old (place_known q known) refl) where
    old : (found : Option ℕ) → place_known q known ≡ found → place_known q (known ++ (key, place) ∷ []) ≡ found
    old (Some at) is = known-still q known ((key, place) ∷ []) at is
    old None is = known-later q known ((key, place) ∷ []) is ∙ rw (key-differs key q other) refl

-- so each has one place
abbrev HasOnePlaceEach : List Entry → Type 0
HasOnePlaceEach known = All (λ entry. place_known entry.0 known ≡ Some entry.1) known

one-place-each : (known : List Entry) → AreKnownOnce known → HasOnePlaceEach known
one-place-each [] once = All-nil (λ (e : Entry). place_known e.0 [] ≡ Some e.1)
one-place-each (e ∷ es) once =
    All-cons (λ (x : Entry). place_known x.0 (e ∷ es) ≡ Some x.1) e es (rw (known-itself e.0) refl)
    (All-weaker (λ (x : Entry). place_known x.0 es ≡ Some x.1) (λ (x : Entry). place_known x.0 (e ∷ es) ≡ Some x.1) later es (one-place-each es once.1))
  where
    later : (x : Entry) → place_known x.0 es ≡ Some x.1 → place_known x.0 (e ∷ es) ≡ Some x.1
    later x there = by (key_eq x.0 e.0) refl where
      by : (test : Bool) → key_eq x.0 e.0 ≡ test → place_known x.0 (e ∷ es) ≡ Some x.1
      by true same =
          let one : x.0 ≡ e.0 = (key-Decides x.0 e.0).0 same in
          let never : None ≡ Some x.1 = sym once.0 ∙ sym (ap (λ (k : KeyName). place_known k es) one) ∙ there in
          absurd (cc)
      by false other = rw other there

-- ---- the known keys as they are kept

-- the map and the order have these known keys
abbrev pub AreKept : List (KeyName × Option ℕ) → List KnownPlace → List Entry → Type 0
AreKept met order known = (known_keys (keys_of met) order ≡ known) × AreIndexes (keys_of met) order × AreMet met known × AreKnownOnce known

-- the map is emptied where nothing is known
pub kept-emptied : (met new : List (KeyName × Option ℕ)) (order : List KnownPlace) (known : List Entry) → AreKept met order known
    → (new ≡ met) ⊎ ((order ≡ []) × (new ≡ [])) → AreKept new order known
kept-emptied met new order known are (inl same) = subst (λ (entries : List (KeyName × Option ℕ)). AreKept entries order known) (sym same) are
kept-emptied met new order known are (inr none) =
    let nothing : known ≡ [] = sym are.0 ∙ ap (known_keys (keys_of met)) none.0 in
    subst (λ (entries : List (KeyName × Option ℕ)). AreKept entries order known) (sym none.1)
    (subst (λ (places : List KnownPlace). AreKept [] places known) (sym none.0)
    (subst (λ (left : List Entry). AreKept [] [] left) (sym nothing) (refl, All-nil (λ (k : KnownPlace). k.key < 0), λ q. refl, tt)))

-- one more
pub kept-more : (met more : List (KeyName × Option ℕ)) (order : List KnownPlace) (known : List Entry) (k : KnownPlace) (key : KeyName) → AreKept met order known
    → place_known key known ≡ None → slice_get (keys_of more) k.key ≡ Some key → KeepsKeys (keys_of met) (keys_of more)
    → ((q : KeyName) → place_met q more ≡ (if key_eq key q then Some k.place else place_met q met)) → AreKept more (order ++ k ∷ []) (known ++ (key, k.place) ∷ [])
kept-more met more order known k key are new here keeps told = (
  known-more (keys_of met) (keys_of more) order k key are.1 keeps here ∙ ap (λ (left : List Entry). left ++ (key, k.place) ∷ []) are.0,
  indexes-more (keys_of met) (keys_of more) order k key are.1 keeps here,
  met-more met known key k.place new are.2 more told,
  once-more known key k.place new are.3,
)

-- ---- some forgotten

abbrev IsOnlyAt : KeyName → ℕ → Entry → Type 0
IsOnlyAt q place e = key_eq q e.0 ≡ true → e.1 ≡ place

module _ (test : ℕ → Bool) where
  -- the known keys whose places pass
  abbrev pub passing : List Entry → List Entry
  passing known = filter (λ (e : Entry). test e.1) known

  pub known-passing : (keys : List KeyName) (order : List KnownPlace) → known_keys keys (filter (λ (k : KnownPlace). test k.place) order) ≡ passing (known_keys keys order)
  known-passing keys [] = refl
  known-passing keys (k ∷ ks) = by (slice_get keys k.key) refl (test k.place) refl (known-passing keys ks) where
    by : (found : Option KeyName) → slice_get keys k.key ≡ found → (stays : Bool) → test k.place ≡ stays
        → known_keys keys (filter (λ (k : KnownPlace). test k.place) ks) ≡ passing (known_keys keys ks)
        → known_keys keys (filter (λ (k : KnownPlace). test k.place) (k ∷ ks)) ≡ passing (known_keys keys (k ∷ ks))
    by None none true stays later = rw (stays, none) later
    by None none false goes later = rw (goes, none) later
    by (Some key) here true stays later = rw (stays, here) (rw stays (ap (λ known. (key, k.place) ∷ known) later))
    by (Some key) here false goes later = rw (goes, here) (rw goes later)

  module _ (q : KeyName) (place : ℕ) where
    -- the key is known at this place alone
    abbrev OnlyAt : List Entry → Type 0
    OnlyAt known = All (IsOnlyAt q place) known

    none-dropped : (known : List Entry) → OnlyAt known → test place ≡ true → is_dropped test q known ≡ false
    none-dropped [] only stays = refl
    none-dropped (e ∷ es) only stays = by (key_eq q e.0) refl (none-dropped es (All-tail (IsOnlyAt q place) e es only) stays) where
      by : (same : Bool) → key_eq q e.0 ≡ same → is_dropped test q es ≡ false → is_dropped test q (e ∷ es) ≡ false
      by false other later = rw other later
      by true same later = rw (same, All-head (IsOnlyAt q place) e es only same, stays) later

    none-left : (known : List Entry) → OnlyAt known → test place ≡ false → place_known q (passing known) ≡ None
    none-left [] only goes = refl
    none-left (e ∷ es) only goes = by (key_eq q e.0) refl (test e.1) refl (none-left es (All-tail (IsOnlyAt q place) e es only) goes) where
      by : (same : Bool) → key_eq q e.0 ≡ same → (stays : Bool) → test e.1 ≡ stays → place_known q (passing es) ≡ None → place_known q (passing (e ∷ es)) ≡ None
      by same is false out later = rw out later
      by false other true in' later = rw (in', other) later
      by true same true in' later =
          let at : e.1 ≡ place = All-head (IsOnlyAt q place) e es only same in
          let never : true ≡ false = sym in' ∙ ap test at ∙ goes in
          absurd (cc)

    pub forgotten : (known : List Entry) → OnlyAt known → (if is_dropped test q known then None else place_known q known) ≡ place_known q (passing known)
    forgotten [] only = refl
    forgotten (e ∷ es) only = by (key_eq q e.0) refl (test e.1) refl (forgotten es rest) where
      rest : OnlyAt es
      rest = All-tail (IsOnlyAt q place) e es only

      by : (same : Bool) → key_eq q e.0 ≡ same → (stays : Bool) → test e.1 ≡ stays
          → (if is_dropped test q es then None else place_known q es) ≡ place_known q (passing es)
          → (if is_dropped test q (e ∷ es) then None else place_known q (e ∷ es)) ≡ place_known q (passing (e ∷ es))
      by false other true stays later = rw (other, stays) (rw other later)
      by false other false goes later = rw (other, goes) later
      by true same true stays later =
          let at : e.1 ≡ place = All-head (IsOnlyAt q place) e es only same in
          let none : is_dropped test q es ≡ false = none-dropped es rest (sym (ap test at) ∙ stays) in
          rw (same, stays) (rw (same, none) refl)
      by true same false goes later =
          let at : e.1 ≡ place = All-head (IsOnlyAt q place) e es only same in
          rw (same, goes) (sym (none-left es rest (sym (ap test at) ∙ goes)))

only-one : (known : List Entry) → HasOnePlaceEach known → (q : KeyName) (place : ℕ) → unwrap_or (place_known q known) 0 ≡ place → (test : ℕ → Bool) → OnlyAt test q place known
only-one known once q place is test = All-weaker (λ (e : Entry). place_known e.0 known ≡ Some e.1) (IsOnlyAt q place)
    (λ e there same.
    let one : q ≡ e.0 = (key-Decides q e.0).0 same in
    let here : place_known q known ≡ Some e.1 = subst (λ (k : KeyName). place_known k known ≡ Some e.1) (sym one) there in
    sym (ap (λ found. unwrap_or found 0) here) ∙ is)
    known once

module _ (test : ℕ → Bool) (known : List Entry) (once : AreKnownOnce known) where
  pub met-fewer : (met less : List (KeyName × Option ℕ)) → AreMet met known
      → ((q : KeyName) → place_met q less ≡ (if is_dropped test q known then None else place_met q met)) → AreMet less (passing test known)
  met-fewer met less are told q =
      told q ∙ ap (λ (found : Option ℕ). if is_dropped test q known then None else found) (are q)
      ∙ forgotten test q (unwrap_or (place_known q known) 0) known (only-one known (one-place-each known once) q _ refl test)

none-passing : (test : ℕ → Bool) (q : KeyName) (known : List Entry) → place_known q known ≡ None → place_known q (passing test known) ≡ None
none-passing test q [] none = refl
none-passing test q (e ∷ es) none = let apart = key-apart q e es none in by apart.0 (test e.1) refl (none-passing test q es apart.1) where
  by : key_eq q e.0 ≡ false → (stays : Bool) → test e.1 ≡ stays → place_known q (passing test es) ≡ None → place_known q (passing test (e ∷ es)) ≡ None
  by other true stays later = rw stays (rw other later)
  by other false goes later = rw goes later

once-fewer : (test : ℕ → Bool) (known : List Entry) → AreKnownOnce known → AreKnownOnce (passing test known)
once-fewer test [] once = tt
once-fewer test (e ∷ es) once = by (test e.1) refl (once-fewer test es once.1) where
  by : (stays : Bool) → test e.1 ≡ stays → AreKnownOnce (passing test es) → AreKnownOnce (passing test (e ∷ es))
  by true stays later = rw stays (none-passing test e.0 es once.0, later)
  by false goes later = rw goes later

-- some forgotten
pub kept-fewer : (test : ℕ → Bool) (met less : List (KeyName × Option ℕ)) (order : List KnownPlace) (known : List Entry) → AreKept met order known → keys_of less ≡ keys_of met
    → ((q : KeyName) → place_met q less ≡ (if is_dropped test q (known_keys (keys_of met) order) then None else place_met q met))
    → AreKept less (filter (λ (k : KnownPlace). test k.place) order) (passing test known)
kept-fewer test met less order known are same told =
    let fewer : List KnownPlace = filter (λ (k : KnownPlace). test k.place) order in (
      ap (λ (keys : List KeyName). known_keys keys fewer) same ∙ known-passing test (keys_of met) order ∙ ap (passing test) are.0,
      subst (λ (keys : List KeyName). AreIndexes keys fewer) (sym same) (All-filter (λ (k : KnownPlace). test k.place) (λ (k : KnownPlace). k.key < length (keys_of met)) order are.1),
      met-fewer test known are.3 met less are.2
          (λ q. told q ∙ ap (λ (left : List Entry). if is_dropped test q left then None else place_met q met) are.0),
      once-fewer test known are.3,
    )

-- the last one forgotten
pub kept-front : (met less : List (KeyName × Option ℕ)) (order : List KnownPlace) (last : KnownPlace) (known : List Entry) → AreKept met (order ++ last ∷ []) known
    → keys_of less ≡ keys_of met
    → ((key q : KeyName) → slice_get (keys_of met) last.key ≡ Some key → place_met q less ≡ (if key_eq key q then None else place_met q met))
    → (front : List Entry) × (e : Entry) × (known ≡ front ++ e ∷ []) × AreKept less order front
kept-front met less order last known are same told =
    let keys = keys_of met in
    let parts = all-parts (λ (k : KnownPlace). k.key < length keys) order (last ∷ []) are.1 in
    let here = at-index keys last.key (All-head (λ (k : KnownPlace). k.key < length keys) last [] parts.1) in
    let front : List Entry = known_keys keys order in
    let one : known_keys keys (last ∷ []) ≡ (here.0, last.place) ∷ [] = rw here.1 refl in
    let is : known ≡ front ++ (here.0, last.place) ∷ [] =
    sym are.0 ∙ filter_map-append (known_key keys) order (last ∷ []) ∙ ap (λ (left : List Entry). front ++ left) one in
    let once = once-front front (here.0, last.place) (subst AreKnownOnce is are.3) in (
      front,
      (here.0, last.place),
      is,
      (
        ap (λ (ks : List KeyName). known_keys ks order) same,
        subst (λ (ks : List KeyName). AreIndexes ks order) (sym same) parts.0,
        met-front met less front here.0 last.place once.1 (subst (AreMet met) is are.2) (λ q. told here.0 q here.1),
        once.0,
      ),
    )

-- ---- the one at a place forgotten

-- whether a place is among others
abbrev is_among : ℕ → List ℕ → Bool
is_among place places = list_any (λ (p : ℕ). p == place) places

same-place : (p q : ℕ) → (p == q) ≡ true → p ≡ q
same-place p q same = grind (arith, nat_tests)

-- a place occurs at most once
abbrev IsOnce : ℕ → List ℕ → Type 0
IsOnce place [] = Unit {0}
IsOnce place (p ∷ ps) = ((p == place) ≡ true → is_among place ps ≡ false) × IsOnce place ps

-- an element by its index
has-at : {X : Type 0} (xs : List X) (i : ℕ) (x : X) → slice_get xs i ≡ Some x → Contains xs x
has-at [] i x here = absurd (cc)
has-at (y ∷ ys) zero x here = (0, omega arith, cc)
has-at (y ∷ ys) (suc i) x here = let later = has-at ys i x here in (suc later.0, omega (arith, later.1), later.2)

-- an element of the rest
has-later : {X : Type 0} (y : X) (xs : List X) (x : X) → Contains xs x → Contains (y ∷ xs) x
has-later y xs x (i, inside, is) = (suc i, omega (arith, inside), is)

-- a known key has a place
key-there : (known : List Entry) (key : KeyName) (place : ℕ) → Contains known (key, place) → place_known key known ≡ None → ⊥
key-there [] key place (i, inside, is) none = absurd (omega (arith, inside))
key-there (e ∷ es) key place (zero, inside, is) none =
    let apart = key-apart key e es none in
    let same : key_eq key e.0 ≡ true = (key-Decides key e.0).1 (sym (ap (λ (x : Entry). x.0) is)) in
    let never : true ≡ false = sym same ∙ apart.0 in
    cc
key-there (e ∷ es) key place (suc i, inside, is) none = key-there es key place (i, omega (arith, inside), is) (key-apart key e es none).1

-- a place that is known is that of a key
place-there : (known : List Entry) (place : ℕ) → is_among place (map (λ (e : Entry). e.1) known) ≡ true → (key : KeyName) × Contains known (key, place)
place-there [] place among = absurd (cc)
place-there (e ∷ es) place among = by (e.1 == place) refl (place-there es place) where
  by : (at : Bool) → (e.1 == place) ≡ at → (is_among place (map (λ (x : Entry). x.1) es) ≡ true → (key : KeyName) × Contains es (key, place))
      → (key : KeyName) × Contains (e ∷ es) (key, place)
  by true at more = (e.0, (0, omega arith, ap (λ (p : ℕ). (e.0, p)) (same-place e.1 place at)))
  by false apart more = let later = more (rw apart at among) in (later.0, has-later e es (later.0, place) later.1)

-- where one key is known at a place, and each key once, the place occurs at most once
once-there : (known : List Entry) (place : ℕ) → AreKnownOnce known → HasOneKey place known → IsOnce place (map (λ (e : Entry). e.1) known)
once-there [] place once one = tt
once-there (e ∷ es) place once one = (
  λ at. by at (is_among place (map (λ (x : Entry). x.1) es)) refl,
  once-there es place once.1 (λ key other here there. one key other (has-later e es (key, place) here) (has-later e es (other, place) there)),
) where
  by : (e.1 == place) ≡ true → (among : Bool) → is_among place (map (λ (x : Entry). x.1) es) ≡ among → is_among place (map (λ (x : Entry). x.1) es) ≡ false
  by at false is = is
  by at true is =
      let later = place-there es place is in
      let same : e.0 ≡ later.0 = one e.0 later.0 (0, omega arith, ap (λ (p : ℕ). (e.0, p)) (same-place e.1 place at)) (has-later e es (later.0, place) later.1) in
      absurd (key-there es later.0 place later.1 (subst (λ (k : KeyName). place_known k es ≡ None) same once.0))

-- so it is all that is left of the places
none-there : (places : List ℕ) (place : ℕ) → is_among place places ≡ false → filter (λ p. p == place) places ≡ []
none-there [] place none = refl
none-there (p ∷ ps) place none = by (p == place) refl (none-there ps place) where
  by : (at : Bool) → (p == place) ≡ at → (is_among place ps ≡ false → filter (λ x. x == place) ps ≡ []) → filter (λ x. x == place) (p ∷ ps) ≡ []
  by true at more = absurd (let never = rw at at none in cc)
  by false apart more = rw apart (more (rw apart at none))

one-there : (places : List ℕ) (i place : ℕ) → slice_get places i ≡ Some place → IsOnce place places → filter (λ p. p == place) places ≡ place ∷ []
one-there [] i place here once = absurd (cc)
one-there (p ∷ ps) zero place here once =
    let at : (p == place) ≡ true = grind (arith, nat_tests, here) in
    let is : p ≡ place = same-place p place at in
    rw (at, none-there ps place (once.0 at)) (ap (λ (x : ℕ). x ∷ []) is)
one-there (p ∷ ps) (suc i) place here once = by (p == place) refl (one-there ps i place here once.1) where
  among : (qs : List ℕ) (j : ℕ) → slice_get qs j ≡ Some place → is_among place qs ≡ true
  among [] j there = absurd (cc)
  among (q ∷ qs) zero there = grind (arith, nat_tests, there)
  among (q ∷ qs) (suc j) there = grind (arith, nat_tests, among qs j there)

  by : (at : Bool) → (p == place) ≡ at → filter (λ x. x == place) ps ≡ place ∷ [] → filter (λ x. x == place) (p ∷ ps) ≡ place ∷ []
  by true at later = absurd (let never : true ≡ false = sym (among ps i here) ∙ once.0 at in cc)
  by false apart later = rw apart later

-- and to take it out of the order is to keep the others
others-kept : (order : List KnownPlace) (place : ℕ) → is_among place (map (λ (k : KnownPlace). k.place) order) ≡ false
    → filter (λ (k : KnownPlace). not (k.place == place)) order ≡ order
others-kept [] place none = refl
others-kept (k ∷ ks) place none = by (k.place == place) refl (others-kept ks place) where
  by : (at : Bool) → (k.place == place) ≡ at
      → (is_among place (map (λ (x : KnownPlace). x.place) ks) ≡ false → filter (λ (x : KnownPlace). not (x.place == place)) ks ≡ ks)
      → filter (λ (x : KnownPlace). not (x.place == place)) (k ∷ ks) ≡ k ∷ ks
  by true at more = absurd (let never = rw at at none in cc)
  by false apart more = rw apart (ap (λ (left : List KnownPlace). k ∷ left) (more (rw apart at none)))

one-removed : (order : List KnownPlace) (i : ℕ) (k : KnownPlace) → slice_get order i ≡ Some k → IsOnce k.place (map (λ (x : KnownPlace). x.place) order)
    → remove order i ≡ filter (λ (x : KnownPlace). not (x.place == k.place)) order
one-removed [] i k here once = absurd (cc)
one-removed (x ∷ xs) zero k here once =
    let is : x ≡ k = cc in
    let at : (x.place == k.place) ≡ true = rw is (grind (arith, nat_tests)) in
    rw at (sym (others-kept xs k.place (once.0 at)))
one-removed (x ∷ xs) (suc i) k here once = by (x.place == k.place) refl (one-removed xs i k here once.1) where
  among : (qs : List KnownPlace) (j : ℕ) → slice_get qs j ≡ Some k → is_among k.place (map (λ (q : KnownPlace). q.place) qs) ≡ true
  among [] j there = absurd (cc)
  among (q ∷ qs) zero there = let is : q ≡ k = cc in rw is (grind (arith, nat_tests))
  among (q ∷ qs) (suc j) there = grind (arith, nat_tests, among qs j there)

  by : (at : Bool) → (x.place == k.place) ≡ at → remove xs i ≡ filter (λ (y : KnownPlace). not (y.place == k.place)) xs
      → remove (x ∷ xs) (suc i) ≡ filter (λ (y : KnownPlace). not (y.place == k.place)) (x ∷ xs)
  by true at later = absurd (let never : true ≡ false = sym (among xs i here) ∙ once.0 at in cc)
  by false apart later = rw apart (ap (λ (left : List KnownPlace). x ∷ left) later)

-- only its key is dropped
dropped-one : (known : List Entry) (key : KeyName) (place : ℕ) → Contains known (key, place) → ((other : KeyName) → Contains known (other, place) → key ≡ other)
    → (q : KeyName) → is_dropped (λ p. not (p == place)) q known ≡ key_eq q key
dropped-one known key place there only q = by (key_eq q key) refl where
  goes : (es : List Entry) → key_eq q key ≡ true → Contains es (key, place) → is_dropped (λ p. not (p == place)) q es ≡ true
  goes [] same (i, inside, is) = absurd (omega (arith, inside))
  goes (e ∷ es) same (zero, inside, is) = let own : e ≡ (key, place) = is in rw own (grind (arith, nat_tests, same))
  goes (e ∷ es) same (suc i, inside, is) = grind (arith, nat_tests, goes es same (i, omega (arith, inside), is))

  stays : (es : List Entry) → key_eq q key ≡ false → ((other : KeyName) → Contains es (other, place) → key ≡ other) → is_dropped (λ p. not (p == place)) q es ≡ false
  stays [] other own = refl
  stays (e ∷ es) other own = at (e.1 == place) refl (stays es other (λ k there. own k (has-later e es (k, place) there))) where
    none : (b : Bool) → (b && not (not false)) ≡ false
    none true = refl
    none false = refl

    at : (here : Bool) → (e.1 == place) ≡ here → is_dropped (λ p. not (p == place)) q es ≡ false → is_dropped (λ p. not (p == place)) q (e ∷ es) ≡ false
    at true here rest =
        let same : key ≡ e.0 = own e.0 (0, omega arith, ap (λ (p : ℕ). (e.0, p)) (same-place e.1 place here)) in
        let apart : key_eq q e.0 ≡ false = subst (λ (k : KeyName). key_eq q k ≡ false) same other in
        rw (apart, rest) refl
    at false away rest = rw away (rw (none (key_eq q e.0)) rest)

  by : (same : Bool) → key_eq q key ≡ same → is_dropped (λ p. not (p == place)) q known ≡ same
  by true same = goes known same there
  by false other = stays known other only

key-back : (j k : KeyName) → key_eq j k ≡ key_eq k j
key-back j k = by (key_eq j k) refl where
  by : (same : Bool) → key_eq j k ≡ same → same ≡ key_eq k j
  by true same = sym ((key-Decides k j).1 (sym ((key-Decides j k).0 same)))
  by false other = sym (key-differs j k other)

-- the known place with an index
pub placed-at : (order : List KnownPlace) (i place : ℕ) → option_map (λ (k : KnownPlace). k.place) (slice_get order i) ≡ Some place
    → (k : KnownPlace) × (slice_get order i ≡ Some k) × (k.place ≡ place)
placed-at order i place there = by (slice_get order i) refl there where
  by : (found : Option KnownPlace) → slice_get order i ≡ found → option_map (λ (k : KnownPlace). k.place) found ≡ Some place
      → (k : KnownPlace) × (slice_get order i ≡ Some k) × (k.place ≡ place)
  by None is at = cc
  by (Some k) is at = (k, is, cc)

module _ (met less : List (KeyName × Option ℕ)) (order : List KnownPlace) (known : List Entry) (are : AreKept met order known) where
  -- the places are those of the order
  listed : map (λ (e : Entry). e.1) known ≡ map (λ (k : KnownPlace). k.place) order
  listed = ap (map (λ (e : Entry). e.1)) (sym are.0) ∙ places-listed (keys_of met) order are.1

  module _ (place : ℕ) (one : HasOneKey place known) where
    once-in : IsOnce place (map (λ (k : KnownPlace). k.place) order)
    once-in = subst (IsOnce place) listed (once-there known place are.3 one)

    module _ (i : ℕ) (k : KnownPlace) (here : slice_get order i ≡ Some k) (at : k.place ≡ place) where
      place-here : slice_get (map (λ (x : KnownPlace). x.place) order) i ≡ Some place
      place-here = slice_get-map (λ (x : KnownPlace). x.place) order i ∙ ap (option_map (λ (x : KnownPlace). x.place)) here ∙ ap (λ (p : ℕ). Some p) at

      pub spare-found : filter (λ p. p == place) (map (λ (e : Entry). e.1) known) ≡ place ∷ []
      spare-found = rw listed (one-there (map (λ (x : KnownPlace). x.place) order) i place place-here once-in)

      -- its key
      key-here : (key : KeyName) × (slice_get (keys_of met) k.key ≡ Some key) × Contains known (key, place)
      key-here =
          let held : Contains order k = has-at order i k here in
          let inside : k.key < length (keys_of met) = subst (λ (x : KnownPlace). x.key < length (keys_of met)) held.2 (are.1 held.0 k held.1) in
          let there = at-index (keys_of met) k.key inside in
          let entry : known_key (keys_of met) k ≡ Some (there.0, place) = rw there.1 (ap (λ (p : ℕ). Some (there.0, p)) at) in
          (there.0, there.1, subst (λ (es : List Entry). Contains es (there.0, place)) are.0 (listed-key order i here entry))
        where
          listed-key : {key : KeyName} (ks : List KnownPlace) (j : ℕ) → slice_get ks j ≡ Some k → known_key (keys_of met) k ≡ Some (key, place)
              → Contains (known_keys (keys_of met) ks) (key, place)
          listed-key [] j there entry = absurd (cc)
          listed-key {key} (x ∷ xs) zero there entry =
              let is : x ≡ k = cc in
              let own : known_key (keys_of met) x ≡ Some (key, place) = subst (λ (y : KnownPlace). known_key (keys_of met) y ≡ Some (key, place)) (sym is) entry in
              rw own (0, omega arith, refl)
          listed-key {key} (x ∷ xs) (suc j) there entry = by (known_key (keys_of met) x) refl (listed-key {key = key} xs j there entry) where
            by : (found : Option Entry) → known_key (keys_of met) x ≡ found → Contains (known_keys (keys_of met) xs) (key, place)
                → Contains (known_keys (keys_of met) (x ∷ xs)) (key, place)
            by None is later = rw is later
            by (Some e) is later = rw is (has-later e (known_keys (keys_of met) xs) (key, place) later)

      pub kept-without : keys_of less ≡ keys_of met
          → ((key q : KeyName) → slice_get (keys_of met) k.key ≡ Some key → place_met q less ≡ (if key_eq key q then None else place_met q met))
          → AreKept less (remove order i) (filter (λ (e : Entry). not (e.1 == place)) known)
      kept-without same told =
          let key = key-here.0 in
          let dropped : (q : KeyName) → place_met q less ≡ (if is_dropped (λ p. not (p == place)) q (known_keys (keys_of met) order) then None else place_met q met) =
          (λ q. told key q key-here.1
          ∙ ap (λ (goes : Bool). if goes then None else place_met q met)
          (key-back key q ∙ sym (dropped-one known key place key-here.2 (λ other there. one key other key-here.2 there) q)
          ∙ ap (is_dropped (λ p. not (p == place)) q) (sym are.0))) in
          let fewer = kept-fewer (λ p. not (p == place)) met less order known are same dropped in
          let removed : remove order i ≡ filter (λ (x : KnownPlace). not (x.place == place)) order =
          subst (λ (p : ℕ). remove order i ≡ filter (λ (x : KnownPlace). not (x.place == p)) order) at
          (one-removed order i k here (subst (λ (p : ℕ). IsOnce p (map (λ (x : KnownPlace). x.place) order)) (sym at) once-in)) in
          subst (λ (places : List KnownPlace). AreKept less places (filter (λ (e : Entry). not (e.1 == place)) known)) (sym removed) fewer

  -- nothing is known at a place that isn't in the order
  module _ (place : ℕ) (none : list_any (λ (k : KnownPlace). k.place == place) order ≡ false) where
    away : is_among place (map (λ (e : Entry). e.1) known) ≡ false
    away = rw listed (mapped order ∙ none) where
      mapped : (ks : List KnownPlace) → is_among place (map (λ (k : KnownPlace). k.place) ks) ≡ list_any (λ (k : KnownPlace). k.place == place) ks
      mapped [] = refl
      mapped (k ∷ ks) = ap (λ (later : Bool). (k.place == place) || later) (mapped ks)

    pub spare-missed : filter (λ p. p == place) (map (λ (e : Entry). e.1) known) ≡ []
    spare-missed = none-there (map (λ (e : Entry). e.1) known) place away

    pub known-still-all : filter (λ (e : Entry). not (e.1 == place)) known ≡ known
    known-still-all = all known away where
      all : (es : List Entry) → is_among place (map (λ (e : Entry). e.1) es) ≡ false → filter (λ (e : Entry). not (e.1 == place)) es ≡ es
      all [] gone = refl
      all (e ∷ es) gone = by (e.1 == place) refl (all es) where
        by : (at : Bool) → (e.1 == place) ≡ at → (is_among place (map (λ (x : Entry). x.1) es) ≡ false → filter (λ (x : Entry). not (x.1 == place)) es ≡ es)
            → filter (λ (x : Entry). not (x.1 == place)) (e ∷ es) ≡ e ∷ es
        by true at more = absurd (let never = rw at at gone in cc)
        by false apart more = rw apart (ap (λ (left : List Entry). e ∷ left) (more (rw apart at gone)))

none-pass : {X : Type 0} (xs : List X) → filter (λ _. false) xs ≡ []
none-pass [] = refl
none-pass (x ∷ xs) = none-pass xs

-- so there was one
pub no-snoc : {X : Type 0} (xs : List X) (x : X) → xs ++ x ∷ [] ≡ [] → ⊥
no-snoc [] x none = cc
no-snoc (y ∷ ys) x none = cc

-- all forgotten
pub kept-none : (met less : List (KeyName × Option ℕ)) (order : List KnownPlace) (known : List Entry) → AreKept met order known → keys_of less ≡ keys_of met
    → ((q : KeyName) → place_met q less ≡ (if is_dropped (λ _. false) q (known_keys (keys_of met) order) then None else place_met q met)) → AreKept less [] []
kept-none met less order known are same told =
    let fewer = kept-fewer (λ _. false) met less order known are same told in
    subst (λ (places : List KnownPlace). AreKept less places []) (none-pass order)
    (subst (λ (left : List Entry). AreKept less (filter (λ (k : KnownPlace). false) order) left) (none-pass known) fewer)

-- ---- some dropped from the map

dropped-last : (test : ℕ → Bool) (q : KeyName) (known : List Entry) (e : Entry)
    → is_dropped test q (known ++ e ∷ []) ≡ (is_dropped test q known || (key_eq q e.0 && not (test e.1)))
dropped-last test q [] e = by (key_eq q e.0 && not (test e.1)) where
  by : (goes : Bool) → (goes || false) ≡ (false || goes)
  by true = refl
  by false = refl
dropped-last test q (x ∷ xs) e = by (key_eq q x.0 && not (test x.1)) (dropped-last test q xs e) where
  by : (goes : Bool) → is_dropped test q (xs ++ e ∷ []) ≡ (is_dropped test q xs || (key_eq q e.0 && not (test e.1)))
      → (goes || is_dropped test q (xs ++ e ∷ [])) ≡ ((goes || is_dropped test q xs) || (key_eq q e.0 && not (test e.1)))
  by true later = refl
  by false later = later

module _ (test : ℕ → Bool) (keys : List KeyName) (order : List KnownPlace) (old : List (KeyName × Option ℕ)) where
  -- of the first so many known keys, those at places that fail have no place in the map any more
  abbrev pub AreDropped : ℕ → List (KeyName × Option ℕ) → Type 0
  AreDropped n met = (q : KeyName) → place_met q met ≡ (if is_dropped test q (known_keys keys (take n order)) then None else place_met q old)

  module _ (i : ℕ) (k : KnownPlace) (key : KeyName) (met : List (KeyName × Option ℕ)) (inside : i < length order) (own : get_or order i k ≡ k)
      (here : slice_get keys k.key ≡ Some key) (so_far : AreDropped i met) where
    one-more : (q : KeyName) → is_dropped test q (known_keys keys (take (i + 1) order)) ≡ (is_dropped test q (known_keys keys (take i order)) || (key_eq q key && not (test k.place)))
    one-more q =
        let front : take (i + 1) order ≡ take i order ++ k ∷ [] = take_more order i k inside ∙ ap (λ (x : KnownPlace). take i order ++ x ∷ []) own in
        let last : known_keys keys (k ∷ []) ≡ (key, k.place) ∷ [] = rw here refl in
        ap (λ (part : List KnownPlace). is_dropped test q (known_keys keys part)) front
        ∙ ap (is_dropped test q) (filter_map-append (known_key keys) (take i order) (k ∷ []) ∙ ap (λ known. known_keys keys (take i order) ++ known) last)
        ∙ dropped-last test q (known_keys keys (take i order)) (key, k.place)

    pub drop-next : (less : List (KeyName × Option ℕ)) → test k.place ≡ false → ((q : KeyName) → place_met q less ≡ (if key_eq key q then None else place_met q met)) → AreDropped (i + 1) less
    drop-next less goes told q = by (key_eq q key) refl where
      Goal : Type 0
      Goal = place_met q less ≡ (if is_dropped test q (known_keys keys (take (i + 1) order)) then None else place_met q old)

      by : (same : Bool) → key_eq q key ≡ same → Goal
      by true same =
          let back : key_eq key q ≡ true = (key-Decides key q).1 (sym ((key-Decides q key).0 same)) in
          told q ∙ rw back (rw (one-more q, same, goes) (either (is_dropped test q (known_keys keys (take i order))))) where
            either : (before : Bool) → None ≡ (if before || true then None else place_met q old)
            either true = refl
            either false = refl
      by false other =
          told q ∙ rw (key-differs q key other) (rw (one-more q, other) (so_far q ∙ still (is_dropped test q (known_keys keys (take i order))))) where
            still : (before : Bool) → (if before then None else place_met q old) ≡ (if before || false then None else place_met q old)
            still true = refl
            still false = refl

    pub keep-next : test k.place ≡ true → AreDropped (i + 1) met
    keep-next stays q = so_far q ∙ rw (one-more q, stays) (still (is_dropped test q (known_keys keys (take i order))) (key_eq q key)) where
      still : (before same : Bool) → (if before then None else place_met q old) ≡ (if before || (same && false) then None else place_met q old)
      still true same = refl
      still false true = refl
      still false false = refl

-- ---- the map

key-laws : IsEquivalence key_eq
key-laws = search (comparing, rules) depth 9

module _ {S : Type 0} (m n : IndexMap KeyName (Option ℕ) S) (key : KeyName) (w : Option ℕ) where
  -- a change of one key's value
  pub met-updated : ((q : KeyName) → get key_eq n q ≡ (if key_eq key q then Some w else get key_eq m q)) → (q : KeyName) → place_met q n.entries ≡ (if key_eq key q then w else place_met q m.entries)
  met-updated told q = by (key_eq key q) refl where
    by : (same : Bool) → key_eq key q ≡ same → place_met q n.entries ≡ (if key_eq key q then w else place_met q m.entries)
    by true same = ap (option_and_then (λ (place : Option ℕ). place)) (told q) ∙ rw same refl
    by false other = ap (option_and_then (λ (place : Option ℕ). place)) (told q) ∙ rw other refl

module _ {S : Type 0} (m : IndexMap KeyName (Option ℕ) S) (i : ℕ) (key : KeyName) (v w : Option ℕ) where
  -- a value written at an index
  pub met-written : IsUnique key_eq m → slice_get m.entries i ≡ Some (key, v)
      → (q : KeyName) → place_met q (with_value_at m i w).entries ≡ (if key_eq key q then w else place_met q m.entries)
  met-written unique at = met-updated m (with_value_at m i w) key w (updates-with_value_at m i w key-laws unique key v at).0

-- the key that is found at an index
pub key-found : (keys : List KeyName) (key : KeyName) (i : ℕ) → position (key_eq key) keys ≡ Some i → slice_get keys i ≡ Some key
key-found keys key i found =
    let there = position-Some (key_eq key) keys i key found in
    slice_get-get_or keys i key there.0 ∙ ap (λ (k : KeyName). Some k) (sym ((key-Decides key (get_or keys i key)).0 there.1))

-- and its entry
pub entry-found : (entries : List (KeyName × Option ℕ)) (i : ℕ) (key : KeyName) → slice_get (keys_of entries) i ≡ Some key → (v : Option ℕ) × (slice_get entries i ≡ Some (key, v))
entry-found [] i key here = absurd (cc)
entry-found (e ∷ es) zero key here = (e.1, (let own : e.0 ≡ key = cc in ap (λ (k : KeyName). Some (k, e.1)) own))
entry-found (e ∷ es) (suc i) key here = entry-found es i key here

-- a new key goes last
pub keys-inserted : {S : Type 0} (m : IndexMap KeyName (Option ℕ) S) (entries : List (KeyName × Option ℕ)) (key : KeyName) (v : Option ℕ)
    → lookup (key_eq key) m.entries ≡ None → entries ≡ insert_entry key_eq m.entries key v → keys_of entries ≡ keys m ++ key ∷ []
keys-inserted m entries key v new is =
    ap (λ (es : List (KeyName × Option ℕ)). keys_of es) (is ∙ insert_entry-new key_eq m key v new) ∙ map_push (λ (e : KeyName × Option ℕ). e.0) m.entries (key, v)

-- and the others stay
pub keys-grown : (keys : List KeyName) (key : KeyName) → KeepsKeys keys (keys ++ key ∷ [])
keys-grown [] key i k here = absurd (cc)
keys-grown (x ∷ xs) key zero k here = here
keys-grown (x ∷ xs) key (suc i) k here = keys-grown xs key i k here

pub key-last : (keys : List KeyName) (key : KeyName) → slice_get (keys ++ key ∷ []) (length keys) ≡ Some key
key-last [] key = refl
key-last (x ∷ xs) key = key-last xs key

-- ---- what is needed

eqb-suc : (n : ℕ) → (suc n == 0) ≡ false
eqb-suc n = grind (arith, nat_tests)

any-numbered : (place : ℕ) (kept : List Kept) → not (length (numbers_among place kept) == 0) ≡ list_any (is_kept_at place) kept
any-numbered place [] = refl
any-numbered place (t ∷ ts) = by (is_kept_at place t) refl (any-numbered place ts) where
  by : (here : Bool) → is_kept_at place t ≡ here → not (length (numbers_among place ts) == 0) ≡ list_any (is_kept_at place) ts
      → not (length (numbers_among place (t ∷ ts)) == 0) ≡ list_any (is_kept_at place) (t ∷ ts)
  by true here later = rw here (rw (eqb-suc (length (numbers_among place ts))) refl)
  by false other later = rw other later

-- an index tells which places are needed
pub needed-told : (kept : List Kept) (index : Index) (wait : Option Wanted) (place : ℕ) → IsIndexOf kept index
    → needs_place index wait place ≡ (list_any (is_kept_at place) kept || option_map_or (λ (wanted : Wanted). wanted.place == place) wait false)
needed-told kept index wait place is =
    ap (λ (there : Bool). there || option_map_or (λ (wanted : Wanted). wanted.place == place) wait false)
    (ap (λ (numbers : List ℕ). not (length numbers == 0)) (is place) ∙ any-numbered place kept)
