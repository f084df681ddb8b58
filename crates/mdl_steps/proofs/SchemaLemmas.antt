-- The tables of a schema among the keys of the directory.
use Rattle.std.proofs.Common.{◌≡◌, ℕ, suc, ◌+◌, ◌-◌, ◌<◌, ◌≤◌, not, List, [], ◌∷◌, ◌++◌, length, Some, sym, ap, ◌∙◌, arith, append_assoc, append-nil, All, slice_get}
use Rattle.std.proofs.lemmas.List.Elements.{All-append, All-cons, All-filter, All-head, All-nil, All-tail, All-weaker}
use Rattle.mdl_steps.proofs.Common.{Each, KeyName, Keys, KnownKey, StandThere, is_key_known, is_table_of, key_at, table_at, tables_from, unknown}
use Rattle.mdl_steps.proofs.Views.{by_bool}

-- ---- what the session learns

each_of : {X : Type 0} → (P : X → Type 0) (xs : List X) → All P xs → Each P xs
each_of P [] all = tt
each_of P (x ∷ xs) all = (All-head P x xs all, each_of P xs (All-tail P x xs all))

-- those that it doesn't know stand where all of them stand
pub new_stand : (k : Keys) (known more : List KnownKey) → StandThere k more → Each (λ (x : KnownKey). (0 < x.place) × (key_at k.keys x.place ≡ Some x.key)) (unknown known more)
new_stand k known more all =
    each_of (λ (x : KnownKey). (0 < x.place) × (key_at k.keys x.place ≡ Some x.key)) (unknown known more)
    (All-filter (λ (x : KnownKey). not (is_key_known known x.key)) (λ (x : KnownKey). (0 < x.place) × (key_at k.keys x.place ≡ Some x.key)) more all)

-- ---- one key more

pub tables_more : (schema : List ℕ) (place : ℕ) (keys : List KeyName) (key : KeyName)
    → tables_from schema place (keys ++ key ∷ []) ≡ tables_from schema place keys ++ table_at schema (place + length keys) key
tables_more schema place [] key =
    let at : place ≡ place + 0 = omega arith in
    append-nil (table_at schema place key) ∙ ap (λ (p : ℕ). table_at schema p key) at
tables_more schema place (x ∷ xs) key =
    let at : place + 1 + length xs ≡ place + length (x ∷ xs) = omega arith in
    ap (λ (rest : List KnownKey). table_at schema place x ++ rest) (tables_more schema (place + 1) xs key ∙ ap (λ (p : ℕ). tables_from schema (place + 1) xs ++ table_at schema p key) at)
    ∙ sym (append_assoc (table_at schema place x) (tables_from schema (place + 1) xs) (table_at schema (place + length (x ∷ xs)) key))

-- ---- each of the tables stands at its place

-- by keys of which the first has this place
abbrev StandsFrom : ℕ → List KeyName → KnownKey → Type 0
StandsFrom place keys x = (place ≤ x.place) × (slice_get keys (x.place - place) ≡ Some x.key)

later : (place : ℕ) (key : KeyName) (keys : List KeyName) (x : KnownKey) → StandsFrom (place + 1) keys x → StandsFrom place (key ∷ keys) x
later place key keys x stands =
    let past = stands.0 in
    let next : x.place - place ≡ suc (x.place - (place + 1)) = omega arith in
    (omega arith, ap (slice_get (key ∷ keys)) next ∙ stands.1)

first : (schema : List ℕ) (place : ℕ) (key : KeyName) (keys : List KeyName) → All (StandsFrom place (key ∷ keys)) (table_at schema place key)
first schema place key keys =
    by_bool (is_table_of schema key)
    (λ is.
    let here : place - place ≡ 0 = omega arith in
    let one : KnownKey = record { key = key; place = place } in
    rw is (All-cons (StandsFrom place (key ∷ keys)) one [] (omega arith, ap (slice_get (key ∷ keys)) here) (All-nil (StandsFrom place (key ∷ keys)))))
    (λ isnt. rw isnt (All-nil (StandsFrom place (key ∷ keys))))

tables_stand_from : (schema : List ℕ) (place : ℕ) (keys : List KeyName) → All (StandsFrom place keys) (tables_from schema place keys)
tables_stand_from schema place [] = All-nil (StandsFrom place [])
tables_stand_from schema place (key ∷ keys) =
    All-append (StandsFrom place (key ∷ keys)) (table_at schema place key) (tables_from schema (place + 1) keys)
    (first schema place key keys)
    (All-weaker (StandsFrom (place + 1) keys) (StandsFrom place (key ∷ keys)) (later place key keys) (tables_from schema (place + 1) keys) (tables_stand_from schema (place + 1) keys))

pub tables_stand : (schema : List ℕ) (k : Keys) → StandThere k (tables_from schema 1 k.keys)
tables_stand schema k =
    All-weaker (StandsFrom 1 k.keys) (λ (x : KnownKey). (0 < x.place) × (key_at k.keys x.place ≡ Some x.key)) (λ x stands. (let past = stands.0 in omega arith, stands.1))
    (tables_from schema 1 k.keys) (tables_stand_from schema 1 k.keys)
