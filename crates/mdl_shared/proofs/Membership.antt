-- A session's own lists: the tickets in them, and the places that it knows, which are places of the table.
use Rattle.std.proofs.Common.{◌≡◌, ℕ, zero, suc, ◌<◌, ◌==◌, ◌&&◌, true, List, [], ◌∷◌, ◌++◌, Option, Some, None, is_some, refl, sym, ap, ◌∙◌, append_assoc, append-nil, nat_lt, eqb-true, lt-ltb, ltb-true}
use Rattle.mdl_shared.proofs.Common.{All-head, All-tail, AreWithin, HasTicket, IsCounted, KeyName, Kind, KnownKey, Mode, SessionTicket, View, and_from, and_parts, are_counted, are_within, by_bool, get_elem?, increment_at, increment_of, is_known, key_eq, kind_known, kind_of, numbered, option_and_then, option_map, place_known, some}

-- the ticket of a number stands in the list
pub has_numbered : (place number : ℕ) (tickets : List SessionTicket) → option_map (λ (t : SessionTicket). t.place) (numbered number tickets) ≡ Some place → HasTicket place number tickets
has_numbered place number [] e = absurd (cc)
has_numbered place number (t ∷ ts) e =
    by_bool (t.number == number)
    (λ hit. let here = rw hit at e in let is : t.place ≡ place = cc in (zero, t, refl, is, eqb-true t.number number hit))
    (λ miss. let later = has_numbered place number ts (rw miss at e) in (suc later.0, later.1, later.2, later.3, later.4))

-- a place that is known is that of a key
pub some_key : (place : ℕ) (known : List KnownKey) → is_known place known ≡ true → (i : ℕ) × (k : KnownKey) × (get_elem? known i ≡ some k) × (k.place ≡ place)
some_key place [] e = absurd (cc)
some_key place (k ∷ ks) e =
    by_bool (k.place == place)
    (λ hit. (zero, k, refl, eqb-true k.place place hit))
    (λ miss. let later = some_key place ks (rw miss at e) in (suc later.0, later.1, later.2, later.3))

-- and it is a place of the table
pub known_within : (slots place : ℕ) (known : List KnownKey) → are_within slots known ≡ true → is_known place known ≡ true → (0 < place) × (place < slots)
known_within slots place [] all e = absurd (cc)
known_within slots place (k ∷ ks) all e =
    let parts = and_parts (nat_lt 0 k.place && nat_lt k.place slots) (are_within slots ks) all in
    by_bool (k.place == place)
    (λ hit.
    let is = eqb-true k.place place hit in
    let here = and_parts (nat_lt 0 k.place) (nat_lt k.place slots) parts.0 in
    rw (sym is) (ltb-true 0 k.place here.0, ltb-true k.place slots here.1))
    (λ miss. known_within slots place ks parts.1 (rw miss at e))

-- a known kind is that of a key that the session has looked up
pub kind_there : (place : ℕ) (kind : Kind) (known : List KnownKey) → kind_known place known ≡ Some kind
    → (i : ℕ) × (k : KnownKey) × (get_elem? known i ≡ some k) × (k.place ≡ place) × (kind_of k.key.namespace ≡ kind)
kind_there place kind [] e = absurd (cc)
kind_there place kind (k ∷ ks) e =
    by_bool (k.place == place)
    (λ hit. let here = rw hit at e in let is : kind_of k.key.namespace ≡ kind = cc in (zero, k, refl, eqb-true k.place place hit, is))
    (λ miss. let later = kind_there place kind ks (rw miss at e) in (suc later.0, later.1, later.2, later.3, later.4))

pub kind_place : (place : ℕ) (kind : Kind) (known : List KnownKey) → kind_known place known ≡ Some kind → is_known place known ≡ true
kind_place place kind [] e = absurd (cc)
kind_place place kind (k ∷ ks) e = by_bool (k.place == place) (λ hit. rw hit refl) (λ miss. rw miss (kind_place place kind ks (rw miss at e)))

-- ---- with keys more that the session knows

pub within_more : (slots : ℕ) (known : List KnownKey) (one : KnownKey) → are_within slots known ≡ true → (0 < one.place) × (one.place < slots) → are_within slots (known ++ one ∷ []) ≡ true
within_more slots [] one all here = and_from _ _ (and_from _ _ (lt-ltb 0 one.place here.0) (lt-ltb one.place slots here.1)) refl
within_more slots (k ∷ ks) one all here =
    let parts = and_parts (nat_lt 0 k.place && nat_lt k.place slots) (are_within slots ks) all in
    and_from _ _ parts.0 (within_more slots ks one parts.1 here)

-- the place of a key that the session has looked up is one of the table's
pub place_within : (slots place : ℕ) (key : KeyName) (known : List KnownKey) → are_within slots known ≡ true → place_known key known ≡ Some place → (0 < place) × (place < slots)
place_within slots place key [] all e = absurd (cc)
place_within slots place key (k ∷ ks) all e =
    let parts = and_parts (nat_lt 0 k.place && nat_lt k.place slots) (are_within slots ks) all in
    by_bool (key_eq k.key key)
    (λ hit.
    let found = rw hit at e in
    let is : k.place ≡ place = cc in
    let here = and_parts (nat_lt 0 k.place) (nat_lt k.place slots) parts.0 in
    rw (sym is) (ltb-true 0 k.place here.0, ltb-true k.place slots here.1))
    (λ miss. place_within slots place key ks parts.1 (rw miss at e))

-- a kind that is known is known still
pub kind_still : (place : ℕ) (kind : Kind) (known more : List KnownKey) → kind_known place known ≡ Some kind → kind_known place (known ++ more) ≡ Some kind
kind_still place kind [] more e = absurd (cc)
kind_still place kind (k ∷ ks) more e =
    by_bool (k.place == place) (λ hit. rw hit (rw hit at e)) (λ miss. rw miss (kind_still place kind ks more (rw miss at e)))

-- so what is counted is counted still
still_counted : (place : ℕ) (mode : Mode) (known more : List KnownKey) → is_some (increment_at place mode known) ≡ true → is_some (increment_at place mode (known ++ more)) ≡ true
still_counted place mode known more counted = by (kind_known place known) refl counted
  where
    by : (o : Option Kind) → kind_known place known ≡ o → is_some (option_and_then (λ kind. increment_of kind mode) o) ≡ true
        → is_some (increment_at place mode (known ++ more)) ≡ true
    by None e counts = absurd (cc)
    by (Some kind) e counts = ap (λ (o : Option Kind). is_some (option_and_then (λ k. increment_of k mode) o)) (kind_still place kind known more e) ∙ counts

pub counted_and : (known more : List KnownKey) (fast : List SessionTicket) → are_counted known fast ≡ true → are_counted (known ++ more) fast ≡ true
counted_and known more [] all = refl
counted_and known more (t ∷ ts) all =
    let parts = and_parts (is_some (increment_at t.place t.mode known)) (are_counted known ts) all in
    and_from _ _ (still_counted t.place t.mode known more parts.0) (counted_and known more ts parts.1)

-- the word of a place counts a ticket by what is known of its kind
pub counted_so : (v : View) (place : ℕ) (mode : Mode) (one : ℕ) → increment_at place mode v.known ≡ Some one → IsCounted v place mode one
counted_so v place mode one is = by (kind_known place v.known) refl is
  where
    by : (o : Option Kind) → kind_known place v.known ≡ o → option_and_then (λ kind. increment_of kind mode) o ≡ Some one → IsCounted v place mode one
    by None e counts = absurd (cc)
    by (Some kind) e counts =
        let there = kind_there place kind v.known e in
        (there.0, there.1, there.2, there.3, ap (λ k. increment_of k mode) there.4 ∙ counts)

-- ---- with several keys more

pub within_and : (slots : ℕ) (known more : List KnownKey) → are_within slots known ≡ true → AreWithin slots more → are_within slots (known ++ more) ≡ true
within_and slots known [] all here = ap (are_within slots) (append-nil known) ∙ all
within_and slots known (x ∷ xs) all here =
    let inside : KnownKey → Type 0 = λ k. (0 < k.place) × (k.place < slots) in
    ap (are_within slots) (sym (append_assoc known (x ∷ []) xs))
    ∙ within_and slots (known ++ x ∷ []) xs (within_more slots known x all (All-head inside x xs here)) (All-tail inside x xs here)
