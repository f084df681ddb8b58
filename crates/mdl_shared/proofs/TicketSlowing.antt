-- Tickets are made slow by their numbers, and listed by their places.
use Rattle.std.proofs.Common.{◌≡◌, ℕ, zero, suc, ◌+◌, ◌<◌, ◌≤◌, Bool, true, false, List, [], ◌∷◌, ◌++◌, length, get_or, set, take, drop, map, Some, None, refl, sym, ap, subst, ◌∙◌, arith, not, ◌==◌, ◌&&◌, filter, is_some, eqb-true, get_or-drop, length-drop}
use Rattle.std.proofs.lemmas.Grind.{take_at_read}
use Rattle.mdl_shared.proofs.FirstLemmas.{AreByPlace, Gained, HaveRisingNumbers, IX, IsNonDecreasingBy, IsNonDecreasingBy-from_sort, IsSortedByKey, IsStableByKey, OfPlace, SessionTicket, StandsAt, and_right, but_at, by_bool, fails_before_first, fast_of, gone_here, is_fast_there, is_lt, is_lt_index, later_rise, length-map, list_all, nat_cmp, nat_tests, numbered, own_at, position, position-Some, position_or_len, slowed, slowed_as, slowed_there, some_of, there, ties, with_note}
use Rattle.mdl_shared.proofs.SlowPlaces.{all-left, none-anywhere}
use Rattle.mdl_shared.proofs.TicketEdits.{alone, find_none, later_stands, lower, rest}

-- ---- one ticket

-- a ticket is as it was where its flag is
same_flag : (t : Gained) (fast : Bool) → fast ≡ t.fast → record t { fast = fast } ≡ t
same_flag t fast is = ap (λ (f : Bool). record t { fast = f }) is

and_true : (a b : Bool) → b ≡ true → a && b ≡ a
and_true true b is = is
and_true false b is = refl

-- one that has another number stays as it was
slowed-other : (id : ℕ) (t : Gained) → (t.id == id) ≡ false → slowed id t ≡ t
slowed-other id t other = same_flag t (t.fast && not (t.id == id)) (and_true t.fast (not (t.id == id)) (ap not other))

slowed-none : (id : ℕ) (xs : List Gained) → list_all (λ t. not (t.id == id)) xs ≡ true → map (slowed id) xs ≡ xs
slowed-none id [] none = refl
slowed-none id (x ∷ xs) none =
    let later = slowed-none id xs (rest (λ t. not (t.id == id)) x xs none) in
    let other : (x.id == id) ≡ false = grind (arith, nat_tests, none) in
    (λ k. slowed-other id x other k ∷ later k)

pub slowed_none : (id : ℕ) (xs : List Gained) → list_all (λ t. not (t.id == id)) xs ≡ true → xs ≡ map (slowed id) xs
slowed_none id xs none = sym (slowed-none id xs none)

pub slowed_at : (id : ℕ) (xs : List Gained) (at : ℕ) (t : Gained) → HaveRisingNumbers xs → StandsAt id at xs → t ≡ get_or xs at t
    → set xs at (record t { fast = false }) ≡ map (slowed id) xs
slowed_at id [] at t rising stands is = absurd (omega (arith, stands.0))
slowed_at id (x ∷ xs) zero t rising stands is =
    let later = slowed-none id xs (alone id x xs rising (stands.1 x)) in
    let its : (x.id == id) ≡ true = grind (arith, nat_tests, stands.1 x) in
    let flag : x.fast && not (x.id == id) ≡ false = and_right x.fast (not (x.id == id)) (ap not its) in
    (λ k. record (is k) { fast = sym flag k } ∷ sym later k)
slowed_at id (x ∷ xs) (suc at) t rising stands is =
    let later = slowed_at id xs at t (later_rise x xs rising) (later_stands id x xs at stands) is in
    let before = lower id x xs at rising stands in
    let other : (x.id == id) ≡ false = grind (arith, nat_tests, before) in
    (λ k. sym (slowed-other id x other) k ∷ later k)

-- ---- those with the numbers of some

numbers_kept : (us : List SessionTicket) (xs : List Gained) (i : ℕ) (d : Gained) → (get_or (map (slowed_as us) xs) i d).id ≡ (get_or xs i d).id
numbers_kept us [] i d = refl
numbers_kept us (x ∷ xs) zero d = refl
numbers_kept us (x ∷ xs) (suc i) d = numbers_kept us xs i d

pub rise_slowed : (us : List SessionTicket) (xs : List Gained) → HaveRisingNumbers xs → HaveRisingNumbers (map (slowed_as us) xs)
rise_slowed us xs rising i j d before inside =
    let within : j < length xs = rw (length-map xs (slowed_as us)) at inside in
    rw (numbers_kept us xs i d, numbers_kept us xs j d) (rising i j d before within)

-- none has the number of none
pub slowed_first : (xs : List Gained) → xs ≡ map (slowed_as []) xs
slowed_first [] = refl
slowed_first (x ∷ xs) = (λ k. sym (same_flag x (x.fast && true) (and_true x.fast true refl)) k ∷ slowed_first xs k)

-- whether one of some tickets and one more has a number
found_more : (us : List SessionTicket) (u : SessionTicket) (id : ℕ) (fast : Bool)
    → (fast && not (is_some (numbered id us))) && not (id == u.number) ≡ fast && not (is_some (numbered id (us ++ u ∷ [])))
found_more [] u id fast = by_bool (u.number == id)
    (λ its. let same : (id == u.number) ≡ true = grind (arith, nat_tests, its) in rw (its, same) (grind (arith, nat_tests)))
    (λ other. let same : (id == u.number) ≡ false = grind (arith, nat_tests, other) in rw (other, same) (grind (arith, nat_tests)))
found_more (v ∷ us) u id fast = by_bool (v.number == id)
    (λ its. rw its (grind (arith, nat_tests)))
    (λ other. rw other (found_more us u id fast))

-- one more is made slow
pub slowed_more : (us : List SessionTicket) (u : SessionTicket) (xs : List Gained) → map (slowed u.number) (map (slowed_as us) xs) ≡ map (slowed_as (us ++ u ∷ [])) xs
slowed_more us u [] = refl
slowed_more us u (x ∷ xs) = (λ k. record x { fast = found_more us u x.id x.fast k } ∷ slowed_more us u xs k)

-- so is the next one, one after the other
pub slowed_next : (us : List SessionTicket) (i : ℕ) (d : SessionTicket) (xs ys zs : List Gained) → i < length us → ys ≡ map (slowed_as (take i us)) xs
    → zs ≡ map (slowed (get_or us i d).number) ys → zs ≡ map (slowed_as (take (i + 1) us)) xs
slowed_next us i d xs ys zs inside before now =
    now ∙ ap (map (slowed (get_or us i d).number)) before ∙ slowed_more (take i us) (get_or us i d) xs
    ∙ ap (λ (these : List SessionTicket). map (slowed_as these) xs) (sym (take_at_read us i d inside).1)

-- ---- those of a place

-- a number that none has changes none
skipped : (u : SessionTicket) (us : List SessionTicket) (xs : List Gained) → list_all (λ t. not (t.id == u.number)) xs ≡ true → map (slowed_as (u ∷ us)) xs ≡ map (slowed_as us) xs
skipped u us [] none = refl
skipped u us (x ∷ xs) none =
    let later = skipped u us xs (rest (λ t. not (t.id == u.number)) x xs none) in
    let other : (u.number == x.id) ≡ false = grind (arith, nat_tests, none) in
    let same : numbered x.id (u ∷ us) ≡ numbered x.id us = rw other refl in
    (λ k. record x { fast = x.fast && not (is_some (same k)) } ∷ later k)

by_number : (place : ℕ) (ps : List OfPlace) (xs : List Gained) → HaveRisingNumbers xs
    → map (slowed_as (some_of ps (is_fast_there place) xs)) xs ≡ map (slowed_there place) xs
by_number place ps [] rising = refl
by_number place ps (x ∷ xs) rising =
    let later = by_number place ps xs (later_rise x xs rising) in
    let only = alone x.id x xs rising refl in
    let us : List SessionTicket = some_of ps (is_fast_there place) xs in
    by_bool (x.fast && x.place == place)
    (λ fast.
    let one : some_of ps (is_fast_there place) (x ∷ xs) ≡ with_note ps x ∷ us = rw fast refl in
    let first : x.fast && not (is_some (numbered x.id (with_note ps x ∷ us))) ≡ x.fast && not (x.place == place) = grind (arith, nat_tests, fast) in
    ap (λ (these : List SessionTicket). map (slowed_as these) (x ∷ xs)) one ∙ (λ k. record x { fast = first k } ∷ (skipped (with_note ps x) us xs only ∙ later) k))
    (λ slow.
    let same : some_of ps (is_fast_there place) (x ∷ xs) ≡ us = rw slow refl in
    let none : numbered x.id us ≡ None = find_none x.id ps (is_fast_there place) xs only in
    let first : x.fast && not (is_some (numbered x.id us)) ≡ x.fast && not (x.place == place) = rw none (grind (arith, nat_tests, slow)) in
    ap (λ (these : List SessionTicket). map (slowed_as these) (x ∷ xs)) same ∙ (λ k. record x { fast = first k } ∷ later k))

-- those of a place are made slow by the numbers of its fast ones
pub slowed_by_place : (place : ℕ) (ps : List OfPlace) (xs : List Gained) (us : List SessionTicket) → HaveRisingNumbers xs → us ≡ own_at place (fast_of ps xs)
    → map (slowed_as us) xs ≡ map (slowed_there place) xs
slowed_by_place place ps xs us rising is =
    ap (λ (these : List SessionTicket). map (slowed_as these) xs) (is ∙ there place ps (λ t. t.fast) xs) ∙ by_number place ps xs rising

-- ---- listed by their places

-- none of those at greater places is at this one
past : (place : ℕ) (ts : List SessionTicket) → ((k : ℕ) (d : SessionTicket) → k < length ts → place < (get_or ts k d).place) → (own_at place ts ≡ []) × (but_at place ts ≡ ts)
past place [] greater = (refl, refl)
past place (t ∷ ts) greater =
    let later = past place ts (λ k d inside. greater (suc k) d (omega (arith, inside))) in
    let away : (t.place == place) ≡ false = grind (arith, nat_tests, greater 0 t (omega arith)) in
    rw away (later.0, ap (λ us. t ∷ us) later.1)

-- the first ones are at a place, and the others at greater ones
pub first_there : (place : ℕ) (ts : List SessionTicket) (count : ℕ) → ((k : ℕ) (d : SessionTicket) → k < count → k < length ts → (get_or ts k d).place ≡ place)
    → ((k : ℕ) (d : SessionTicket) → count ≤ k → k < length ts → place < (get_or ts k d).place) → (take count ts ≡ own_at place ts) × (drop count ts ≡ but_at place ts)
first_there place [] zero here later = (refl, refl)
first_there place [] (suc count) here later = (refl, refl)
first_there place (t ∷ ts) zero here later =
    let none = past place (t ∷ ts) (λ k d inside. later k d (omega arith) inside) in (sym none.0, sym none.1)
first_there place (t ∷ ts) (suc count) here later =
    let its : (t.place == place) ≡ true = grind (arith, nat_tests, here 0 t (omega arith) (omega arith)) in
    let more = first_there place ts count (λ k d before inside. here (suc k) d (omega (arith, before)) (omega (arith, inside)))
    (λ k d after inside. later (suc k) d (omega (arith, after)) (omega (arith, inside))) in
    rw its (ap (λ us. t ∷ us) more.0, more.1)

-- they are those before the first one at another place
pub first-some : (place : ℕ) (ts : List SessionTicket) (at : ℕ) → IsNonDecreasingBy (λ (t : SessionTicket). t.place) ts → ((i : ℕ) (d : SessionTicket) → i < length ts → place ≤ (get_or ts i d).place)
    → position (λ (t : SessionTicket). not (t.place == place)) ts ≡ Some at → (take at ts ≡ own_at place ts) × (drop at ts ≡ but_at place ts)
first-some place ts at rising least found = first_there place ts at
    (λ k d before inside. let fails = (position-Some (λ (t : SessionTicket). not (t.place == place)) ts at d found).2 k before in grind (arith, nat_tests, fails))
    (λ k d after inside.
    let other = (position-Some (λ (t : SessionTicket). not (t.place == place)) ts at d found).1 in
    let up = rising at k d after inside in
    let low = least at d (omega (arith, after, inside)) in
    grind (arith, nat_tests, other, up, low))

-- or all, where there is none
pub first-none : (place : ℕ) (ts : List SessionTicket) → position (λ (t : SessionTicket). not (t.place == place)) ts ≡ None → (take (length ts) ts ≡ own_at place ts) × (drop (length ts) ts ≡ but_at place ts)
first-none place ts none =
    let all : length ts ≤ position_or_len (λ (t : SessionTicket). not (t.place == place)) ts = grind (arith, nat_tests) in
    first_there place ts (length ts)
    (λ k d before inside. let fails = fails_before_first (λ (t : SessionTicket). not (t.place == place)) ts k d (omega (arith, all, inside)) in grind (arith, nat_tests, fails))
    (λ k d after inside. absurd (omega (arith, after, inside)))

-- the place of the first one has some, and no place before has any
pub place-first : (tickets listed : List SessionTicket) (place : ℕ) → AreByPlace tickets listed → (0 < length listed) × ((d : SessionTicket) → (get_or listed 0 d).place ≡ place)
    → ((i : ℕ) (d : SessionTicket) → i < length listed → place ≤ (get_or listed i d).place) × (0 < length (own_at place tickets)) × ((q : ℕ) → q < place → own_at q tickets ≡ [])
place-first tickets [] place by first = absurd (omega (arith, first.0))
place-first tickets (u ∷ us) place by first =
    let least : (i : ℕ) (d : SessionTicket) → i < length (u ∷ us) → place ≤ (get_or (u ∷ us) i d).place =
    λ i d inside. let up = by.1 0 i d (omega arith) inside in let its = first.1 d in omega (arith, up, its) in
    let here : (u.place == place) ≡ true = grind (arith, nat_tests, first.1 u) in
    let there : 0 < length (own_at place (u ∷ us)) = rw here (omega arith) in (
      least,
      subst (λ (ts : List SessionTicket). 0 < length ts) (by.0 place) there,
      λ q before. sym (by.0 q) ∙ (past q (u ∷ us) (λ k d inside. let up = least k d inside in omega (arith, before, up))).0,
    )

-- where none is listed there is none
pub none-listed : (tickets listed : List SessionTicket) → AreByPlace tickets listed → listed ≡ [] → tickets ≡ []
none-listed tickets listed by none = none-anywhere tickets (λ q. sym (by.0 q) ∙ ap (own_at q) none)

-- the others are listed by their places, too
pub others-by_place : (tickets listed : List SessionTicket) (place count : ℕ) → AreByPlace tickets listed → drop count listed ≡ but_at place listed
    → AreByPlace (but_at place tickets) (drop count listed)
others-by_place tickets listed place count by is = (
  λ q. ap (own_at q) is ∙ by_bool (q == place)
      (λ here. let its = eqb-true q place here in
      ap (λ (p : ℕ). own_at p (but_at place listed)) its ∙ gone_here place listed ∙ sym (ap (λ (p : ℕ). own_at p (but_at place tickets)) its ∙ gone_here place tickets))
      (λ there. all-left place q listed there ∙ by.0 q ∙ sym (all-left place q tickets there)),
  λ i j d before inside.
      let longer : count + j < length listed = (let short = length-drop count listed in omega (arith, inside, short)) in
      rw (get_or-drop count listed i d, get_or-drop count listed j d) (by.1 (count + i) (count + j) d (omega (arith, before)) longer),
)

-- tickets that were sorted by their places, so that those of a place kept their order
pub sorted : (tickets listed after : List SessionTicket) → listed ≡ tickets → IsSortedByKey (λ (t : SessionTicket). t.place) nat_cmp after → IsStableByKey (λ (t : SessionTicket). t.place) nat_cmp listed after
    → AreByPlace tickets after
sorted tickets listed after is rises stays = (
  λ q. let like : SessionTicket = record { number = 0; place = q; mode = IX; noted = None } in
      sym (ties-here q after) ∙ stays like ∙ ties-here q listed ∙ ap (own_at q) is,
  IsNonDecreasingBy-from_sort (λ (t : SessionTicket). t.place) after rises,
)
  where
    -- those that tie with a ticket of a place are at the place
    ties-here : (q : ℕ) (ts : List SessionTicket) → filter (ties (λ (x y : SessionTicket). is_lt (nat_cmp x.place y.place)) (record { number = 0; place = q; mode = IX; noted = None })) ts ≡ own_at q ts
    ties-here q [] = refl
    ties-here q (t ∷ ts) =
        let same : not (is_lt (nat_cmp q t.place)) && not (is_lt (nat_cmp t.place q)) ≡ (t.place == q) = rw (is_lt_index (nat_cmp q t.place), is_lt_index (nat_cmp t.place q)) (grind (arith, nat_tests)) in
        by_bool (t.place == q)
        (λ here. rw (same, here) (ap (λ us. t ∷ us) (ties-here q ts)))
        (λ away. rw (same, away) (ties-here q ts))
