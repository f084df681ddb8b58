-- What a session's list of tickets is after an edit, and the places' counts.
use Rattle.std.proofs.Common.{◌≡◌, ℕ, zero, suc, ◌+◌, ◌-◌, ◌<◌, ◌≤◌, Bool, true, false, cond, List, [], ◌∷◌, ◌++◌, length, get_or, set, map, Option, Some, None, refl, sym, ap, subst, ltb, ◌∙◌, append-nil, arith, not, ◌==◌, ◌&&◌, count_by, remove, if◌then◌else◌, length-set, inl, inr}
use Rattle.std.proofs.lemmas.List.Edits.{get_or-remove_above, get_or-remove_below, length-remove}
use Rattle.std.proofs.lemmas.Option.{slice_get_cases}
use Rattle.mdl_shared.proofs.FirstLemmas.{AreKept, Gained, HaveRisingNumbers, Mode, OfPlace, SessionTicket, StandsAt, are_below_next, as_held, by_bool, counted, counted_at, each_at, fast_counted_at, fast_of, filter, filter-append, get_or_append_left, get_or_push, in_mode_at, interleaved, is_at_place, is_fast_there, is_own, later_rise, length-map, length_push, list_all, map_push, nat_tests, noted_in, noting_version, nowhere, numbered, option_map_or, parted, slow_of, slowed_there, some_of, sum_by-append, sum_by-remove, sum_by-set, with_note, without_at}

-- the first number is below one that stands later
pub lower : (id : ℕ) (x : Gained) (xs : List Gained) (at : ℕ) → HaveRisingNumbers (x ∷ xs) → StandsAt id (suc at) (x ∷ xs) → x.id < id
lower id x xs at rising stands = subst (λ n. x.id < n) (stands.1 x) (rising 0 (suc at) x (omega arith) stands.0)

pub later_stands : (id : ℕ) (x : Gained) (xs : List Gained) (at : ℕ) → StandsAt id (suc at) (x ∷ xs) → StandsAt id at xs
later_stands id x xs at stands = (omega (arith, stands.0), stands.1)

-- no later ticket has the number
apart : (id : ℕ) (x : Gained) (xs : List Gained) (d : Gained) → HaveRisingNumbers (x ∷ xs) → x.id ≡ id → (k : ℕ) → k < length xs → id < (get_or xs k d).id
apart id x xs d rising is k inside = subst (λ n. n < (get_or xs k d).id) is (rising 0 (suc k) d (omega arith) (omega (arith, inside)))

pub alone : (id : ℕ) (x : Gained) (xs : List Gained) → HaveRisingNumbers (x ∷ xs) → x.id ≡ id → list_all (λ t. not (t.id == id)) xs ≡ true
alone id x xs rising is = each_at _ x xs (λ k inside. grind (arith, nat_tests, apart id x xs x rising is k inside))

-- what holds of an index holds of each
pub rest : (p : Gained → Bool) (x : Gained) (xs : List Gained) → list_all p (x ∷ xs) ≡ true → list_all p xs ≡ true
rest p x xs all = grind (arith, nat_tests)

-- ---- a ticket is found, among those that pass a test

pub find_none : (id : ℕ) (ps : List OfPlace) (p : Gained → Bool) (xs : List Gained) → list_all (λ t. not (t.id == id)) xs ≡ true → numbered id (some_of ps p xs) ≡ None
find_none id ps p [] none = refl
find_none id ps p (x ∷ xs) none =
    let later = find_none id ps p xs (rest (λ t. not (t.id == id)) x xs none) in
    by_bool (p x)
    (λ kept. rw kept (grind (arith, nat_tests, later)))
    (λ left. rw left later)

pub find_at : (id : ℕ) (ps : List OfPlace) (p : Gained → Bool) (xs : List Gained) (at : ℕ) (d : Gained) → HaveRisingNumbers xs → StandsAt id at xs
    → numbered id (some_of ps p xs) ≡ (if p (get_or xs at d) then Some (with_note ps (get_or xs at d)) else None)
find_at id ps p [] at d rising stands = absurd (omega (arith, stands.0))
find_at id ps p (x ∷ xs) zero d rising stands = by_bool (p x)
    (λ kept. rw kept (rw (stands.1 d) (grind (arith, nat_tests))))
    (λ left. rw left (find_none id ps p xs (alone id x xs rising (stands.1 d))))
find_at id ps p (x ∷ xs) (suc at) d rising stands =
    let later = find_at id ps p xs at d (later_rise x xs rising) (later_stands id x xs at stands) in
    let before = lower id x xs at rising stands in
    by_bool (p x)
    (λ kept. rw kept (grind (arith, nat_tests, later)))
    (λ left. rw left later)

-- in the whole list
all_kept : (ps : List OfPlace) (xs : List Gained) → some_of ps (λ t. true) xs ≡ map (with_note ps) xs
all_kept ps [] = refl
all_kept ps (x ∷ xs) = ap (λ ts. with_note ps x ∷ ts) (all_kept ps xs)

whole : (ps : List OfPlace) (xs : List Gained) → HaveRisingNumbers xs → interleaved (slow_of ps xs) (fast_of ps xs) ≡ some_of ps (λ t. true) xs
whole ps xs rising = parted ps xs rising ∙ sym (all_kept ps xs)

pub find_nowhere : (id : ℕ) (ps : List OfPlace) (xs : List Gained) → HaveRisingNumbers xs → list_all (λ t. not (t.id == id)) xs ≡ true → numbered id (interleaved (slow_of ps xs) (fast_of ps xs)) ≡ None
find_nowhere id ps xs rising none = ap (numbered id) (whole ps xs rising) ∙ find_none id ps (λ t. true) xs none

pub find_there : (id : ℕ) (ps : List OfPlace) (xs : List Gained) (at : ℕ) (d : Gained) → HaveRisingNumbers xs → StandsAt id at xs
    → numbered id (interleaved (slow_of ps xs) (fast_of ps xs)) ≡ Some (with_note ps (get_or xs at d))
find_there id ps xs at d rising stands = ap (numbered id) (whole ps xs rising) ∙ find_at id ps (λ t. true) xs at d rising stands

-- ---- a ticket is struck

pub strike_none : (place id : ℕ) (ps : List OfPlace) (p : Gained → Bool) (xs : List Gained) → list_all (λ t. not (is_own place id (with_note [] t))) xs ≡ true
    → some_of ps p xs ≡ without_at place id (some_of ps p xs)
strike_none place id ps p [] none = refl
strike_none place id ps p (x ∷ xs) none =
    let later = strike_none place id ps p xs (rest (λ t. not (is_own place id (with_note [] t))) x xs none) in
    by_bool (p x)
    (λ kept. rw kept (grind (arith, nat_tests, later)))
    (λ left. rw left later)

-- then none of that number is found at the place
pub strikes_some : (place id : ℕ) (ps : List OfPlace) (p : Gained → Bool) (xs : List Gained) (u : SessionTicket)
    → list_all (λ t. not (is_own place id (with_note [] t))) xs ≡ true → numbered id (some_of ps p xs) ≡ Some u → u.place ≡ place → ⊥
strikes_some place id ps p [] u none is here = cc
strikes_some place id ps p (x ∷ xs) u none is here =
    let later = strikes_some place id ps p xs u (rest (λ t. not (is_own place id (with_note [] t))) x xs none) in
    by_bool (p x)
    (λ kept. by_bool (x.id == id)
    (λ its. let first : Some (with_note ps x) ≡ Some u = rw (kept, its) at is in
    let there : x.place ≡ place = ap (λ (o : Option SessionTicket). option_map_or (λ (t : SessionTicket). t.place) o 0) first ∙ here in
    grind (arith, nat_tests, none, its, there))
    (λ other. later (rw (kept, other) at is) here))
    (λ left. later (rw left at is) here)

pub strike_at : (place id : ℕ) (ps : List OfPlace) (p : Gained → Bool) (xs : List Gained) (at : ℕ) → HaveRisingNumbers xs → StandsAt id at xs → ((d : Gained) → (get_or xs at d).place ≡ place)
    → some_of ps p (remove xs at) ≡ without_at place id (some_of ps p xs)
strike_at place id ps p [] at rising stands there = absurd (omega (arith, stands.0))
strike_at place id ps p (x ∷ xs) zero rising stands there =
    let later = strike_none place id ps p xs (nowhere place id xs (alone id x xs rising (stands.1 x))) in
    by_bool (p x)
    (λ kept. rw kept (grind (arith, nat_tests, later, stands.1 x, there x)))
    (λ left. rw left later)
strike_at place id ps p (x ∷ xs) (suc at) rising stands there =
    let later = strike_at place id ps p xs at (later_rise x xs rising) (later_stands id x xs at stands) there in
    let before = lower id x xs at rising stands in
    by_bool (p x)
    (λ kept. rw kept (grind (arith, nat_tests, later)))
    (λ left. rw left later)

-- ---- a ticket gets another mode

pub mode_none : (place id : ℕ) (mode : Mode) (ps : List OfPlace) (p : Gained → Bool) (xs : List Gained) → list_all (λ t. not (is_own place id (with_note [] t))) xs ≡ true
    → some_of ps p xs ≡ in_mode_at place id mode (some_of ps p xs)
mode_none place id mode ps p [] none = refl
mode_none place id mode ps p (x ∷ xs) none =
    let later = mode_none place id mode ps p xs (rest (λ t. not (is_own place id (with_note [] t))) x xs none) in
    by_bool (p x)
    (λ kept. rw kept (grind (arith, nat_tests, later)))
    (λ left. rw left later)

pub mode_at : (place id : ℕ) (mode : Mode) (ps : List OfPlace) (p : Gained → Bool) (xs : List Gained) (at : ℕ) (t : Gained) → HaveRisingNumbers xs → StandsAt id at xs → t ≡ get_or xs at t → t.place ≡ place
    → p (record t { mode = mode }) ≡ p t
    → some_of ps p (set xs at (record t { mode = mode })) ≡ in_mode_at place id mode (some_of ps p xs)
mode_at place id mode ps p [] at t rising stands is there apart = absurd (omega (arith, stands.0))
mode_at place id mode ps p (x ∷ xs) zero t rising stands is there same =
    let later = mode_none place id mode ps p xs (nowhere place id xs (alone id x xs rising (stands.1 x))) in
    let first = ap p is in
    by_bool (p x)
    (λ kept. rw (same ∙ first ∙ kept, kept) (grind (arith, nat_tests, later, stands.1 x)))
    (λ left. rw (same ∙ first ∙ left, left) later)
mode_at place id mode ps p (x ∷ xs) (suc at) t rising stands is there same =
    let later = mode_at place id mode ps p xs at t (later_rise x xs rising) (later_stands id x xs at stands) is there same in
    let before = lower id x xs at rising stands in
    by_bool (p x)
    (λ kept. rw kept (grind (arith, nat_tests, later)))
    (λ left. rw left later)

-- where no ticket has the number, none gets it
pub mode_nowhere : (place id : ℕ) (mode : Mode) (ts : List SessionTicket) → numbered id ts ≡ None → in_mode_at place id mode ts ≡ ts
mode_nowhere place id mode [] none = refl
mode_nowhere place id mode (t ∷ ts) none = grind (arith, nat_tests, mode_nowhere place id mode ts)

-- ---- notes

-- the place of a ticket has one
first_counts : (p : Gained → Bool) (x : Gained) (xs : List Gained) → p x ≡ true → 0 < count_by p (x ∷ xs)
first_counts p x xs is = let more = counted p x xs in rw more (rw is (omega arith))

more_count : (p : Gained → Bool) (x : Gained) (xs : List Gained) → 0 < count_by p xs → 0 < count_by p (x ∷ xs)
more_count p x xs some = let more = counted p x xs in omega (arith, more, some)

-- the notes of tickets are changed as those of their places are
pub notes : (place version : ℕ) (ps qs : List OfPlace) (p : Gained → Bool) (xs : List Gained)
    → ((q : ℕ) → 0 < count_by (is_at_place q) xs → noted_in q qs ≡ (if q == place then Some version else noted_in q ps))
    → some_of qs p xs ≡ noting_version place version (some_of ps p xs)
notes place version ps qs p [] noted = refl
notes place version ps qs p (x ∷ xs) noted =
    let here : noted_in x.place qs ≡ (if x.place == place then Some version else noted_in x.place ps) = noted x.place (first_counts (is_at_place x.place) x xs (grind (arith, nat_tests))) in
    let later = notes place version ps qs p xs (λ q some. noted q (more_count (is_at_place q) x xs some)) in
    by_bool (p x)
    (λ kept. rw kept (grind (arith, nat_tests, here, later)))
    (λ left. rw left later)

-- they are the same where those of places with tickets are
pub same_notes : (ps qs : List OfPlace) (p : Gained → Bool) (xs : List Gained) → ((q : ℕ) → 0 < count_by (is_at_place q) xs → noted_in q qs ≡ noted_in q ps) → some_of qs p xs ≡ some_of ps p xs
same_notes ps qs p [] noted = refl
same_notes ps qs p (x ∷ xs) noted =
    let here : noted_in x.place qs ≡ noted_in x.place ps = noted x.place (first_counts (is_at_place x.place) x xs (grind (arith, nat_tests))) in
    let later = same_notes ps qs p xs (λ q some. noted q (more_count (is_at_place q) x xs some)) in
    by_bool (p x)
    (λ kept. rw kept (λ k. record { number = x.id; place = x.place; mode = x.mode; noted = here k } ∷ later k))
    (λ left. rw left later)

-- or those of all places
pub still : (ps qs : List OfPlace) (p : Gained → Bool) (xs : List Gained) → ((q : ℕ) → noted_in q qs ≡ noted_in q ps) → some_of qs p xs ≡ some_of ps p xs
still ps qs p xs noted = same_notes ps qs p xs (λ q some. noted q)

-- a ticket is struck, and the notes stay
pub struck : (place id : ℕ) (ps qs : List OfPlace) (p : Gained → Bool) (xs ys : List Gained) (at : ℕ) → HaveRisingNumbers xs → StandsAt id at xs → ((d : Gained) → (get_or xs at d).place ≡ place)
    → ys ≡ remove xs at → ((q : ℕ) → noted_in q qs ≡ noted_in q ps) → some_of qs p ys ≡ without_at place id (some_of ps p xs)
struck place id ps qs p xs ys at rising stands there is noted = still ps qs p ys noted ∙ ap (some_of ps p) is ∙ strike_at place id ps p xs at rising stands there

-- ---- a ticket is gained

-- the note of its place is forgotten where it is the first there
abbrev pub IsNotedAnew : ℕ → List OfPlace → List OfPlace → Type 0
IsNotedAnew place ps qs = (q : ℕ) → noted_in q qs ≡ (if q == place && counted_at q ps == 0 then None else noted_in q ps)

-- the other tickets keep their notes
still_noted : (place : ℕ) (ps qs : List OfPlace) (p : Gained → Bool) (xs : List Gained) (fast : ℕ) → AreKept xs ps fast → IsNotedAnew place ps qs → some_of qs p xs ≡ some_of ps p xs
still_noted place ps qs p xs fast kept noted = same_notes ps qs p xs (λ q some. noted q ∙ grind (arith, nat_tests, some, kept.counted q))

-- it isn't among those that a test leaves out
pub ungained : (t : Gained) (ps qs : List OfPlace) (p : Gained → Bool) (xs : List Gained) (fast : ℕ) → AreKept xs ps fast → IsNotedAnew t.place ps qs → p t ≡ false
    → some_of qs p (xs ++ t ∷ []) ≡ some_of ps p xs
ungained t ps qs p xs fast kept noted left =
    ap (map (with_note qs)) (filter-append p xs (t ∷ []) ∙ rw left (append-nil (filter p xs))) ∙ still_noted t.place ps qs p xs fast kept noted

-- and is the last of those that it keeps
pub gained : (t : Gained) (ps qs : List OfPlace) (p : Gained → Bool) (xs : List Gained) (fast : ℕ) (noted : Option ℕ) → AreKept xs ps fast → IsNotedAnew t.place ps qs → p t ≡ true
    → noted ≡ (if count_by (is_at_place t.place) xs == 0 then None else noted_in t.place ps)
    → some_of qs p (xs ++ t ∷ []) ≡ some_of ps p xs ++ record { number = t.id; place = t.place; mode = t.mode; noted = noted } ∷ []
gained t ps qs p xs fast note kept noted keeps is =
    let there : noted_in t.place qs ≡ note = noted t.place ∙ grind (arith, nat_tests, kept.counted t.place, is) in
    ap (map (with_note qs)) (filter-append p xs (t ∷ []) ∙ rw keeps refl) ∙ map_push (with_note qs) (filter p xs) t
    ∙ (λ k. still_noted t.place ps qs p xs fast kept noted k ++ record { number = t.id; place = t.place; mode = t.mode; noted = there k } ∷ [])

-- ---- the list and the places fit together

-- how many pass a test, with one more at the end
count_pushed : (p : Gained → Bool) (t : Gained) (xs : List Gained) → count_by p (xs ++ t ∷ []) ≡ count_by p xs + cond (p t) 1 0
count_pushed p t xs =
    let more : count_by p (xs ++ t ∷ []) ≡ count_by p xs + (0 + cond (p t) 1 0) = sum_by-append (λ (t : Gained). cond (p t) 1 0) xs (t ∷ []) in
    omega (arith, more)

pub under : (number : ℕ) (ps : List OfPlace) (xs : List Gained) (i : ℕ) (d : Gained) → are_below_next number (map (with_note ps) xs) ≡ true → i < length xs → (get_or xs i d).id < number
under number ps [] i d below inside = absurd (omega arith)
under number ps (x ∷ xs) zero d below inside = grind (arith, nat_tests)
under number ps (x ∷ xs) (suc i) d below inside = grind (arith, nat_tests, under number ps xs i d)

-- a number above those of both lists is above all
pub below_all : (number : ℕ) (ps : List OfPlace) (xs : List Gained) → HaveRisingNumbers xs → are_below_next number (interleaved (slow_of ps xs) (fast_of ps xs)) ≡ true
    → are_below_next number (map (with_note ps) xs) ≡ true
below_all number ps xs rising below = rw (parted ps xs rising) at below

rise_gained : (t : Gained) (ps : List OfPlace) (xs : List Gained) → are_below_next t.id (map (with_note ps) xs) ≡ true → HaveRisingNumbers xs → HaveRisingNumbers (xs ++ t ∷ [])
rise_gained t ps xs below rising i j d before within =
    let longer = length_push xs t in
    elim (ltb j (length xs)) as (λ b. ltb j (length xs) ≡ b → (get_or (xs ++ t ∷ []) i d).id < (get_or (xs ++ t ∷ []) j d).id) [
      | true ↦ λ e. let old : j < length xs = grind (arith, nat_tests) in
          rw (get_or_append_left xs (t ∷ []) d j old) (rw (get_or_append_left xs (t ∷ []) d i (omega (arith, before, old))) (rising i j d before old))
      | false ↦ λ e. let last : length xs ≡ j = grind (arith, nat_tests, longer) in
          rw (get_or_push xs t d j last) (rw (get_or_append_left xs (t ∷ []) d i (omega (arith, before, last))) (under t.id ps xs i d below (omega (arith, before, last))))
    ] refl

-- a slow ticket is gained
pub kept_gain : (t : Gained) (ps qs : List OfPlace) (xs : List Gained) (fast : ℕ) → are_below_next t.id (map (with_note ps) xs) ≡ true → t.fast ≡ false
    → length qs ≡ length ps → ((q : ℕ) → counted_at q qs ≡ counted_at q ps + (if q == t.place then 1 else 0)) → ((q : ℕ) → fast_counted_at q qs ≡ fast_counted_at q ps)
    → AreKept xs ps fast → AreKept (xs ++ t ∷ []) qs fast
kept_gain t ps qs xs fast below slow long counts fasts kept = record {
  rising = rise_gained t ps xs below kept.rising;
  counted = λ q. grind (arith, nat_tests, count_pushed (is_at_place q) t xs, counts q, kept.counted q);
  fast_counted = λ q. grind (arith, nat_tests, count_pushed (is_fast_there q) t xs, slow, fasts q, kept.fast_counted q);
  all_fast = grind (arith, nat_tests, count_pushed (λ u. u.fast) t xs, slow, kept.all_fast);
  narrow = rw long kept.narrow;
}

-- a fast one
pub kept_gain_fast : (t : Gained) (ps qs : List OfPlace) (xs : List Gained) (fast : ℕ) → are_below_next t.id (map (with_note ps) xs) ≡ true → t.fast ≡ true
    → length qs ≡ length ps → ((q : ℕ) → counted_at q qs ≡ counted_at q ps + (if q == t.place then 1 else 0))
    → ((q : ℕ) → fast_counted_at q qs ≡ fast_counted_at q ps + (if q == t.place then 1 else 0))
    → AreKept xs ps fast → AreKept (xs ++ t ∷ []) qs (fast + 1)
kept_gain_fast t ps qs xs fast below is long counts fasts kept = record {
  rising = rise_gained t ps xs below kept.rising;
  counted = λ q. grind (arith, nat_tests, count_pushed (is_at_place q) t xs, counts q, kept.counted q);
  fast_counted = λ q. grind (arith, nat_tests, count_pushed (is_fast_there q) t xs, is, fasts q, kept.fast_counted q);
  all_fast = grind (arith, nat_tests, count_pushed (λ u. u.fast) t xs, is, kept.all_fast);
  narrow = rw long kept.narrow;
}

same_id : (xs : List Gained) (at k : ℕ) (t d : Gained) (mode : Mode) → t ≡ get_or xs at t → (get_or (set xs at (record t { mode = mode })) k d).id ≡ (get_or xs k d).id
same_id [] at k t d mode is = refl
same_id (x ∷ xs) zero zero t d mode is = ap (λ (u : Gained). u.id) is
same_id (x ∷ xs) zero (suc k) t d mode is = refl
same_id (x ∷ xs) (suc at) zero t d mode is = refl
same_id (x ∷ xs) (suc at) (suc k) t d mode is = same_id xs at k t d mode is

-- how many pass a test that knows no mode, after a change of one
count_mode : (p : Gained → Bool) (xs : List Gained) (at : ℕ) (t : Gained) (mode : Mode) → at < length xs → t ≡ get_or xs at t → p (record t { mode = mode }) ≡ p t
    → count_by p (set xs at (record t { mode = mode })) ≡ count_by p xs
count_mode p xs at t mode inside is same =
    let more : count_by p (set xs at (record t { mode = mode })) + cond (p (get_or xs at t)) 1 0 ≡ count_by p xs + cond (p (record t { mode = mode })) 1 0 =
    sum_by-set (λ (t : Gained). cond (p t) 1 0) xs at (record t { mode = mode }) t inside in
    let equal = rw (← is, same) at more in
    omega (arith, equal)

pub kept_mode : (ps : List OfPlace) (xs : List Gained) (fast : ℕ) (at : ℕ) (t : Gained) (mode : Mode) → at < length xs → t ≡ get_or xs at t → AreKept xs ps fast
    → AreKept (set xs at (record t { mode = mode })) ps fast
kept_mode ps xs fast at t mode inside is kept = record {
  rising = λ i j d before within.
      rw (same_id xs at i t d mode is) (rw (same_id xs at j t d mode is) (kept.rising i j d before (rw (length-set xs at (record t { mode = mode })) at within)));
  counted = λ q. kept.counted q ∙ sym (count_mode (is_at_place q) xs at t mode inside is refl);
  fast_counted = λ q. kept.fast_counted q ∙ sym (count_mode (is_fast_there q) xs at t mode inside is refl);
  all_fast = kept.all_fast ∙ sym (count_mode (λ u. u.fast) xs at t mode inside is refl);
  narrow = kept.narrow;
}

-- a ticket is struck
pub count_struck : (p : Gained → Bool) (xs : List Gained) (at : ℕ) (d : Gained) → at < length xs → count_by p (remove xs at) + cond (p (get_or xs at d)) 1 0 ≡ count_by p xs
count_struck p xs at d inside = sum_by-remove (λ (t : Gained). cond (p t) 1 0) xs at d inside

-- a place where tickets are counted is one of those that are kept
counted_inside : (ps : List OfPlace) (q : ℕ) → 0 < counted_at q ps → q < length ps
counted_inside ps q some = elim (slice_get_cases ps q).1 [
  | inl within ↦ within.1
  | inr beyond ↦ absurd (let none = rw beyond.1 at some in omega (arith, none))
]

-- so is the place of a ticket of the list
pub found_inside : (ps : List OfPlace) (xs : List Gained) (at : ℕ) (t : Gained) → at < length xs → t ≡ get_or xs at t → counted_at t.place ps ≡ count_by (is_at_place t.place) xs
    → t.place < length ps
found_inside ps xs at t inside is counts =
    let there : (get_or xs at t).place ≡ t.place = ap (λ (u : Gained). u.place) (sym is) in
    counted_inside ps t.place (grind (arith, nat_tests, count_struck (is_at_place t.place) xs at t inside, there, counts))

rise_struck : (xs : List Gained) (at : ℕ) → at < length xs → HaveRisingNumbers xs → HaveRisingNumbers (remove xs at)
rise_struck xs at inside rising i j d before within =
    let shorter = length-remove xs at inside in
    elim (ltb j at) as (λ b. ltb j at ≡ b → (get_or (remove xs at) i d).id < (get_or (remove xs at) j d).id) [
      | true ↦ λ e. let below : j < at = grind (arith, nat_tests) in
          rw (get_or-remove_below xs at d j below inside) (rw (get_or-remove_below xs at d i (omega (arith, before, below)) inside) (rising i j d before (omega (arith, below, inside))))
      | false ↦ λ e. let above : at ≤ j = grind (arith, nat_tests) in
          rw (get_or-remove_above xs at d j above inside) (elim (ltb i at) as (λ b. ltb i at ≡ b → (get_or (remove xs at) i d).id < (get_or xs (j + 1) d).id) [
            | true ↦ λ e′. let first : i < at = grind (arith, nat_tests) in
                rw (get_or-remove_below xs at d i first inside) (rising i (j + 1) d (omega (arith, before)) (omega (arith, within, shorter)))
            | false ↦ λ e′. let after : at ≤ i = grind (arith, nat_tests) in
                rw (get_or-remove_above xs at d i after inside) (rising (i + 1) (j + 1) d (omega (arith, before)) (omega (arith, within, shorter)))
          ] refl)
    ] refl

pub kept_strike : (place : ℕ) (ps qs : List OfPlace) (xs : List Gained) (fast : ℕ) (at : ℕ) (d : Gained) → at < length xs → (get_or xs at d).place ≡ place → (get_or xs at d).fast ≡ false
    → length qs ≡ length ps → ((q : ℕ) → counted_at q ps ≡ counted_at q qs + (if q == place then 1 else 0)) → ((q : ℕ) → fast_counted_at q qs ≡ fast_counted_at q ps)
    → AreKept xs ps fast → AreKept (remove xs at) qs fast
kept_strike place ps qs xs fast at d inside there slow long counts fasts kept = record {
  rising = rise_struck xs at inside kept.rising;
  counted = λ q. grind (arith, nat_tests, count_struck (is_at_place q) xs at d inside, there, counts q, kept.counted q);
  fast_counted = λ q. grind (arith, nat_tests, count_struck (is_fast_there q) xs at d inside, slow, fasts q, kept.fast_counted q);
  all_fast = grind (arith, nat_tests, count_struck (λ u. u.fast) xs at d inside, slow, kept.all_fast);
  narrow = rw long kept.narrow;
}

pub kept_strike_fast : (place : ℕ) (ps qs : List OfPlace) (xs : List Gained) (fast : ℕ) (at : ℕ) (d : Gained) → at < length xs → (get_or xs at d).place ≡ place → (get_or xs at d).fast ≡ true
    → length qs ≡ length ps → ((q : ℕ) → counted_at q ps ≡ counted_at q qs + (if q == place then 1 else 0))
    → ((q : ℕ) → fast_counted_at q ps ≡ fast_counted_at q qs + (if q == place then 1 else 0))
    → AreKept xs ps fast → AreKept (remove xs at) qs (fast - 1)
kept_strike_fast place ps qs xs fast at d inside there is long counts fasts kept = record {
  rising = rise_struck xs at inside kept.rising;
  counted = λ q. grind (arith, nat_tests, count_struck (is_at_place q) xs at d inside, there, counts q, kept.counted q);
  fast_counted = λ q. grind (arith, nat_tests, count_struck (is_fast_there q) xs at d inside, there, is, fasts q, kept.fast_counted q);
  all_fast = grind (arith, nat_tests, count_struck (λ u. u.fast) xs at d inside, is, kept.all_fast);
  narrow = rw long kept.narrow;
}

-- ---- the tickets are told

pub told : (ps : List OfPlace) (xs : List Gained) → map as_held (map (with_note ps) xs) ≡ map (λ t. as_held (with_note [] t)) xs
told ps [] = refl
told ps (x ∷ xs) = ap (λ ts. as_held (with_note [] x) ∷ ts) (told ps xs)

-- ---- tickets are made slow

same_numbers : (place : ℕ) (xs : List Gained) (i : ℕ) (d : Gained) → i < length xs → (get_or (map (slowed_there place) xs) i d).id ≡ (get_or xs i d).id
same_numbers place [] i d inside = refl
same_numbers place (x ∷ xs) zero d inside = refl
same_numbers place (x ∷ xs) (suc i) d inside = same_numbers place xs i d (omega (arith, inside))

-- as many are at each place as before
count_slowed : (place q : ℕ) (xs : List Gained) → count_by (is_at_place q) (map (slowed_there place) xs) ≡ count_by (is_at_place q) xs
count_slowed place q [] = refl
count_slowed place q (x ∷ xs) = counted (is_at_place q) (slowed_there place x) (map (slowed_there place) xs) ∙ ap (λ n. cond (x.place == q) 1 0 + n) (count_slowed place q xs) ∙ sym (counted (is_at_place q) x xs)

-- no fast one at this
fast_slowed : (place q : ℕ) (xs : List Gained) → count_by (is_fast_there q) xs ≡ count_by (is_fast_there q) (map (slowed_there place) xs) + (if q == place then count_by (is_fast_there place) xs else 0)
fast_slowed place q [] = grind (arith, nat_tests)
fast_slowed place q (x ∷ xs) =
    grind (arith, nat_tests, counted (is_fast_there q) x xs, counted (is_fast_there place) x xs, counted (is_fast_there q) (slowed_there place x) (map (slowed_there place) xs), fast_slowed place q xs)

-- and so many less in all
all_slowed : (place : ℕ) (xs : List Gained) → count_by (λ t. t.fast) xs ≡ count_by (λ t. t.fast) (map (slowed_there place) xs) + count_by (is_fast_there place) xs
all_slowed place [] = refl
all_slowed place (x ∷ xs) =
    grind (arith, nat_tests, counted (λ t. t.fast) x xs, counted (is_fast_there place) x xs, counted (λ t. t.fast) (slowed_there place x) (map (slowed_there place) xs), all_slowed place xs)

-- no more are fast at a place than in all
pub fewer_there : (place : ℕ) (ps : List OfPlace) (xs : List Gained) (fast : ℕ) → AreKept xs ps fast → fast_counted_at place ps ≤ fast
fewer_there place ps xs fast kept = let all = all_slowed place xs in let in_all = kept.all_fast in let here = kept.fast_counted place in omega (arith, all, in_all, here)

pub kept_slowed : (place : ℕ) (ps qs : List OfPlace) (xs : List Gained) (fast less : ℕ) → less ≡ fast_counted_at place ps
    → length qs ≡ length ps → ((q : ℕ) → counted_at q qs ≡ counted_at q ps) → ((q : ℕ) → fast_counted_at q qs ≡ (if q == place then 0 else fast_counted_at q ps))
    → AreKept xs ps fast → AreKept (map (slowed_there place) xs) qs (fast - less)
kept_slowed place ps qs xs fast less is long counts fasts kept = record {
  rising = λ i j d before inside.
      let within : j < length xs = rw (length-map xs (slowed_there place)) at inside in
      rw (same_numbers place xs i d (omega (arith, before, within)), same_numbers place xs j d within) (kept.rising i j d before within);
  counted = λ q. counts q ∙ kept.counted q ∙ sym (count_slowed place q xs);
  fast_counted = λ q. grind (arith, nat_tests, fast_slowed place q xs, fasts q, kept.fast_counted q);
  all_fast = let all = all_slowed place xs in let kept_all = kept.all_fast in let here = kept.fast_counted place in omega (arith, all, kept_all, here, is);
  narrow = rw long kept.narrow;
}
