-- The slow tickets and the fast ones of a session's own list. Both together are the list, since its numbers rise.
use Rattle.std.proofs.Common.{◌≡◌, ℕ, suc, ◌+◌, ◌<◌, Bool, false, cond, List, [], ◌∷◌, ◌++◌, length, get_or, map, Some, None, refl, sym, ap, ◌∙◌, arith, not, ◌==◌, ◌&&◌, count_by, Option, if◌then◌else◌, eqb-true, nat_lt, length-append}
use Rattle.mdl_shared.proofs.Common.{Each, Gained, HaveRisingNumbers, OfPlace, SessionTicket, but_at, by_bool, fast_of, filter, first_note, inserted-first, interleaved, interleaved-cons, is_at_place, is_fast_there, length-filter, length-map, nat_tests, note_at, noted_in, other, own_at, slow_of, sum_by-append, with_note}
use Rattle.mdl_shared.proofs.TicketSearch.{no_ticket}
use Rattle.mdl_shared.specs.OwnLists.{has_ticket_at}

abbrev pub no_place : OfPlace
no_place = record { tickets = 0; version = 0; guess = record { 0 = 0 }; fast = 0; is_noted = false; owes = false }

-- those of the tickets that pass a test, with their notes
abbrev pub some_of : List OfPlace → (Gained → Bool) → List Gained → List SessionTicket
some_of ps p xs = map (with_note ps) (filter p xs)

pub later_rise : (x : Gained) (xs : List Gained) → HaveRisingNumbers (x ∷ xs) → HaveRisingNumbers xs
later_rise x xs rising i j d before inside = rising (suc i) (suc j) d (omega (arith, before)) (omega (arith, inside))

-- what each number is above is below the numbers of those that a test keeps
above_number : (ps : List OfPlace) (p : Gained → Bool) (n : ℕ) (xs : List Gained) → ((k : ℕ) → k < length xs → n < (get_or xs k no_ticket).id) → Each (λ (u : SessionTicket). n < u.number) (some_of ps p xs)
above_number ps p n [] each = tt
above_number ps p n (x ∷ xs) each =
    let later = above_number ps p n xs (λ k inside. each (suc k) (omega (arith, inside))) in
    by_bool (p x)
    (λ kept. rw kept (each 0 (omega arith), later))
    (λ left. rw left later)

-- the later ones have greater numbers than the first
above : (ps : List OfPlace) (p : Gained → Bool) (x : Gained) (xs : List Gained) → HaveRisingNumbers (x ∷ xs) → Each (λ (u : SessionTicket). x.id < u.number) (some_of ps p xs)
above ps p x xs rising = above_number ps p x.id xs (λ k inside. rising 0 (suc k) no_ticket (omega arith) (omega (arith, inside)))

-- a ticket comes before later ones of both lists, whichever it is in
before_slow : (ps : List OfPlace) (p q : Gained → Bool) (x : Gained) (xs : List Gained) → HaveRisingNumbers (x ∷ xs)
    → interleaved (with_note ps x ∷ some_of ps p xs) (some_of ps q xs) ≡ with_note ps x ∷ interleaved (some_of ps p xs) (some_of ps q xs)
before_slow ps p q x xs rising = interleaved-cons (with_note ps x) (some_of ps p xs) (some_of ps q xs) (above ps q x xs rising)

before_fast : (ps : List OfPlace) (p q : Gained → Bool) (x : Gained) (xs : List Gained) → HaveRisingNumbers (x ∷ xs)
    → interleaved (some_of ps p xs) (with_note ps x ∷ some_of ps q xs) ≡ with_note ps x ∷ interleaved (some_of ps p xs) (some_of ps q xs)
before_fast ps p q x xs rising =
    ap (λ us. interleaved us (some_of ps q xs)) (inserted-first (with_note ps x) (some_of ps p xs) (above ps p x xs rising)) ∙ before_slow ps p q x xs rising

-- both together are the list
pub parted : (ps : List OfPlace) (xs : List Gained) → HaveRisingNumbers xs → interleaved (slow_of ps xs) (fast_of ps xs) ≡ map (with_note ps) xs
parted ps [] rising = refl
parted ps (x ∷ xs) rising =
    let later = ap (λ us. with_note ps x ∷ us) (parted ps xs (later_rise x xs rising)) in
    by_bool x.fast
    (λ fast. rw fast (before_fast ps (λ t. not t.fast) (λ t. t.fast) x xs rising ∙ later))
    (λ slow. rw slow (before_slow ps (λ t. not t.fast) (λ t. t.fast) x xs rising ∙ later))

-- ---- at a place

-- how many pass a test, with one more
pub counted : (p : Gained → Bool) (x : Gained) (xs : List Gained) → count_by p (x ∷ xs) ≡ cond (p x) 1 0 + count_by p xs
counted p x xs =
    let both : count_by p (x ∷ xs) ≡ (0 + cond (p x) 1 0) + count_by p xs = sum_by-append (λ (t : Gained). cond (p t) 1 0) (x ∷ []) xs in
    omega (arith, both)

-- those at a place are picked by a further test
pub there : (place : ℕ) (ps : List OfPlace) (p : Gained → Bool) (xs : List Gained) → own_at place (some_of ps p xs) ≡ some_of ps (λ t. p t && is_at_place place t) xs
there place ps p [] = refl
there place ps p (x ∷ xs) = by_bool (p x)
    (λ kept. by_bool (x.place == place)
    (λ here. rw (kept, here) (ap (λ us. with_note ps x ∷ us) (there place ps p xs)))
    (λ away. rw (kept, away) (there place ps p xs)))
    (λ left. rw left (there place ps p xs))

count_there : (place : ℕ) (ps : List OfPlace) (p : Gained → Bool) (xs : List Gained) → length (own_at place (some_of ps p xs)) ≡ count_by (λ t. p t && is_at_place place t) xs
count_there place ps p xs =
    ap length (there place ps p xs) ∙ length-map (filter (λ t. p t && is_at_place place t) xs) (with_note ps) ∙ length-filter (λ t. p t && is_at_place place t) xs

-- how many fast tickets there are
pub fast_there : (place : ℕ) (ps : List OfPlace) (xs : List Gained) → length (own_at place (fast_of ps xs)) ≡ count_by (is_fast_there place) xs
fast_there place ps xs = count_there place ps (λ t. t.fast) xs

-- with the slow ones they are all
both_there : (place : ℕ) (xs : List Gained) → count_by (is_fast_there place) xs + count_by (λ t. not t.fast && is_at_place place t) xs ≡ count_by (is_at_place place) xs
both_there place [] = refl
both_there place (x ∷ xs) =
    let more = counted (is_at_place place) x xs in
    let fast = counted (is_fast_there place) x xs in
    let slow = counted (λ t. not t.fast && is_at_place place t) x xs in
    grind (arith, nat_tests, more, fast, slow, both_there place xs)

-- whether there is one
pub any_there : (place : ℕ) (ps : List OfPlace) (xs : List Gained) → HaveRisingNumbers xs
    → nat_lt 0 (count_by (is_at_place place) xs) ≡ has_ticket_at place (interleaved (slow_of ps xs) (fast_of ps xs))
any_there place ps xs rising = any xs ∙ sym (ap (has_ticket_at place) (parted ps xs rising))
  where
    any : (ts : List Gained) → nat_lt 0 (count_by (is_at_place place) ts) ≡ has_ticket_at place (map (with_note ps) ts)
    any [] = refl
    any (t ∷ ts) = let more = counted (is_at_place place) t ts in grind (arith, nat_tests, more, any ts)

-- ---- notes

-- the tickets at a place have its note
noted_there : (place : ℕ) (ps : List OfPlace) (p : Gained → Bool) (xs : List Gained) → Each (λ (t : SessionTicket). t.noted ≡ noted_in place ps) (own_at place (some_of ps p xs))
noted_there place ps p [] = tt
noted_there place ps p (x ∷ xs) = by_bool (p x)
    (λ kept. by_bool (x.place == place)
    (λ here. rw (kept, here) (ap (λ q. noted_in q ps) (eqb-true x.place place here), noted_there place ps p xs))
    (λ away. rw (kept, away) (noted_there place ps p xs)))
    (λ left. rw left (noted_there place ps p xs))

each_joined : (P : SessionTicket → Type 0) (ts us : List SessionTicket) → Each P ts → Each P us → Each P (ts ++ us)
each_joined P [] us first second = second
each_joined P (t ∷ ts) us first second = (first.0, each_joined P ts us first.1 second)

not_none : (n : ℕ) → (suc n == 0) ≡ false
not_none n = other (suc n) 0 (λ e. omega arith)

-- the first note of tickets that have the same one
first_alike : (version : Option ℕ) (ts : List SessionTicket) → Each (λ (t : SessionTicket). t.noted ≡ version) ts → first_note ts ≡ (if length ts == 0 then None else version)
first_alike _ [] alike = refl
first_alike None (t ∷ ts) alike = rw (alike.0, not_none (length ts)) (none ts alike.1)
  where
    none : (us : List SessionTicket) → Each (λ (u : SessionTicket). u.noted ≡ None) us → first_note us ≡ None
    none [] alike = refl
    none (u ∷ us) alike = rw alike.0 (none us alike.1)
first_alike (Some version) (t ∷ ts) alike = rw (alike.0, not_none (length ts)) refl

-- the note of a place, where tickets are
pub first_there : (place : ℕ) (ps : List OfPlace) (xs : List Gained)
    → first_note (own_at place (fast_of ps xs) ++ own_at place (slow_of ps xs)) ≡ (if count_by (is_at_place place) xs == 0 then None else noted_in place ps)
first_there place ps xs =
    let fast : List SessionTicket = own_at place (fast_of ps xs) in
    let slow : List SessionTicket = own_at place (slow_of ps xs) in
    let alike = each_joined (λ (t : SessionTicket). t.noted ≡ noted_in place ps) fast slow (noted_there place ps (λ t. t.fast) xs) (noted_there place ps (λ t. not t.fast) xs) in
    let fasts = fast_there place ps xs in
    let slows = count_there place ps (λ t. not t.fast) xs in
    let all = both_there place xs in
    let long = length-append fast slow in
    let same : length (fast ++ slow) ≡ count_by (is_at_place place) xs = omega (arith, long, fasts, slows, all) in
    first_alike (noted_in place ps) (fast ++ slow) alike ∙ ap (λ n. if n == 0 then None else noted_in place ps) same

-- the note of the first ticket at a place, where all there have the same one
note_alike : (place : ℕ) (version : Option ℕ) (ts : List SessionTicket) → Each (λ (t : SessionTicket). t.noted ≡ version) (own_at place ts)
    → note_at place ts ≡ (if length (own_at place ts) == 0 then None else version)
note_alike place version [] alike = refl
note_alike place version (t ∷ ts) alike = by_bool (t.place == place)
    (λ here. let first = rw here at alike in rw (here, not_none (length (own_at place ts))) first.0)
    (λ away. rw away (note_alike place version ts (rw away at alike)))

-- where no fast ticket is at a place, it is the note under the slow ones
pub note_slow : (place : ℕ) (ps : List OfPlace) (xs : List Gained) → own_at place (fast_of ps xs) ≡ []
    → note_at place (slow_of ps xs) ≡ (if count_by (is_at_place place) xs == 0 then None else noted_in place ps)
note_slow place ps xs none =
    let slow : List SessionTicket = own_at place (slow_of ps xs) in
    let fasts = sym (fast_there place ps xs) ∙ ap length none in
    let slows = count_there place ps (λ t. not t.fast) xs in
    let all = both_there place xs in
    let same : length slow ≡ count_by (is_at_place place) xs = omega (arith, fasts, slows, all) in
    note_alike place (noted_in place ps) (slow_of ps xs) (noted_there place ps (λ t. not t.fast) xs) ∙ ap (λ n. if n == 0 then None else noted_in place ps) same

-- ---- made slow

-- a ticket, made slow if it is at a place
abbrev pub slowed_there : ℕ → Gained → Gained
slowed_there place t = record t { fast = t.fast && not (t.place == place) }

-- the fast tickets at a place are put among the slow ones
pub made_slow : (place : ℕ) (ps : List OfPlace) (xs : List Gained) → HaveRisingNumbers xs
    → slow_of ps (map (slowed_there place) xs) ≡ interleaved (slow_of ps xs) (own_at place (fast_of ps xs))
made_slow place ps xs rising = slow xs rising ∙ ap (interleaved (slow_of ps xs)) (sym (there place ps (λ t. t.fast) xs))
  where
    slow : (ts : List Gained) → HaveRisingNumbers ts → slow_of ps (map (slowed_there place) ts) ≡ interleaved (slow_of ps ts) (some_of ps (is_fast_there place) ts)
    slow [] rising = refl
    slow (t ∷ ts) rising =
        let later = ap (λ us. with_note ps t ∷ us) (slow ts (later_rise t ts rising)) in
        by_bool (t.place == place)
        (λ here. by_bool t.fast
        (λ fast. rw (fast, here) (later ∙ sym (before_fast ps (λ u. not u.fast) (is_fast_there place) t ts rising)))
        (λ slows. rw (slows) (later ∙ sym (before_slow ps (λ u. not u.fast) (is_fast_there place) t ts rising))))
        (λ away. by_bool t.fast
        (λ fast. rw (fast, away) (slow ts (later_rise t ts rising)))
        (λ slows. rw (slows) (later ∙ sym (before_slow ps (λ u. not u.fast) (is_fast_there place) t ts rising))))

-- and the others stay fast
pub stay_fast : (place : ℕ) (ps : List OfPlace) (xs : List Gained) → fast_of ps (map (slowed_there place) xs) ≡ but_at place (fast_of ps xs)
stay_fast place ps [] = refl
stay_fast place ps (x ∷ xs) =
    let later = stay_fast place ps xs in
    by_bool x.fast
    (λ fast. by_bool (x.place == place)
    (λ here. rw (fast, here) later)
    (λ away. rw (fast, away) (ap (λ us. with_note ps x ∷ us) later)))
    (λ slow. rw slow later)
