-- The last ticket of a session's own list, where it is a fast one.
use Rattle.std.proofs.Common.{◌≡◌, ℕ, suc, ◌+◌, ◌-◌, ◌<◌, true, List, [], ◌∷◌, length, get_or, map, Option, Some, None, refl, sym, ap, ◌∙◌, arith, ◌==◌, if◌then◌else◌, nat_lt, eqb-true}
use Rattle.mdl_shared.proofs.FirstLemmas.{Gained, HaveRisingNumbers, IsLastGained, OfPlace, SessionTicket, are_below_next, by_bool, fast_of, interleaved, nat_tests, no_ticket, numbered, option_map_or, parted, slow_of, some_of, with_note}
use Rattle.mdl_shared.proofs.TicketEdits.{find_at, under}

-- all numbers are below one, where each is
all-below : (ps : List OfPlace) (xs : List Gained) (number : ℕ) → ((i : ℕ) (d : Gained) → i < length xs → (get_or xs i d).id < number) → are_below_next number (map (with_note ps) xs) ≡ true
all-below ps [] number each = refl
all-below ps (x ∷ xs) number each =
    let later = all-below ps xs number (λ i d inside. each (suc i) d (omega (arith, inside))) in
    let first = each 0 x (omega arith) in
    grind (arith, nat_tests, later, first)

-- the last one has the greatest number
pub none-above : (ps : List OfPlace) (xs : List Gained) (id : ℕ) → HaveRisingNumbers xs → ((d : Gained) → (get_or xs (length xs - 1) d).id ≡ id)
    → are_below_next (id + 1) (interleaved (slow_of ps xs) (fast_of ps xs)) ≡ true
none-above ps xs id rising last = rw (parted ps xs rising) (all-below ps xs (id + 1) (λ i d inside. by_bool (nat_lt i (length xs - 1))
    (λ before. let up = rising i (length xs - 1) d (grind (arith, nat_tests, before)) (omega (arith, inside)) in let its = last d in omega (arith, up, its))
    (λ after. let same : i ≡ length xs - 1 = grind (arith, nat_tests, after, inside) in let its : (get_or xs i d).id ≡ id = ap (λ j. (get_or xs j d).id) same ∙ last d in omega (arith, its))))

-- where a fast ticket of a number is found
record IsFoundAt (ps : List OfPlace) (held : SessionTicket) (at : ℕ) (xs : List Gained) : Type 0 where
  pub inside : at < length xs
  pub number : (d : Gained) → (get_or xs at d).id ≡ held.number
  pub place : (d : Gained) → (get_or xs at d).place ≡ held.place
  pub fast : (d : Gained) → (get_or xs at d).fast ≡ true

found-at : (ps : List OfPlace) (id : ℕ) (held : SessionTicket) (xs : List Gained) → held.number ≡ id → numbered id (some_of ps (λ t. t.fast) xs) ≡ Some held → (at : ℕ) × IsFoundAt ps held at xs
found-at ps id held [] its found = cc
found-at ps id held (x ∷ xs) its found = by_bool x.fast
    (λ fast. by_bool (x.id == id)
    (λ here.
    let one : Some (with_note ps x) ≡ Some held = rw (fast, here) at found in (
      0,
      record {
        inside = omega arith;
        number = λ d. eqb-true x.id id here ∙ sym its;
        place = λ d. ap (λ (o : Option SessionTicket). option_map_or (λ (t : SessionTicket). t.place) o 0) one;
        fast = λ d. fast;
      },
    ))
    (λ other. next (found-at ps id held xs its (rw (fast, other) at found))))
    (λ slow. next (found-at ps id held xs its (rw slow at found)))
  where
    next : (at : ℕ) × IsFoundAt ps held at xs → (at : ℕ) × IsFoundAt ps held at (x ∷ xs)
    next (at, is) = (suc at, record { inside = (let within = is.inside in omega (arith, within)); number = is.number; place = is.place; fast = is.fast })

-- it is the last one, where none has a greater number
pub last-fast : (ps : List OfPlace) (xs : List Gained) (held : SessionTicket) → HaveRisingNumbers xs → numbered held.number (fast_of ps xs) ≡ Some held
    → are_below_next (held.number + 1) (interleaved (slow_of ps xs) (fast_of ps xs)) ≡ true → IsLastGained held.place held.number true xs
last-fast ps xs held rising found below =
    let there = found-at ps held.number held xs refl found in
    let is = there.1 in
    let inside = is.inside in
    let all = rw (parted ps xs rising) at below in
    let last : there.0 ≡ length xs - 1 = by_bool (nat_lt there.0 (length xs - 1))
    (λ before. absurd (
    let up = rising there.0 (length xs - 1) no_ticket (grind (arith, nat_tests, before)) (omega (arith, inside)) in
    let least = under (held.number + 1) ps xs (length xs - 1) no_ticket all (omega (arith, inside)) in
    let its = is.number no_ticket in
    omega (arith, up, least, its)))
    (λ after. grind (arith, nat_tests, after, inside))
    in (
      omega (arith, inside),
      λ d. ap (λ at. (get_or xs at d).id) (sym last) ∙ is.number d,
      λ d. ap (λ at. (get_or xs at d).place) (sym last) ∙ is.place d,
      λ d. ap (λ at. (get_or xs at d).fast) (sym last) ∙ is.fast d,
    )

-- and the last one is such a one
pub ends-fast : (ps : List OfPlace) (xs : List Gained) (id : ℕ) (t : Gained) (held : SessionTicket) → HaveRisingNumbers xs → IsLastGained t.place id true xs
    → t ≡ get_or xs (length xs - 1) t → held ≡ with_note ps t
    → (held.number ≡ id) × ((numbered held.number (fast_of ps xs) ≡ Some held) × (are_below_next (held.number + 1) (interleaved (slow_of ps xs) (fast_of ps xs)) ≡ true))
ends-fast ps xs id t held rising last is own =
    let its : held.number ≡ id = ap (λ (u : SessionTicket). u.number) own ∙ ap (λ (u : Gained). u.id) is ∙ last.1 t in
    let found : numbered id (fast_of ps xs) ≡ Some held =
    find_at id ps (λ u. u.fast) xs (length xs - 1) t rising ((let some = last.0 in omega (arith, some)), last.1)
    ∙ ap (λ b. if b then Some (with_note ps (get_or xs (length xs - 1) t)) else None) (last.3 t) ∙ ap (λ u. Some (with_note ps u)) (sym is) ∙ ap Some (sym own) in
    let below : are_below_next (id + 1) (interleaved (slow_of ps xs) (fast_of ps xs)) ≡ true = none-above ps xs id rising last.1 in
    (its, (ap (λ n. numbered n (fast_of ps xs)) its ∙ found, ap (λ n. are_below_next (n + 1) (interleaved (slow_of ps xs) (fast_of ps xs))) its ∙ below))
