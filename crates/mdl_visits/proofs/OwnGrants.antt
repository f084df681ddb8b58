-- Tickets of a session come to be the last that are granted in a book, and are taken out of it again.
use Rattle.std.proofs.Common.{◌≡◌, ℕ, ◌+◌, ◌^◌, ◌<◌, ◌≤◌, true, false, List, [], ◌∷◌, ◌++◌, map, take, drop, length, get_or, Some, None, Err, refl, sym, ap, ◌∙◌, subst, inl, inr, arith, append_assoc, eq-eqb, length-append, length-take-le, take-append-drop}
use Rattle.mdl_book.specs.declared.book_error.BookError.TheVariants as fault
use Rattle.mdl_visits.proofs.FirstLemmas.{AreUngranted, BookError, BookView, CanStand, Each, HasBookInHand, IX, Kind, LacksRoomIn, Refuses, SeatState, SessionTicket, Stand, Ticket, and_from, by_bool, count-append, count_by-le-length, drop_more, encode, grant_fault, granting, granting_own, is_compatible, is_of_class, is_ticket, length_mapped, list_all-append, lock_kind, map_more, may_stand, may_stand-none, most_fast, one_counted, one_in, removing, stands_beside, ticket_by, ticket_of, weight_of, with_book, without, without-hit, without-miss}
use Rattle.mdl_visits.proofs.Trying.{refusal}

-- ---- parts of a list

module _ {X : Type 0} (P : X → Type 0) where
  -- what each is, each of the first is, and each of the others
  each_front : (xs ys : List X) → Each P (xs ++ ys) → Each P xs
  each_front [] ys all = tt
  each_front (x ∷ xs) ys all = (all.0, each_front xs ys all.1)

  each_back : (xs ys : List X) → Each P (xs ++ ys) → Each P ys
  each_back [] ys all = all
  each_back (x ∷ xs) ys all = each_back xs ys all.1

  each_taken : (i : ℕ) (xs : List X) → Each P xs → Each P (take i xs)
  each_taken i xs all = each_front (take i xs) (drop i xs) (subst (Each P) (sym (take-append-drop i xs)) all)

  pub each_there : (xs : List X) (i : ℕ) (d : X) → i < length xs → Each P xs → P (get_or xs i d)
  each_there xs i d inside all =
      let parts = subst (Each P) (sym (take-append-drop i xs) ∙ ap (λ (ys : List X). take i xs ++ ys) (drop_more xs i d inside)) all in
      (each_back (take i xs) (get_or xs i d ∷ drop (i + 1) xs) parts).0

-- ---- the book with them

module _ (session : ℕ) where
  -- one more is granted
  pub granting_more : (tickets : List SessionTicket) (i : ℕ) (d : SessionTicket) (book : BookView) → i < length tickets
      → granting (ticket_by session (get_or tickets i d)) (granting_own session (take i tickets) book) ≡ granting_own session (take (i + 1) tickets) book
  granting_more tickets i d book inside = λ k. record book {
    granted = (
        append_assoc book.granted (map (ticket_by session) (take i tickets)) (ticket_by session (get_or tickets i d) ∷ [])
        ∙ ap (λ (ts : List Ticket). book.granted ++ ts) (sym (map_more (ticket_by session) tickets i d inside))
        ) k;
  }

  -- ---- the first of them is taken out

  module _ (t : SessionTicket) (more : List Ticket) where
    itself : is_ticket session t.number (ticket_by session t) ≡ true
    itself = and_from _ _ (eq-eqb session session refl) (eq-eqb t.number t.number refl)

    found_first : (granted : List Ticket) → ticket_of session t.number granted ≡ None
        → ticket_of session t.number (granted ++ ticket_by session t ∷ more) ≡ Some (ticket_by session t)
    found_first [] none = rw itself refl
    found_first (x ∷ xs) none = by_bool (is_ticket session t.number x)
        (λ hit. (let found = rw hit at none in absurd (cc)))
        (λ miss. rw miss (found_first xs (rw miss at none)))

    without_first : (granted : List Ticket) → ticket_of session t.number granted ≡ None
        → without session t.number (granted ++ ticket_by session t ∷ more) ≡ granted ++ more
    without_first [] none = without-hit session t.number (ticket_by session t) more itself
    without_first (x ∷ xs) none = by_bool (is_ticket session t.number x)
        (λ hit. (let found = rw hit at none in absurd (cc)))
        (λ miss.
        without-miss session t.number x (xs ++ ticket_by session t ∷ more) miss
        ∙ ap (λ (ys : List Ticket). x ∷ ys) (without_first xs (rw miss at none)))

  module _ (tickets : List SessionTicket) (i : ℕ) (d : SessionTicket) (book : BookView) (inside : i < length tickets) (none : AreUngranted session tickets book) where
    abbrev t : SessionTicket
    t = get_or tickets i d

    ungranted : ticket_of session t.number book.granted ≡ None
    ungranted = each_there (λ (x : SessionTicket). ticket_of session x.number book.granted ≡ None) tickets i d inside none

    next : (granting_own session (drop i tickets) book).granted ≡ book.granted ++ ticket_by session t ∷ map (ticket_by session) (drop (i + 1) tickets)
    next = ap (λ (ts : List SessionTicket). book.granted ++ map (ticket_by session) ts) (drop_more tickets i d inside)

    pub next_found : ticket_of session t.number (granting_own session (drop i tickets) book).granted ≡ Some (ticket_by session t)
    next_found = ap (ticket_of session t.number) next ∙ found_first t (map (ticket_by session) (drop (i + 1) tickets)) book.granted ungranted

    pub next_out : removing session t.number (granting_own session (drop i tickets) book) ≡ granting_own session (drop (i + 1) tickets) book
    next_out = λ k. record book {
      granted = (ap (without session t.number) next ∙ without_first t (map (ticket_by session) (drop (i + 1) tickets)) book.granted ungranted) k;
    }

-- ---- why one isn't granted

-- the session's own tickets stand in no mode's way
beside_own : (kind : Kind) (session : ℕ) (t : SessionTicket) (ts : List SessionTicket) → is_compatible kind (map (ticket_by session) ts) session t.mode ≡ true
beside_own kind session t [] = refl
beside_own kind session t (x ∷ xs) = rw (eq-eqb session session refl) (beside_own kind session t xs)

module _ (T : Type 0) (session : ℕ) (tickets : List SessionTicket) (i : ℕ) (d : SessionTicket) (book : BookView) (inside : i < length tickets)
    (beside : Each (λ (t : SessionTicket). is_compatible (lock_kind book) book.granted session t.mode ≡ true) tickets) where
  abbrev ticket : SessionTicket
  ticket = get_or tickets i d

  abbrev before : List SessionTicket
  before = take i tickets

  stands : may_stand (lock_kind book) (book.granted ++ map (ticket_by session) before) 0 session ticket.mode ≡ true
  stands =
      may_stand-none (lock_kind book) (book.granted ++ map (ticket_by session) before) session ticket.mode
      ∙ list_all-append (stands_beside (lock_kind book) session ticket.mode) book.granted (map (ticket_by session) before)
      ∙ and_from _ _ (each_there (λ (t : SessionTicket). is_compatible (lock_kind book) book.granted session t.mode ≡ true) tickets i d inside beside)
      (beside_own (lock_kind book) session ticket before)

  -- there is no room for it
  pub no_room_then : (cause : BookError)
      → Refuses {T = T} (grant_fault (ticket_by session ticket) 0 (granting_own session before book)) fault.OutOfMemory (Err cause)
      → LacksRoomIn book (length tickets) cause
  no_room_then cause refuses = elim (refusal T (ticket_by session ticket) 0 (granting_own session before book) cause stands refuses) [
    | inl memory ↦ inl memory
    | inr full ↦ inr (
      full.0,
      (
          let many = full.1 in
          let granted = length-append book.granted (map (ticket_by session) before) in
          let mapped = length_mapped (ticket_by session) before in
          let few = length-take-le i tickets (omega arith) in
          omega arith
          ),
    )
  ]

-- ---- what they add to a word

few_small : (kind : Kind) (ts : List Ticket) → length ts ≤ most_fast → weight_of kind ts < 2 ^ 62
few_small kind ts few =
    let a = count_by-le-length (is_of_class kind 0) ts in
    let b = count_by-le-length (is_of_class kind 1) ts in
    let c = count_by-le-length (is_of_class kind 2) ts in
    omega arith

weight-push : (kind : Kind) (ts : List Ticket) (t : Ticket)
    → weight_of kind (ts ++ t ∷ []) ≡ weight_of kind ts + encode (one_in 0 kind t.mode) (one_in 1 kind t.mode) (one_in 2 kind t.mode) false false
weight-push kind ts t =
    let a = count-append (is_of_class kind 0) ts (t ∷ []) in
    let b = count-append (is_of_class kind 1) ts (t ∷ []) in
    let c = count-append (is_of_class kind 2) ts (t ∷ []) in
    let x = one_counted kind 0 t in
    let y = one_counted kind 1 t in
    let z = one_counted kind 2 t in
    omega arith

module _ (kind : Kind) (session : ℕ) (tickets : List SessionTicket) (i : ℕ) (d : SessionTicket) (inside : i < length tickets) where
  abbrev so_far : ℕ → List Ticket
  so_far n = map (ticket_by session) (take n tickets)

  abbrev mode_weight : SessionTicket → ℕ
  mode_weight t = encode (one_in 0 kind t.mode) (one_in 1 kind t.mode) (one_in 2 kind t.mode) false false

  pub weight-more : weight_of kind (map (ticket_by session) (take (i + 1) tickets))
      ≡ weight_of kind (map (ticket_by session) (take i tickets)) + mode_weight (get_or tickets i d)
  weight-more = ap (weight_of kind) (map_more (ticket_by session) tickets i d inside) ∙ weight-push kind (so_far i) (ticket_by session (get_or tickets i d))

  -- there is room for it in a word
  pub weight-small : length tickets ≤ most_fast → weight_of kind (map (ticket_by session) (take i tickets)) + mode_weight (get_or tickets i d) < 2 ^ 62
  weight-small few =
      let mapped = length_mapped (ticket_by session) (take (i + 1) tickets) in
      let taken = length-take-le (i + 1) tickets (omega arith) in
      let small = few_small kind (so_far (i + 1)) (omega arith) in
      let more = weight-more in
      omega arith

-- ---- in hand

-- the first so many stand there once they were written
pub first_stand : (place : ℕ) (tickets : List SessionTicket) (i : ℕ) (book : BookView) (s w : SeatState) → CanStand place tickets book s
    → w ≡ with_book place (granting_own s.me.0.number (take i tickets) book) s → Stand place (take i tickets) book w
first_stand place tickets i book s w can is =
    subst (Stand place (take i tickets) book) (sym is)
    (record { in_hand = refl; ungranted = each_taken (λ (t : SessionTicket). ticket_of s.me.0.number t.number book.granted ≡ None) i tickets can.ungranted })

-- the book that was in hand was written
pub none_written : (place : ℕ) (book : BookView) (s : SeatState) → HasBookInHand place book s → with_book place book s ≡ s
none_written place book s in_hand = λ i. record s { me = (s.me.0, sym in_hand i) }

-- what stands where no ticket does
abbrev pub no_own : SessionTicket
no_own = record { number = 0; place = 0; mode = IX; noted = None }
