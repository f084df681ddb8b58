-- The space after a place that isn't in use was given to another key: books and sessions tell the same there, and neither the old key's end nor the new
-- key changes anything in the system of locks.
use Rattle.std.proofs.Common.{◌≡◌, ◌≢◌, ◌⊎◌, ◌↔◌, ℕ, zero, suc, ◌-◌, true, false, inl, inr, List, None, map, [], ◌∷◌, ◌++◌, refl, sym, ap, subst, ◌∙◌, arith}
use Rattle.std.specs.Prelude.{Contains, IsTrue, flat_map, slice_set, slice_index_or}
use Rattle.mdl_key.specs.Words.{KeyName, global_key, is_mode_of}
use Rattle.mdl_book.specs.declared.book_view.BookView.{BookView}
use Rattle.mdl_book.specs.declared.ticket.Ticket.{Ticket}
use Rattle.mdl_book.specs.Books.{lock_kind, empty_book}
use Rattle.mdl_book.specs.Tickets.{ticket_id}
use Rattle.mdl_defs.specs.VersionedDefinitions.{MayStand}
use Rattle.mdl_defs.proofs.VersionedDefinitionLemmas.{nothing-stands}
use Rattle.mdl_calls.specs.declared.answers.Held.{Held}
use Rattle.mdl_core.specs.Cores.{Core, book_at, seat_at, key_at, standing_at, index_of, has_key, has_pin, has_session, is_in_use, placing_at}
use Rattle.mdl_core.specs.CoreSystems.{granted_in, book_of, waiter_in, defined_in, system_of, unended_from}
use Rattle.mdl_core.specs.Seats.{SeatView}
use Rattle.mdl_core.specs.Ties.{HasGrantedTicket, Awaits, in_book_of, IsTied, AllMayStand}
use Rattle.mdl_core.proofs.CoreReads.{has_key-booking, booked-same, booked-other}
use Rattle.mdl_core.proofs.CoreWaiting.{book-there, place_told, book-nowhere, not_there}
use Rattle.mdl_core.proofs.PairLemmas.{none-in}
use Rattle.mdl_core.proofs.UnusedPlaces.{unpinned, unversioned}
use Rattle.mdl_system.specs.Words.{of_lock}
use Rattle.mdl_system.proofs.Deciding.{nat_told}
use Rattle.mdl_system.proofs.MemberLemmas.{AreApart}
use Rattle.mdl_system.proofs.OrderLemmas.{Contains-here}

-- a list without members
no_members : {T : Type 0} (xs : List T) → ((x : T) → Contains xs x → ⊥) → xs ≡ []
no_members [] none = refl
no_members (x ∷ xs) none = absurd (none x (Contains-here x xs))

-- what the members of a list make is the same if one of them is replaced that makes as little as the new one
flat_map-set : {A B : Type 0} (f : A → List B) (xs : List A) (index : ℕ) (x d : A) → f x ≡ f (slice_index_or xs index d)
    → flat_map f (slice_set xs index x) ≡ flat_map f xs
flat_map-set f [] index x d same = refl
flat_map-set f (y ∷ ys) zero x d same = ap (λ made. made ++ flat_map f ys) same
flat_map-set f (y ∷ ys) (suc index) x d same = ap (λ made. f y ++ made) (flat_map-set f ys index x d same)

module _ (core : Core) (place : ℕ) (key : KeyName) (tied : IsTied core) (has : has_key place core ≡ true) (unused : is_in_use place core ≡ false)
    (new : index_of key core.books ≡ None) where
  abbrev now : Core
  now = placing_at place key core

  -- the same places have keys
  had : (other : ℕ) → has_key other now ≡ true → has_key other core ≡ true
  had other there = sym (has_key-booking core place other (empty_book key)) ∙ there

  still : (other : ℕ) → has_key other core ≡ true → has_key other now ≡ true
  still other there = has_key-booking core place other (empty_book key) ∙ there

  book-now : book_at place now ≡ empty_book key
  book-now = booked-same core place (empty_book key) has

  book-still : (other : ℕ) → has_key other core ≡ true → other ≢ place → book_at other now ≡ book_at other core
  book-still other there apart = booked-other core place other (empty_book key) has there apart

  -- each place is another one with its book, or this one
  by-place : (P : ℕ → BookView → Type 0) → ((other : ℕ) → has_key other core ≡ true → other ≢ place → P other (book_at other core)) → P place (empty_book key)
      → (other : ℕ) → has_key other now ≡ true → P other (book_at other now)
  by-place P old newest other there = elim (nat_told other place) [
    | inl here ↦ subst (λ p. P p (book_at p now)) (sym here) (subst (P place) (sym book-now) newest)
    | inr apart ↦ subst (P other) (sym (book-still other (had other there) apart)) (old other (had other there) apart)
  ]

  -- no place had the key
  fresh : (other : ℕ) → has_key other core ≡ true → key_at other core ≢ key
  fresh other there = not_there core key other tied.keys new there

  -- and no session has anything at this place
  nobody : (who : ℕ) (ticket : Held) → has_session who core ≡ true → HasGrantedTicket (seat_at who core) ticket ⊎ Awaits (seat_at who core) ticket
      → ticket.place ≢ place
  nobody who ticket session anything here =
      unpinned core place unused who (subst (λ p. has_pin who p core ≡ true) here (tied.placed who ticket session anything))

  matches : (list : BookView → List Ticket) (owns : SeatView → Held → Type 0) → list (empty_book key) ≡ []
      → ((who : ℕ) (ticket : Held) → has_session who core ≡ true → has_key ticket.place core ≡ true
      → Contains (list (book_at ticket.place core)) (in_book_of who ticket) ↔ owns (seat_at who core) ticket)
      → ((who : ℕ) (ticket : Held) → has_session who core ≡ true → owns (seat_at who core) ticket → ticket.place ≢ place)
      → (who : ℕ) (ticket : Held) → has_session who core ≡ true → has_key ticket.place now ≡ true
      → Contains (list (book_at ticket.place now)) (in_book_of who ticket) ↔ owns (seat_at who core) ticket
  matches list owns none before away who ticket session there =
      by-place (λ p b. p ≡ ticket.place → Contains (list b) (in_book_of who ticket) ↔ owns (seat_at who core) ticket)
      (λ p is apart e. subst (λ q. Contains (list (book_at q core)) (in_book_of who ticket) ↔ owns (seat_at who core) ticket) (sym e)
      (before who ticket session (subst (λ q. has_key q core ≡ true) e is)))
      (λ e. (
        (λ among. absurd (none-in (in_book_of who ticket) (subst (λ xs. Contains xs (in_book_of who ticket)) none among))),
        λ owned. absurd (away who ticket session owned (sym e)),
      ))
      ticket.place there refl

  pub placed : IsTied now
  placed = record {
    keys = λ one other has_one has_other.
        by-place (λ p b. b.key ≡ key_at other now → p ≡ other)
        (λ p is apart. by-place (λ q c. key_at p core ≡ c.key → p ≡ q) (λ q is_other _ e. tied.keys p q is is_other e) (λ e. absurd (fresh p is e))
        other has_other)
        (by-place (λ q c. key ≡ c.key → place ≡ q) (λ q is_other _ e. absurd (fresh q is_other (sym e))) (λ e. refl) other has_other)
        one has_one;
    granted_by = by-place
        (λ p b. (ticket : Ticket) → Contains b.granted ticket → (has_session ticket.session core ≡ true) × IsTrue (is_mode_of (lock_kind b) ticket.mode))
        (λ p is _. tied.granted_by p is) (λ ticket among. absurd (none-in ticket among));
    waiting_by = by-place
        (λ p b. (ticket : Ticket) → Contains b.waiting ticket → (has_session ticket.session core ≡ true) × IsTrue (is_mode_of (lock_kind b) ticket.mode))
        (λ p is _. tied.waiting_by p is) (λ ticket among. absurd (none-in ticket among));
    granted = matches (λ b. b.granted) HasGrantedTicket refl tied.granted (λ who ticket session owned. nobody who ticket session (inl owned));
    waiting = matches (λ b. b.waiting) Awaits refl tied.waiting (λ who ticket session waits. nobody who ticket session (inr waits));
    placed = tied.placed;
    granted_once = by-place (λ p b. AreApart ticket_id b.granted) (λ p is _. tied.granted_once p is) (λ i j d lt short. absurd (omega arith));
    waiting_once = by-place (λ p b. AreApart (λ (t : Ticket). t.session) b.waiting) (λ p is _. tied.waiting_once p is) (λ i j d lt short. absurd (omega arith));
    numbered = tied.numbered;
    pinned = λ who other session pins. still other (tied.pinned who other session pins);
    in_order = tied.in_order;
  }

  -- nothing stands under the new key
  pub stands-placed : AllMayStand core → AllMayStand now
  stands-placed stand = by-place (λ p b. MayStand b.key.namespace b.standing) (λ p is _. stand p is) (nothing-stands key.namespace)

  -- ---- the system

  -- nor did anything stand under the old one
  granted-none : (book_at place core).granted ≡ []
  granted-none = no_members (book_at place core).granted (λ ticket among. (
      let session = (tied.granted_by place has ticket among).0 in
      let held : Held = record { id = ticket.number; place = place; mode = ticket.mode } in
      nobody ticket.session held session (inl ((tied.granted ticket.session held session has).0 among)) refl))

  waiting-none : (book_at place core).waiting ≡ []
  waiting-none = no_members (book_at place core).waiting (λ ticket among. (
      let session = (tied.waiting_by place has ticket among).0 in
      let held : Held = record { id = ticket.number; place = place; mode = ticket.mode } in
      nobody ticket.session held session (inr ((tied.waiting ticket.session held session has).0 among)) refl))

  pub standing-none : AllMayStand core → standing_at place core ≡ (empty_book key).standing
  standing-none stand =
      let none = unversioned core place unused in
      λ i. record { version = none i; definition = (stand place has).unchanged none i }

  -- two books tell the system the same, but for granted tickets
  abbrev Tells : BookView → BookView → Type 0
  Tells one other = (one.waiting ≡ other.waiting) × (defined_in one ≡ defined_in other)

  told-empty : AllMayStand core → (k : KeyName) → Tells (book_at place core) (empty_book k)
  told-empty stand k = (waiting-none, λ i. record { version = (standing-none stand i).version; definition = (standing-none stand i).definition })

  -- the books of each key do
  told-same : AllMayStand core → (k : KeyName) → Tells (book_of k core) (book_of k now)
  told-same stand k = elim (place_told now k) [
    | inl at ↦ elim (nat_told at.0 place) [
      | inl here ↦ (
          let is : key ≡ k = sym (ap (λ (b : BookView). b.key) book-now) ∙ ap (λ p. key_at p now) (sym here) ∙ at.2 in
          let before : book_of k core ≡ empty_book k = book-nowhere core k (subst (λ j. index_of j core.books ≡ None) is new) in
          let after : book_of k now ≡ empty_book key =
          book-there now at.0 k placed.keys at.1 at.2 ∙ ap (λ p. book_at p now) here ∙ book-now in
          subst (λ b. Tells b (book_of k now)) (sym before) (subst (Tells (empty_book k)) (sym after) (refl, refl)))
      | inr apart ↦ (
          let there = had at.0 at.1 in
          let same = book-still at.0 there apart in
          let before : book_of k core ≡ book_at at.0 core =
          book-there core at.0 k tied.keys there (ap (λ (b : BookView). b.key) (sym same) ∙ at.2) in
          alike (before ∙ sym same ∙ sym (book-there now at.0 k placed.keys at.1 at.2)))
    ]
    | inr nowhere ↦ subst (Tells (book_of k core)) (sym (book-nowhere now k nowhere)) (elim (place_told core k) [
      | inl at ↦ elim (nat_told at.0 place) [
        | inl here ↦ subst (λ b. Tells b (empty_book k)) (sym (book-there core at.0 k tied.keys at.1 at.2 ∙ ap (λ p. book_at p core) here)) (told-empty stand k)
        | inr apart ↦ absurd (not_there now k at.0 placed.keys nowhere (still at.0 at.1)
            (ap (λ (b : BookView). b.key) (book-still at.0 at.1 apart) ∙ at.2))
      ]
      | inr none ↦ alike (book-nowhere core k none)
    ])
  ]
    where
      alike : {one other : BookView} → one ≡ other → Tells one other
      alike same = (ap (λ (b : BookView). b.waiting) same, ap defined_in same)

  pub system-placed : AllMayStand core → system_of core ≡ system_of now
  system-placed stand = λ i. record {
    granted = sym (flat_map-set granted_in core.books (place - 1) (empty_book key) (empty_book global_key) no_more) i;
    waiting = λ k. map (waiter_in core) ((told-same stand k).0 i);
    unended = unended_from 1 core.seats;
    definitions = λ k. (told-same stand k).1 i;
  }
    where
      no_more : granted_in (empty_book key) ≡ granted_in (book_at place core)
      no_more = ap (map (of_lock (book_at place core).key)) (sym granted-none)
