-- The space in which nobody has asked for anything, and the space after a key was given a place: books and sessions tell the same
-- there, and the new key changes nothing in the system of locks.
use Rattle.std.proofs.Common.{◌≡◌, ◌⊎◌, ◌↔◌, ℕ, ◌+◌, ◌-◌, true, inl, inr, List, Some, None, length, map, [], ◌∷◌, ◌++◌, refl, sym, ap, subst, ◌∙◌, arith}
use Rattle.std.specs.Prelude.{Contains, IsTrue, replicate}
use Rattle.std.specs.List.{flat_map}
use Rattle.std.proofs.lemmas.Bool.Decides.{leb_tells}
use Rattle.std.proofs.lemmas.Grind.{flat_map-append}
use Rattle.std.proofs.lemmas.List.{append-nil, get_or-replicate, get_or_append_left, get_or_push, length-replicate, length_push}
use Rattle.mdl_key.specs.Words.{KeyName, global_key, is_mode_of}
use Rattle.mdl_book.specs.declared.book_view.BookView.{BookView}
use Rattle.mdl_book.specs.declared.ticket.Ticket.{Ticket}
use Rattle.mdl_book.specs.Books.{lock_kind, empty_book}
use Rattle.mdl_book.specs.Tickets.{ticket_id}
use Rattle.mdl_defs.specs.VersionedDefinitions.{MayStand}
use Rattle.mdl_defs.proofs.VersionedDefinitionLemmas.{nothing-stands}
use Rattle.mdl_calls.specs.declared.answers.Held.{Held}
use Rattle.mdl_calls.specs.SessionLocks.{are_rising_places, is_pinned}
use Rattle.mdl_core.specs.Cores.{Core, empty_core, book_at, seat_at, key_at, index_of, has_key, has_session}
use Rattle.mdl_core.specs.CoreSystems.{granted_in, book_of, waiter_in, defined_in, system_of}
use Rattle.mdl_core.specs.Changes.{opening}
use Rattle.mdl_core.specs.Seats.{SeatView, empty_seat, locks_of_seat}
use Rattle.mdl_core.specs.Ties.{HasGrantedTicket, Awaits, in_book_of, HasRisingNumbers, IsTied, AllMayStand}
use Rattle.mdl_core.proofs.CoreReads.{within, of_within, found-at, ticket-key}
use Rattle.mdl_core.proofs.CoreWaiting.{book-there, place_told, book-nowhere, not_there}
use Rattle.mdl_core.proofs.PairLemmas.{none-in}
use Rattle.mdl_system.specs.Words.{SameSystem, Holding}
use Rattle.mdl_system.proofs.MemberLemmas.{AreApart}

-- ---- nothing

tied-nothing : (places sessions who : ℕ) → has_session who (empty_core places sessions) ≡ true → seat_at who (empty_core places sessions) ≡ empty_seat
tied-nothing places sessions who session =
    let fits = within who (length (replicate sessions empty_seat)) session in
    let long = length-replicate sessions empty_seat in
    get_or-replicate sessions (who - 1) empty_seat empty_seat (omega arith)

no_key : (places sessions place : ℕ) → has_key place (empty_core places sessions) ≡ true → ⊥
no_key places sessions place key = let fits = within place 0 key in omega arith

pub stands-empty : (places sessions : ℕ) → AllMayStand (empty_core places sessions)
stands-empty places sessions place key = absurd (no_key places sessions place key)

pub tied-empty : (places sessions : ℕ) → IsTied (empty_core places sessions)
tied-empty places sessions = record {
  keys = λ one other key. absurd (no_key places sessions one key);
  granted_by = λ place key. absurd (no_key places sessions place key);
  waiting_by = λ place key. absurd (no_key places sessions place key);
  granted = λ who ticket session key. absurd (no_key places sessions ticket.place key);
  waiting = λ who ticket session key. absurd (no_key places sessions ticket.place key);
  placed = λ who ticket session has. absurd (elim (subst (λ s. HasGrantedTicket s ticket ⊎ Awaits s ticket) (tied-nothing places sessions who session) has) [
    | inl holds ↦ elim holds [ inl held ↦ none-in ticket held | inr none ↦ none ]
    | inr none ↦ none
  ]);
  granted_once = λ place key. absurd (no_key places sessions place key);
  waiting_once = λ place key. absurd (no_key places sessions place key);
  numbered = λ who session. subst HasRisingNumbers (sym (tied-nothing places sessions who session))
      (record { rising = refl; held = λ ticket held. absurd (none-in ticket held); wait = tt });
  pinned = λ who place session pins. (let h = subst (λ s. is_pinned place (locks_of_seat s) ≡ true) (tied-nothing places sessions who session) pins in cc);
  in_order = λ who session. subst (λ s. are_rising_places s.pins ≡ true) (sym (tied-nothing places sessions who session)) refl;
}

-- ---- a new key

module _ (key : KeyName) (core : Core) (tied : IsTied core) (new : index_of key core.books ≡ None) where
  -- the places that had a key have it still, and its book
  still : (place : ℕ) → has_key place core ≡ true → has_key place (opening key core) ≡ true
  still place has =
      let long = length_push core.books (empty_book key) in
      let fits = within place (length core.books) has in
      of_within place (length (core.books ++ empty_book key ∷ [])) fits.0 (omega arith)

  book-still : (place : ℕ) → has_key place core ≡ true → book_at place (opening key core) ≡ book_at place core
  book-still place has =
      let fits = within place (length core.books) has in
      get_or_append_left core.books (empty_book key ∷ []) (empty_book global_key) (place - 1) (omega arith)

  -- each place is an old one with its book, or the new one
  by-place : (P : ℕ → BookView → Type 0) → ((place : ℕ) → has_key place core ≡ true → P place (book_at place core)) → P (length core.books + 1) (empty_book key)
      → (place : ℕ) → has_key place (opening key core) ≡ true → P place (book_at place (opening key core))
  by-place P old newest place has =
      let long = length_push core.books (empty_book key) in
      let fits = within place (length (core.books ++ empty_book key ∷ [])) has in
      elim (leb_tells place (length core.books)) [
        | inl e ↦ let there = of_within place (length core.books) fits.0 e.1 in subst (P place) (sym (book-still place there)) (old place there)
        | inr e ↦
            let lt = e.1 in
            let at : length core.books ≡ place - 1 = omega arith in
            let is : length core.books + 1 ≡ place = omega arith in
            subst (P place) (sym (get_or_push core.books (empty_book key) (empty_book global_key) (place - 1) at))
            (subst (λ p. P p (empty_book key)) is newest)
      ]

  -- no place had the key
  fresh : (place : ℕ) → has_key place core ≡ true → key_at place core ≡ key → ⊥
  fresh place has e =
      let at : index_of key core.books ≡ Some (place - 1) = subst (λ k. index_of k core.books ≡ Some (place - 1)) e (found-at core place tied.keys has) in
      cc

  -- and none had the new number
  not-last : (place : ℕ) → has_key place core ≡ true → length core.books + 1 ≡ place → ⊥
  not-last place has e = let fits = within place (length core.books) has in omega arith

  matches : (list : BookView → List Ticket) (has : SeatView → Held → Type 0) → list (empty_book key) ≡ []
      → ((who : ℕ) (ticket : Held) → has_session who core ≡ true → has_key ticket.place core ≡ true → Contains (list (book_at ticket.place core)) (in_book_of who ticket) ↔ has (seat_at who core) ticket)
      → ((who : ℕ) (ticket : Held) → has_session who core ≡ true → has (seat_at who core) ticket → has_key ticket.place core ≡ true)
      → (who : ℕ) (ticket : Held) → has_session who core ≡ true → has_key ticket.place (opening key core) ≡ true
      → Contains (list (book_at ticket.place (opening key core))) (in_book_of who ticket) ↔ has (seat_at who core) ticket
  matches list has none before placed who ticket session key_there =
      by-place (λ p b. p ≡ ticket.place → Contains (list b) (in_book_of who ticket) ↔ has (seat_at who core) ticket)
      (λ p is e. subst (λ q. Contains (list (book_at q core)) (in_book_of who ticket) ↔ has (seat_at who core) ticket) (sym e)
      (before who ticket session (subst (λ q. has_key q core ≡ true) e is)))
      (λ e. (
        (λ among. absurd (none-in (in_book_of who ticket) (subst (λ xs. Contains xs (in_book_of who ticket)) none among))),
        λ had. absurd (not-last ticket.place (placed who ticket session had) e),
      ))
      ticket.place key_there refl

  pub opened : IsTied (opening key core)
  opened = record {
    keys = λ one other has_one has_other.
        by-place (λ p b. b.key ≡ key_at other (opening key core) → p ≡ other)
        (λ p is. by-place (λ q c. key_at p core ≡ c.key → p ≡ q) (λ q is_other e. tied.keys p q is is_other e) (λ e. absurd (fresh p is e)) other has_other)
        (by-place (λ q c. key ≡ c.key → length core.books + 1 ≡ q) (λ q is_other e. absurd (fresh q is_other (sym e))) (λ e. refl) other has_other)
        one has_one;
    granted_by = by-place (λ p b. (ticket : Ticket) → Contains b.granted ticket → (has_session ticket.session core ≡ true) × IsTrue (is_mode_of (lock_kind b) ticket.mode))
        tied.granted_by (λ ticket among. absurd (none-in ticket among));
    waiting_by = by-place (λ p b. (ticket : Ticket) → Contains b.waiting ticket → (has_session ticket.session core ≡ true) × IsTrue (is_mode_of (lock_kind b) ticket.mode))
        tied.waiting_by (λ ticket among. absurd (none-in ticket among));
    granted = matches (λ b. b.granted) HasGrantedTicket refl tied.granted (λ who ticket session had. ticket-key core who ticket tied session (inl had));
    waiting = matches (λ b. b.waiting) Awaits refl tied.waiting (λ who ticket session waits. ticket-key core who ticket tied session (inr waits));
    placed = tied.placed;
    granted_once = by-place (λ p b. AreApart ticket_id b.granted) tied.granted_once (λ i j d lt short. absurd (omega arith));
    waiting_once = by-place (λ p b. AreApart (λ (t : Ticket). t.session) b.waiting) tied.waiting_once (λ i j d lt short. absurd (omega arith));
    numbered = tied.numbered;
    pinned = λ who place session pins. still place (tied.pinned who place session pins);
    in_order = tied.in_order;
  }

  -- and nothing stands under the new key
  pub stands-opened : AllMayStand core → AllMayStand (opening key core)
  stands-opened stand = by-place (λ p b. MayStand b.key.namespace b.standing) stand (nothing-stands key.namespace)

  -- the system is the same
  book-opened : IsTied (opening key core) → (k : KeyName) → book_of k (opening key core) ≡ book_of k core
  book-opened after k = elim (place_told core k) [
    | inl at ↦
        book-there (opening key core) at.0 k after.keys (still at.0 at.1) (ap (λ (b : BookView). b.key) (book-still at.0 at.1) ∙ at.2)
        ∙ book-still at.0 at.1 ∙ sym (book-there core at.0 k tied.keys at.1 at.2)
    | inr nowhere ↦ elim (place_told (opening key core) k) [
      | inl at ↦ book-there (opening key core) at.0 k after.keys at.1 at.2
          ∙ by-place (λ p b. b.key ≡ k → b ≡ empty_book k) (λ p has e. absurd (not_there core k p tied.keys nowhere has e)) (λ e. ap empty_book e) at.0 at.1 at.2
      | inr still ↦ book-nowhere (opening key core) k still
    ] ∙ sym (book-nowhere core k nowhere)
  ]

  pub system-opened : SameSystem (system_of core) (system_of (opening key core))
  system-opened = record {
    granted = λ held. let is : flat_map granted_in (core.books ++ empty_book key ∷ []) ≡ flat_map granted_in core.books =
        flat_map-append granted_in core.books (empty_book key ∷ []) ∙ append-nil (flat_map granted_in core.books) in
        (inside held _ _ is, inside held _ _ (sym is));
    waits = record { waiting = λ k. ap (λ (b : BookView). map (waiter_in core) b.waiting) (book-opened opened k); unended = λ wait. ((λ among. among), λ among. among) };
    definitions = λ k. ap defined_in (book-opened opened k);
  }
    where
      inside : (held : Holding) (xs ys : List Holding) → xs ≡ ys → Contains xs held → Contains ys held
      inside held xs ys e among = subst (λ ts. Contains ts held) e among
