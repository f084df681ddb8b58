-- Books and seats after one of them was written, the book of a key, and the key of a ticket's place.
use Rattle.std.proofs.Common.{◌≡◌, ◌≢◌, ◌⊎◌, ℕ, suc, ◌+◌, ◌-◌, ◌<◌, ◌≤◌, ◌&&◌, Bool, true, false, inl, inr, List, length, Some, refl, ap, ◌∙◌, arith}
use Rattle.std.specs.Prelude.{nat_le, position, slice_index_or}
use Rattle.std.specs.List.{position_or_len}
use Rattle.std.proofs.lemmas.Bool.Decides.{nat_tests}
use Rattle.std.proofs.lemmas.List.{length-set, get_or-set_same, get_or-set_other, set-get_or}
use Rattle.std.proofs.lemmas.List.Quantifiers.{position-Some}
use Rattle.std.proofs.lemmas.List.Sums.{position_or_len_is}
use Rattle.mdl_system.proofs.Deciding.{key_told, key-Decides}
use Rattle.mdl_key.specs.Keys.{KeyName, key_eq, global_key}
use Rattle.mdl_book.specs.declared.book_view.BookView.{BookView}
use Rattle.mdl_book.specs.Books.{empty_book}
use Rattle.mdl_calls.specs.declared.answers.Held.{Held}
use Rattle.mdl_core.specs.Cores.{Core, book_at, seat_at, key_at, has_key, has_session, index_of, booking, seating}
use Rattle.mdl_core.specs.Seats.{SeatView, empty_seat}
use Rattle.mdl_core.specs.Ties.{Awaits, HasGrantedTicket, IsTied}

-- a number from 1 up to the most
pub within : (n most : ℕ) → (nat_le 1 n && nat_le n most) ≡ true → (1 ≤ n) × (n ≤ most)
within n most h = (grind (arith, nat_tests), grind (arith, nat_tests))

pub of_within : (n most : ℕ) → 1 ≤ n → n ≤ most → (nat_le 1 n && nat_le n most) ≡ true
of_within n most least fits = grind (arith, nat_tests)

-- ---- books

pub has_key-booking : (core : Core) (place other : ℕ) (book : BookView) → has_key other (booking place book core) ≡ has_key other core
has_key-booking core place other book = ap (λ n. nat_le 1 other && nat_le other n) (length-set core.books (place - 1) book)

pub booked-same : (core : Core) (place : ℕ) (book : BookView) → has_key place core ≡ true → book_at place (booking place book core) ≡ book
booked-same core place book has =
    let fits = within place (length core.books) has in
    get_or-set_same core.books (place - 1) book (empty_book global_key) (omega arith)

pub booked-other : (core : Core) (place other : ℕ) (book : BookView) → has_key place core ≡ true → has_key other core ≡ true → other ≢ place
    → book_at other (booking place book core) ≡ book_at other core
booked-other core place other book has has_other apart =
    let here = within place (length core.books) has in
    let there = within other (length core.books) has_other in
    get_or-set_other core.books (place - 1) (other - 1) book (empty_book global_key) (λ e. apart (omega arith))

-- ---- seats

pub has_session-seating : (core : Core) (who other : ℕ) (seat : SeatView) → has_session other (seating who seat core) ≡ has_session other core
has_session-seating core who other seat = ap (λ n. nat_le 1 other && nat_le other n) (length-set core.seats (who - 1) seat)

pub seated-same : (core : Core) (who : ℕ) (seat : SeatView) → has_session who core ≡ true → seat_at who (seating who seat core) ≡ seat
seated-same core who seat has =
    let fits = within who (length core.seats) has in
    get_or-set_same core.seats (who - 1) seat empty_seat (omega arith)

pub seated-other : (core : Core) (who other : ℕ) (seat : SeatView) → has_session who core ≡ true → has_session other core ≡ true → other ≢ who
    → seat_at other (seating who seat core) ≡ seat_at other core
seated-other core who other seat has has_other apart =
    let here = within who (length core.seats) has in
    let there = within other (length core.seats) has_other in
    get_or-set_other core.seats (who - 1) (other - 1) seat empty_seat (λ e. apart (omega arith))

-- to write a session's seat as it is changes nothing
pub seat-kept : (core : Core) (who : ℕ) → seating who (seat_at who core) core ≡ core
seat-kept core who = λ i. record core { seats = set-get_or core.seats (who - 1) empty_seat i }

-- ---- the book of a key

-- where each place has a key of its own, the book of a place's key is the one at that place
pub found-at : (core : Core) (place : ℕ)
    → ((one other : ℕ) → has_key one core ≡ true → has_key other core ≡ true → key_at one core ≡ key_at other core → one ≡ other)
    → has_key place core ≡ true → index_of (key_at place core) core.books ≡ Some (place - 1)
found-at core place unique has =
    let books = core.books in
    let none = empty_book global_key in
    let test : BookView → Bool = λ book. key_eq book.key (key_at place core) in
    let fits = within place (length books) has in
    let before : (k : ℕ) → k < place - 1 → test (slice_index_or books k none) ≡ false = λ k lt. elim (key_told (slice_index_or books k none).key (key_at place core)) [
      | inl same ↦ absurd (
          let here : suc k - 1 ≡ k = omega arith in
          let key_there : key_at (suc k) core ≡ key_at place core = ap (λ n. (slice_index_or books n none).key) here ∙ same in
          let one : suc k ≡ place = unique (suc k) place (of_within (suc k) (length books) (omega arith) (omega arith)) has key_there in
          omega arith)
      | inr apart ↦ is_false (test (slice_index_or books k none)) (λ yes. apart ((key-Decides _ _).0 yes))
    ] in
    let at : position_or_len test books ≡ place - 1 =
    position_or_len_is test books (place - 1) none (omega arith) before (λ _. (key-Decides (key_at place core) (key_at place core)).1 refl) in
    position-at test books (place - 1) at (omega arith)
  where
    is_false : (b : Bool) → (b ≡ true → ⊥) → b ≡ false
    is_false true n = absurd (n refl)
    is_false false n = refl

    position-at : (p : BookView → Bool) (xs : List BookView) (i : ℕ) → position_or_len p xs ≡ i → i < length xs → position p xs ≡ Some i
    position-at p xs i e lt = grind (arith, nat_tests)

-- what is found is there
pub found : (core : Core) (key : KeyName) (index : ℕ) → index_of key core.books ≡ Some index
    → (has_key (index + 1) core ≡ true) × (key_at (index + 1) core ≡ key)
found core key index e =
    let at = position-Some (λ (book : BookView). key_eq book.key key) core.books index (empty_book global_key) e in
    let here : index + 1 - 1 ≡ index = omega arith in (
      of_within (index + 1) (length core.books) (omega arith) (omega arith),
      ap (λ n. (slice_index_or core.books n (empty_book global_key)).key) here ∙ (key-Decides _ _).0 at.1,
    )

-- ---- tickets

-- the place of a session's ticket has a key, since the session pins it
pub ticket-key : (core : Core) (who : ℕ) (ticket : Held) → IsTied core → has_session who core ≡ true
    → HasGrantedTicket (seat_at who core) ticket ⊎ Awaits (seat_at who core) ticket → has_key ticket.place core ≡ true
ticket-key core who ticket tied is has = tied.pinned who ticket.place is (tied.placed who ticket is has)
