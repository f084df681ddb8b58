-- The granted tickets of the lock space of one thread, by the books of its keys.
use Rattle.std.proofs.Common.{◌≡◌, ◌↔◌, ℕ, suc, ◌+◌, ◌-◌, ◌<◌, ◌≤◌, true, inl, inr, List, [], ◌∷◌, length, map, Option, Some, None, refl, sym, ap, subst, ◌∙◌, arith}
use Rattle.std.specs.Prelude.{Contains, MatchOption, slice_index_or}
use Rattle.mdl_key.specs.Keys.{global_key}
use Rattle.mdl_key.specs.declared.mode.Mode.{Mode}
use Rattle.mdl_book.specs.declared.book_view.BookView.{BookView}
use Rattle.mdl_book.specs.declared.ticket.Ticket.{Ticket}
use Rattle.mdl_book.specs.Books.{empty_book}
use Rattle.mdl_book.specs.Granting as book
use Rattle.mdl_calls.specs.declared.answers.Held.{Held}
use Rattle.mdl_calls.specs.declared.answers.Settled.TheVariants as settled_as
use Rattle.mdl_core.specs.declared.pending.Pending.{Pending}
use Rattle.mdl_system.specs.Words.{in_book, of_lock, IsGrantedByLists, IsNewNumber, Holding, Waiter, Held as Holds, lock_kind, IsGrantable}
use Rattle.mdl_core.specs.Cores.{Core, book_at, seat_at, key_at, has_key, has_session, index_of, is_free_for}
use Rattle.mdl_core.specs.ChangeEvents.{holding_of}
use Rattle.mdl_core.specs.CoreSystems.{granted_in, book_found, book_of, waiter_in, system_of}
use Rattle.mdl_core.specs.Seats.{SeatView, ticket_of_wait}
use Rattle.mdl_core.specs.Ties.{IsTied, HasRisingNumbers, HasGrantedTicket, in_book_of}
use Rattle.mdl_system.proofs.BookLemmas.{grantable-by_lists}
use Rattle.mdl_core.proofs.CoreReads.{within, of_within, found, ticket-key}
use Rattle.mdl_core.proofs.CoreUnended.{not_unended}
use Rattle.mdl_core.proofs.CoreWaiting.{book-there, ticket_of-waiter}
use Rattle.mdl_system.proofs.MemberLemmas.{Contains-none, Contains-map, Contains-map_from, Contains-flat_map, Contains-flat_map_from}

-- ---- the book of a key

pub book_of-at : (core : Core) (place : ℕ) → IsTied core → has_key place core ≡ true → book_of (key_at place core) core ≡ book_at place core
book_of-at core place tied has = book-there core place (key_at place core) tied.keys has refl

-- ---- by places

-- a granted ticket stands in the book of a place with its key
pub granted-place : (core : Core) (held : Holding) → Contains (system_of core).granted held
    → (place : ℕ) × (has_key place core ≡ true) × (key_at place core ≡ held.key) × Contains (book_at place core).granted (in_book held)
granted-place core held among =
    let in_list = Contains-flat_map_from granted_in core.books (empty_book global_key) held among in
    let k : ℕ = in_list.0 in
    let lt : k < length core.books = in_list.1 in
    let here : suc k - 1 ≡ k = omega arith in
    let at : BookView = slice_index_or core.books k (empty_book global_key) in
    let there : at ≡ book_at (suc k) core = ap (λ n. slice_index_or core.books n (empty_book global_key)) (sym here) in
    let from = Contains-map_from (of_lock at.key) at.granted held in_list.2 in (
      suc k,
      of_within (suc k) (length core.books) (omega arith) (omega arith),
      sym (ap (λ (h : Holding). h.key) from.2 ∙ ap (λ (b : BookView). b.key) there),
      subst (λ (b : BookView). Contains b.granted (in_book held)) there (subst (Contains at.granted) (sym (ap in_book from.2)) from.1),
    )

-- and what stands there is granted
pub granted-from_place : (core : Core) (place : ℕ) (held : Holding) → has_key place core ≡ true → key_at place core ≡ held.key
    → Contains (book_at place core).granted (in_book held) → Contains (system_of core).granted held
granted-from_place core place held has key among =
    let fits = within place (length core.books) has in
    let mapped : Contains (granted_in (book_at place core)) (of_lock (key_at place core) (in_book held)) = Contains-map (of_lock (key_at place core)) (book_at place core).granted (in_book held) among in
    let same : of_lock (key_at place core) (in_book held) ≡ held = ap (λ k. of_lock k (in_book held)) key in
    Contains-flat_map granted_in core.books (place - 1) (empty_book global_key) held (omega arith) (subst (Contains (granted_in (book_at place core))) same mapped)

-- ---- by the lists of keys

pub by_lists : (core : Core) → IsTied core → IsGrantedByLists (system_of core) (λ key. (book_of key core).granted)
by_lists core tied held = (
  (λ among.
      let at = granted-place core held among in
      let same : book_of held.key core ≡ book_at at.0 core = book-there core at.0 held.key tied.keys at.1 at.2 in
      subst (λ (b : BookView). Contains b.granted (in_book held)) (sym same) at.3),
  λ among. from (index_of held.key core.books) refl among,
)
  where
    from : (o : Option ℕ) → index_of held.key core.books ≡ o → Contains (book_found held.key o core).granted (in_book held) → Contains (system_of core).granted held
    from None e among = absurd (Contains-none (in_book held) among)
    from (Some index) e among = let at = found core held.key index e in granted-from_place core (index + 1) held at.0 at.1 among

-- ---- what can be granted

-- the waiting tickets of a lock
pub waiting-tickets : (core : Core) (tickets : List Ticket) → map (λ (waiter : Waiter). waiter.ticket) (map (waiter_in core) tickets) ≡ tickets
waiting-tickets core [] = refl
waiting-tickets core (ticket ∷ tickets) = λ i. ticket_of-waiter ticket (seat_at ticket.session core).wait i ∷ waiting-tickets core tickets i

pub free-grantable : (core : Core) (who place : ℕ) (mode : Mode) → IsTied core → has_key place core ≡ true
    → (is_free_for who place mode core ≡ true) ↔ IsGrantable (system_of core) who (key_at place core) mode
free-grantable core who place mode tied has =
    let by = grantable-by_lists (system_of core) (λ key. (book_of key core).granted) (by_lists core tied) who (key_at place core) mode in
    let here = book_of-at core place tied has in
    let same : book.is_grantable (lock_kind (key_at place core)) (book_of (key_at place core) core).granted
    (map (λ (waiter : Waiter). waiter.ticket) (map (waiter_in core) (book_of (key_at place core) core).waiting)) who mode
    ≡ is_free_for who place mode core =
    ap (λ ts. book.is_grantable (lock_kind (key_at place core)) (book_of (key_at place core) core).granted ts who mode) (waiting-tickets core (book_of (key_at place core) core).waiting)
    ∙ ap (λ (b : BookView). book.is_grantable (lock_kind (key_at place core)) b.granted b.waiting who mode) here in
    ((λ free. by.1 (same ∙ free)), λ grantable. sym same ∙ by.0 grantable)

-- ---- what a session has

pub granted-of_held : (core : Core) (who : ℕ) (ticket : Held) → IsTied core → has_session who core ≡ true → Contains (seat_at who core).held ticket
    → Contains (system_of core).granted (holding_of who ticket core)
granted-of_held core who ticket tied has held =
    let there = ticket-key core who ticket tied has (inl (inl held)) in
    granted-from_place core ticket.place (holding_of who ticket core) there refl ((tied.granted who ticket has there).1 (inl held))

-- what a session has in hand it holds in the system
pub held-in : (core : Core) (who : ℕ) (ticket : Held) → IsTied core → has_session who core ≡ true → Contains (seat_at who core).held ticket
    → Holds (system_of core) who (holding_of who ticket core)
held-in core who ticket tied has among =
    (granted-of_held core who ticket tied has among, refl, λ wait stands same. not_unended core who ticket tied has among wait stands same)

-- what a session has is numbered up to its last ticket
has-numbered : (seat : SeatView) (ticket : Held) → HasRisingNumbers seat → HasGrantedTicket seat ticket → ticket.id ≤ seat.last_ticket
has-numbered seat ticket numbered (inl held) = numbered.held ticket held
has-numbered seat ticket numbered (inr wait) = waited seat.wait numbered.wait wait
  where
    waited : (o : Option Pending) → MatchOption o (Unit {0}) (λ (w : Pending).
        (w.id ≡ seat.last_ticket) × (w.number ≤ seat.last_wait) × ((t : Held) → Contains seat.held t → t.id < w.id))
        → MatchOption o ⊥ (λ (w : Pending). (w.settled ≡ Some settled_as.Granted) × (ticket ≡ ticket_of_wait w)) → ticket.id ≤ seat.last_ticket
    waited None below won = absurd won
    waited (Some w) below won =
        let same : ticket.id ≡ w.id = ap (λ (t : Held). t.id) won.1 in
        let most : w.id ≡ seat.last_ticket = below.0 in
        omega arith

pub new_number : (core : Core) (who : ℕ) → IsTied core → has_session who core ≡ true → IsNewNumber (system_of core) who ((seat_at who core).last_ticket + 1)
new_number core who tied has held among own =
    let at = granted-place core held among in
    let ticket : Held = record { id = held.number; place = at.0; mode = held.mode } in
    let in_list : Contains (book_at at.0 core).granted (in_book_of who ticket) =
    subst (λ n. Contains (book_at at.0 core).granted (record { session = n; number = held.number; mode = held.mode })) own at.3 in
    let below : held.number ≤ (seat_at who core).last_ticket = has-numbered (seat_at who core) ticket (tied.numbered who has) ((tied.granted who ticket has at.1).0 in_list) in
    λ same. omega arith
