-- Who waits in the lock space of one thread: the waiting tickets of a key, and the waits of their sessions.
use Rattle.std.proofs.Common.{◌≡◌, ◌≢◌, ◌⊎◌, ℕ, ◌+◌, ◌-◌, ◌&&◌, true, not, inl, inr, length, map, Option, Some, None, refl, sym, ap, subst, ◌∙◌, arith}
use Rattle.std.specs.Prelude.{Contains, MatchOption, is_some}
use Rattle.mdl_key.specs.Keys.{KeyName}
use Rattle.mdl_book.specs.declared.book_view.BookView.{BookView}
use Rattle.mdl_book.specs.declared.ticket.Ticket.{Ticket}
use Rattle.mdl_book.specs.Books.{empty_book}
use Rattle.mdl_calls.specs.declared.answers.Held.{Held}
use Rattle.mdl_calls.specs.declared.answers.Settled.{Settled}
use Rattle.mdl_calls.specs.declared.answers.Settled.TheVariants as settled_as
use Rattle.mdl_core.specs.declared.pending.Pending.{Pending}
use Rattle.mdl_core.specs.Cores.{Core, book_at, seat_at, key_at, has_key, has_session, index_of}
use Rattle.mdl_core.specs.CoreSystems.{book_found, book_of, wait_state_of, system_waiter, waiter_in, system_of}
use Rattle.mdl_core.specs.Changes.{has_unsettled_wait}
use Rattle.mdl_core.specs.Seats.{SeatView, is_unsettled_wait, ticket_of_wait}
use Rattle.mdl_system.specs.Systems.{Unsettled, Waiter, GrantedWait, HasNoWait}
use Rattle.mdl_core.specs.Ties.{Awaits, in_book_of, IsTied}
use Rattle.mdl_core.proofs.CoreReads.{within, found-at, found, ticket-key}
use Rattle.mdl_core.proofs.CoreUnended.{own-unended, granted_of}
use Rattle.mdl_system.proofs.MemberLemmas.{Contains-map_from}

-- ---- the book of a key

-- each place has a key of its own
abbrev pub IsKeyed : Core → Type 0
IsKeyed core = (one other : ℕ) → has_key one core ≡ true → has_key other core ≡ true → key_at one core ≡ key_at other core → one ≡ other

pub book-there : (core : Core) (place : ℕ) (key : KeyName) → IsKeyed core → has_key place core ≡ true → key_at place core ≡ key → book_of key core ≡ book_at place core
book-there core place key keyed has is =
    let fits = within place (length core.books) has in
    let back : place - 1 + 1 ≡ place = omega arith in
    ap (λ k. book_of k core) (sym is) ∙ ap (λ o. book_found (key_at place core) o core) (found-at core place keyed has) ∙ ap (λ n. book_at n core) back

-- a key has a place, or none
pub place_told : (core : Core) (key : KeyName) → ((place : ℕ) × (has_key place core ≡ true) × (key_at place core ≡ key)) ⊎ (index_of key core.books ≡ None)
place_told core key = go (index_of key core.books) refl
  where
    go : (o : Option ℕ) → index_of key core.books ≡ o → ((place : ℕ) × (has_key place core ≡ true) × (key_at place core ≡ key)) ⊎ (index_of key core.books ≡ None)
    go None e = inr e
    go (Some index) e = let h = found core key index e in inl (index + 1, h.0, h.1)

pub book-nowhere : (core : Core) (key : KeyName) → index_of key core.books ≡ None → book_of key core ≡ empty_book key
book-nowhere core key none = ap (λ o. book_found key o core) none

-- where a key has no place, no place has it
pub not_there : (core : Core) (key : KeyName) (place : ℕ) → IsKeyed core → index_of key core.books ≡ None → has_key place core ≡ true → key_at place core ≢ key
not_there core key place keyed none has e =
    let at : index_of key core.books ≡ Some (place - 1) = ap (λ k. index_of k core.books) (sym e) ∙ found-at core place keyed has in
    let no : None ≡ Some (place - 1) = sym none ∙ at in
    cc

-- a waiting ticket of a key stands at its place
pub ticket-there : (core : Core) (key : KeyName) (ticket : Ticket) → IsKeyed core → Contains (book_of key core).waiting ticket
    → (place : ℕ) × (has_key place core ≡ true) × (key_at place core ≡ key) × Contains (book_at place core).waiting ticket
ticket-there core key ticket keyed among = elim (place_told core key) [
  | inl at ↦ (at.0, at.1, at.2, subst (λ (b : BookView). Contains b.waiting ticket) (book-there core at.0 key keyed at.1 at.2) among)
  | inr none ↦ absurd (let lt = (subst (λ (b : BookView). Contains b.waiting ticket) (book-nowhere core key none) among).1 in omega arith)
]

-- ---- waiting tickets and waits

-- what is known of the wait of a session of which a ticket waits
pub record IsWaitAt (core : Core) (place : ℕ) (ticket : Ticket) (wait : Pending) : Type 0 where
  pub has : has_session ticket.session core ≡ true
  pub waits : (seat_at ticket.session core).wait ≡ Some wait
  pub not_granted : wait.settled ≢ Some settled_as.Granted
  pub there : wait.place ≡ place
  pub stands : record { session = ticket.session; number = wait.id; mode = wait.mode } ≡ ticket

waits_for-wait : (seat : SeatView) (o : Option Pending) (ticket : Held) → seat.wait ≡ o → Awaits seat ticket
    → (wait : Pending) × (seat.wait ≡ Some wait) × (wait.settled ≢ Some settled_as.Granted) × (ticket ≡ ticket_of_wait wait)
waits_for-wait seat None ticket e waits =
    absurd (subst (λ o. MatchOption o ⊥ (λ (wait : Pending). (wait.settled ≢ Some settled_as.Granted) × (ticket ≡ ticket_of_wait wait))) e waits)
waits_for-wait seat (Some wait) ticket e waits =
    let h = subst (λ o. MatchOption o ⊥ (λ (wait : Pending). (wait.settled ≢ Some settled_as.Granted) × (ticket ≡ ticket_of_wait wait))) e waits in
    (wait, e, h.0, h.1)

pub wait-at : (core : Core) (place : ℕ) (ticket : Ticket) → IsTied core → has_key place core ≡ true → Contains (book_at place core).waiting ticket
    → (wait : Pending) × IsWaitAt core place ticket wait
wait-at core place ticket tied has among =
    let by = (tied.waiting_by place has ticket among).0 in
    let held : Held = record { id = ticket.number; place = place; mode = ticket.mode } in
    let h = waits_for-wait (seat_at ticket.session core) (seat_at ticket.session core).wait held refl ((tied.waiting ticket.session held by has).0 among) in (
      h.0,
      record {
        has = by;
        waits = h.1;
        not_granted = h.2;
        there = sym (ap (λ (t : Held). t.place) h.3);
        stands = λ i. in_book_of ticket.session (sym h.3 i);
      },
    )

pub place_of_wait : (core : Core) (who : ℕ) (wait : Pending) → IsTied core → has_session who core ≡ true → (seat_at who core).wait ≡ Some wait
    → wait.settled ≢ Some settled_as.Granted
    → (has_key wait.place core ≡ true) × Contains (book_at wait.place core).waiting (record { session = who; number = wait.id; mode = wait.mode })
place_of_wait core who wait tied has is other =
    let waits : Awaits (seat_at who core) (ticket_of_wait wait) =
    subst (λ o. MatchOption o ⊥ (λ (w : Pending). (w.settled ≢ Some settled_as.Granted) × (ticket_of_wait wait ≡ ticket_of_wait w))) (sym is) (other, refl) in
    let key = ticket-key core who (ticket_of_wait wait) tied has (inr waits) in
    (key, (tied.waiting who (ticket_of_wait wait) has key).1 waits)

-- a session with no wait has no waiting ticket
pub none-waiting : (core : Core) (who place : ℕ) (ticket : Ticket) → IsTied core → (seat_at who core).wait ≡ None → has_key place core ≡ true
    → Contains (book_at place core).waiting ticket → ticket.session ≢ who
none-waiting core who place ticket tied none has among own =
    let h = wait-at core place ticket tied has among in
    let is : (seat_at who core).wait ≡ Some h.0 = subst (λ n. (seat_at n core).wait ≡ Some h.0) own h.1.waits in
    let no : None ≡ Some h.0 = sym none ∙ is in
    cc

-- ---- waiters

-- a waiter is that of its ticket, whatever its session's wait is
pub ticket_of-waiter : (ticket : Ticket) (wait : Option Pending) → (system_waiter ticket wait).ticket ≡ ticket
ticket_of-waiter ticket None = refl
ticket_of-waiter ticket (Some wait) = refl

pub waiter-found : (core : Core) (place : ℕ) (waiter : Waiter) → IsTied core → has_key place core ≡ true
    → Contains ((system_of core).waiting (key_at place core)) waiter → Contains (book_at place core).waiting waiter.ticket × (waiter ≡ waiter_in core waiter.ticket)
waiter-found core place waiter tied has among =
    let book = book-there core place (key_at place core) tied.keys has refl in
    let h = Contains-map_from (waiter_in core) (book_at place core).waiting waiter (subst (λ (b : BookView). Contains (map (waiter_in core) b.waiting) waiter) book among) in
    let own : waiter.ticket ≡ h.0 = ap (λ (w : Waiter). w.ticket) h.2 ∙ ticket_of-waiter h.0 (seat_at h.0.session core).wait in
    (subst (λ t. Contains (book_at place core).waiting t) (sym own) h.1, h.2 ∙ ap (waiter_in core) (sym own))

unsettled-open : (settled : Option Settled) → wait_state_of settled ≡ Unsettled → settled ≢ Some settled_as.Granted → not (is_some settled) ≡ true
unsettled-open None e other = refl
unsettled-open (Some settled_as.Granted) e other = absurd (other refl)
unsettled-open (Some settled_as.Victim) e other = cc
unsettled-open (Some settled_as.Timeout) e other = cc
unsettled-open (Some settled_as.Killed) e other = cc

pub unsettled-found : (core : Core) (place : ℕ) (waiter : Waiter) → IsTied core → has_key place core ≡ true
    → Contains ((system_of core).waiting (key_at place core)) waiter → waiter.state ≡ Unsettled → has_unsettled_wait waiter.ticket.session core ≡ true
unsettled-found core place waiter tied has among unsettled =
    let there = waiter-found core place waiter tied has among in
    let h = wait-at core place waiter.ticket tied has there.0 in
    let is : waiter ≡ system_waiter waiter.ticket (Some h.0) = there.1 ∙ ap (system_waiter waiter.ticket) h.1.waits in
    let state : wait_state_of h.0.settled ≡ Unsettled = sym (ap (λ (w : Waiter). w.state) is) ∙ unsettled in
    (λ i. h.1.has i && is_unsettled_wait (h.1.waits i)) ∙ unsettled-open h.0.settled state h.1.not_granted

pub no_wait : (core : Core) (who : ℕ) → IsTied core → has_session who core ≡ true → (seat_at who core).wait ≡ None → HasNoWait (system_of core) who
no_wait core who tied has none = (waits_nowhere, unended_none)
  where
    waits_nowhere : (key : KeyName) (waiter : Waiter) → Contains ((system_of core).waiting key) waiter → waiter.ticket.session ≢ who
    waits_nowhere key waiter among = elim (place_told core key) [
      | inl at ↦ (let there = waiter-found core at.0 waiter tied at.1 (subst (λ k. Contains ((system_of core).waiting k) waiter) (sym at.2) among) in
          none-waiting core who at.0 waiter.ticket tied none at.1 there.0)
      | inr nowhere ↦ absurd (let lt = (subst (λ (b : BookView). Contains (map (waiter_in core) b.waiting) waiter) (book-nowhere core key nowhere) among).1 in omega arith)
    ]

    unended_none : (wait : GrantedWait) → Contains (system_of core).unended wait → wait.session ≢ who
    unended_none wait among own =
        let is = (own-unended core who wait has own).0 among in
        let h = granted_of who (seat_at who core).wait wait is in
        let no : None ≡ Some h.0 = sym none ∙ h.1 in
        cc
