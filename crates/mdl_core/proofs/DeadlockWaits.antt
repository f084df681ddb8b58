-- Who waits for whom in the lock space of one thread: its books tell what the system of locks that they are does.
use Rattle.std.proofs.Common.{◌≡◌, ◌≢◌, ◌⊎◌, ℕ, suc, ◌-◌, ◌<◌, Bool, true, false, not, ◌&&◌, ◌||◌, ◌==◌, cond, inl, inr, List, [], ◌∷◌, length, map, Option, Some, None, refl, sym, ap, subst, ◌∙◌, arith}
use Rattle.std.specs.Prelude.{Contains, slice_index_or, is_some}
use Rattle.std.specs.List.{list_any}
use Rattle.std.proofs.lemmas.Bool.{and_parts, and_from, or_cases, eqb-true, eq-eqb, false≢true}
use Rattle.std.proofs.lemmas.Bool.Decides.{eqb_tells}
use Rattle.std.proofs.lemmas.List.Folds.{list_any_at}
use Rattle.mdl_key.specs.Words.{KeyName, global_key, clashes, Clashes, waits_behind}
use Rattle.mdl_book.specs.declared.book_view.BookView.{BookView}
use Rattle.mdl_book.specs.declared.ticket.Ticket.{Ticket}
use Rattle.mdl_book.specs.Books.{empty_book}
use Rattle.mdl_graph.specs.WaitsFor.{waits_for, waits_at, is_tied, holds_against, waits_ahead}
use Rattle.mdl_calls.specs.declared.answers.Settled.{Settled}
use Rattle.mdl_core.specs.declared.pending.Pending.{Pending}
use Rattle.mdl_system.specs.Words.{in_book, of_lock, Wishes, HoldsAgainst, WaitsAhead, WaitsFor, Unsettled, Waiter, lock_kind}
use Rattle.mdl_core.specs.CoreCalls.{has_settled}
use Rattle.mdl_core.specs.Cores.{Core, book_at, seat_at, key_at, has_key, has_session}
use Rattle.mdl_core.specs.CoreSystems.{wait_state_of, system_waiter, waiter_in, system_of}
use Rattle.mdl_core.specs.Seats.{is_unsettled_wait, is_settled_wait}
use Rattle.mdl_core.specs.Ties.{IsTied}
use Rattle.mdl_core.proofs.CoreGranted.{granted-place, granted-from_place}
use Rattle.mdl_core.proofs.CoreReads.{within, of_within}
use Rattle.mdl_core.proofs.CoreWaiting.{book-there, book-nowhere, place_told, IsWaitAt, wait-at, waiter-found, unsettled-found}
use Rattle.mdl_system.proofs.MemberLemmas.{any-found, any-from, Contains-map}

-- ---- places

any-at : {T : Type 0} (test : T → Bool) (xs : List T) (d : T) → list_any test xs ≡ true → (k : ℕ) × (k < length xs) × (test (slice_index_or xs k d) ≡ true)
any-at test [] d found = absurd (false≢true found)
any-at test (x ∷ xs) d found = elim (or_cases (test x) (list_any test xs) found) [
  | inl here ↦ (0, omega arith, here)
  | inr later ↦ let h = any-at test xs d later in let lt = h.1 in (suc h.0, omega arith, h.2)
]

-- the book of some place
pub any-place : (core : Core) (test : BookView → Bool) → list_any test core.books ≡ true
    → (place : ℕ) × (has_key place core ≡ true) × (test (book_at place core) ≡ true)
any-place core test found =
    let h = any-at test core.books (empty_book global_key) found in
    let k : ℕ = h.0 in
    let lt : k < length core.books = h.1 in
    let here : k ≡ suc k - 1 = omega arith in (
      suc k,
      of_within (suc k) (length core.books) (omega arith) (omega arith),
      subst (λ n. test (slice_index_or core.books n (empty_book global_key)) ≡ true) here h.2,
    )

pub any-from_place : (core : Core) (test : BookView → Bool) (place : ℕ) → has_key place core ≡ true → test (book_at place core) ≡ true
    → list_any test core.books ≡ true
any-from_place core test place has passes =
    let fits = within place (length core.books) has in
    list_any_at test core.books (place - 1) (empty_book global_key) (omega arith) passes

-- ---- settled waits

-- of a session with a waiting ticket
pub settled-of : (core : Core) (place : ℕ) (ticket : Ticket) (wait : Pending) → IsWaitAt core place ticket wait
    → has_settled core ticket.session ≡ is_some wait.settled
settled-of core place ticket wait at = λ i. is_settled_wait (cond (at.has i) (at.waits i) None)

state-unsettled : (settled : Option Settled) → is_some settled ≡ false → wait_state_of settled ≡ Unsettled
state-unsettled None e = refl
state-unsettled (Some how) e = absurd (false≢true (sym e))

open-unsettled : (has : Bool) (wait : Option Pending) → (has && is_unsettled_wait wait) ≡ true → is_settled_wait (cond has wait None) ≡ false
open-unsettled false wait e = refl
open-unsettled true None e = refl
open-unsettled true (Some wait) e = opposite (is_some wait.settled) e
  where
    opposite : (b : Bool) → not b ≡ true → b ≡ false
    opposite true e = sym e
    opposite false e = refl

pub waiter-ticket : (core : Core) (ticket : Ticket) → (waiter_in core ticket).ticket ≡ ticket
waiter-ticket core ticket = go (seat_at ticket.session core).wait
  where
    go : (o : Option Pending) → (system_waiter ticket o).ticket ≡ ticket
    go None = refl
    go (Some wait) = refl

-- ---- wishes

module _ (core : Core) (tied : IsTied core) where
  -- the wish of a waiting ticket
  pub wishes-from : (place : ℕ) (ticket : Ticket) (session : ℕ) → has_key place core ≡ true → Contains (book_at place core).waiting ticket
      → ticket.session ≡ session → has_settled core session ≡ false → Wishes (system_of core) session (key_at place core) (waiter_in core ticket)
  wishes-from place ticket session has among own unsettled =
      let h = wait-at core place ticket tied has among in
      let still : is_some h.0.settled ≡ false = sym (settled-of core place ticket h.0 h.1) ∙ ap (has_settled core) own ∙ unsettled in (
        subst (λ (b : BookView). Contains (map (waiter_in core) b.waiting) (waiter_in core ticket)) (sym (book-there core place (key_at place core) tied.keys has refl))
            (Contains-map (waiter_in core) (book_at place core).waiting ticket among),
        ap (λ (t : Ticket). t.session) (waiter-ticket core ticket) ∙ own,
        ap (λ o. (system_waiter ticket o).state) h.1.waits ∙ state-unsettled h.0.settled still,
      )

  -- and the waiting ticket of a wish
  pub wishes-there : (place session : ℕ) (wish : Waiter) → has_key place core ≡ true → Wishes (system_of core) session (key_at place core) wish
      → Contains (book_at place core).waiting wish.ticket × (wish.ticket.session ≡ session) × (has_settled core session ≡ false)
  wishes-there place session wish has (among, own, unsettled) = (
    (waiter-found core place wish tied has among).0,
    own,
    ap (has_settled core) (sym own)
        ∙ open-unsettled (has_session wish.ticket.session core) (seat_at wish.ticket.session core).wait (unsettled-found core place wish tied has among unsettled),
  )

  -- which stands at a place
  pub wishes-place : (session : ℕ) (key : KeyName) (wish : Waiter) → Wishes (system_of core) session key wish
      → (place : ℕ) × (has_key place core ≡ true) × (key_at place core ≡ key)
  wishes-place session key wish (among, own, unsettled) = elim (place_told core key) [
    | inl at ↦ at
    | inr none ↦ absurd (let lt = (subst (λ (b : BookView). Contains (map (waiter_in core) b.waiting) wish) (book-nowhere core key none) among).1 in omega arith)
  ]

  -- ---- from the books to the system

  holds-found : (place : ℕ) (ticket : Ticket) (other : ℕ) → has_key place core ≡ true → holds_against (book_at place core) ticket.mode other ≡ true
      → HoldsAgainst (system_of core) (key_at place core) (waiter_in core ticket) other
  holds-found place ticket other has found =
      let h = any-found (λ (held : Ticket). held.session == other && clashes (lock_kind (key_at place core)) ticket.mode held.mode) (book_at place core).granted found in
      let both = and_parts (h.0.session == other) (clashes (lock_kind (key_at place core)) ticket.mode h.0.mode) h.2 in (
        of_lock (key_at place core) h.0,
        granted-from_place core place (of_lock (key_at place core) h.0) has refl h.1,
        refl,
        eqb-true h.0.session other both.0,
        subst (λ (t : Ticket). Clashes (lock_kind (key_at place core)) t.mode h.0.mode) (sym (waiter-ticket core ticket)) both.1,
      )

  not_settled : (settled : Bool) → not settled ≡ true → settled ≡ false
  not_settled true e = sym e
  not_settled false e = refl

  ahead-found : (place : ℕ) (ticket : Ticket) (other : ℕ) → has_key place core ≡ true → waits_ahead (has_settled core) (book_at place core) ticket.mode other ≡ true
      → WaitsAhead (system_of core) (key_at place core) (waiter_in core ticket) other
  ahead-found place ticket other has found =
      let test : Ticket → Bool = λ (pending : Ticket). pending.session == other && waits_behind (lock_kind (key_at place core)) ticket.mode pending.mode in
      let parts = and_parts (not (has_settled core other)) (list_any test (book_at place core).waiting) found in
      let h = any-found test (book_at place core).waiting parts.1 in
      let both = and_parts (h.0.session == other) (waits_behind (lock_kind (key_at place core)) ticket.mode h.0.mode) h.2 in (
        waiter_in core h.0,
        wishes-from place h.0 other has h.1 (eqb-true h.0.session other both.0) (not_settled (has_settled core other) parts.0),
        (λ i. waits_behind (lock_kind (key_at place core)) (waiter-ticket core ticket i).mode (waiter-ticket core h.0 i).mode) ∙ both.1,
      )

  differs : (m n : ℕ) → not (m == n) ≡ true → m ≢ n
  differs m n apart = elim (eqb_tells m n) [
    | inl e ↦ absurd (false≢true (sym (ap not e.0) ∙ apart))
    | inr e ↦ e.1
  ]

  pub waits-found : (waiter other : ℕ) → waits_for (has_settled core) core.books waiter other ≡ true → WaitsFor (system_of core) waiter other
  waits-found waiter other found =
      let at = any-place core (λ book. waits_at (has_settled core) book waiter other) found in
      let book : BookView = book_at at.0 core in
      let test : Ticket → Bool = λ wish. wish.session == waiter && is_tied (has_settled core) book other wish in
      let parts = and_parts (not (has_settled core waiter)) (list_any test book.waiting) at.2 in
      let h = any-found test book.waiting parts.1 in
      let both = and_parts (h.0.session == waiter) (is_tied (has_settled core) book other h.0) h.2 in
      let own = eqb-true h.0.session waiter both.0 in
      let holds = holds_against book h.0.mode other in
      let ahead = waits_ahead (has_settled core) book h.0.mode other in
      let ties = and_parts (not (h.0.session == other)) (holds || ahead) both.1 in (
        (λ same. differs h.0.session other ties.0 (own ∙ same)),
        (
          key_at at.0 core,
          waiter_in core h.0,
          wishes-from at.0 h.0 waiter at.1 h.1 own (not_settled (has_settled core waiter) parts.0),
          elim (or_cases holds ahead ties.1) [
            | inl held ↦ inl (holds-found at.0 h.0 other at.1 held)
            | inr pending ↦ inr (ahead-found at.0 h.0 other at.1 pending)
          ],
        ),
      )

  -- ---- from the system to the books

  holds-from : (place : ℕ) (wish : Waiter) (other : ℕ) → has_key place core ≡ true → HoldsAgainst (system_of core) (key_at place core) wish other
      → holds_against (book_at place core) wish.ticket.mode other ≡ true
  holds-from place wish other has (held, among, same, own, clash) =
      let at = granted-place core held among in
      let here : at.0 ≡ place = tied.keys at.0 place at.1 has (at.2 ∙ same) in
      let test : Ticket → Bool = λ (t : Ticket). t.session == other && clashes (lock_kind (key_at place core)) wish.ticket.mode t.mode in
      any-from test (book_at place core).granted (in_book held) (subst (λ n. Contains (book_at n core).granted (in_book held)) here at.3)
      (and_from (held.session == other) (clashes (lock_kind (key_at place core)) wish.ticket.mode held.mode) (eq-eqb held.session other own) clash)

  ahead-from : (place : ℕ) (wish : Waiter) (other : ℕ) → has_key place core ≡ true → WaitsAhead (system_of core) (key_at place core) wish other
      → waits_ahead (has_settled core) (book_at place core) wish.ticket.mode other ≡ true
  ahead-from place wish other has (pending, wishes, behind) =
      let h = wishes-there place other pending has wishes in
      let test : Ticket → Bool = λ (t : Ticket). t.session == other && waits_behind (lock_kind (key_at place core)) wish.ticket.mode t.mode in
      and_from (not (has_settled core other)) (list_any test (book_at place core).waiting) (ap not h.2)
      (any-from test (book_at place core).waiting pending.ticket h.0
      (and_from (pending.ticket.session == other) (waits_behind (lock_kind (key_at place core)) wish.ticket.mode pending.ticket.mode) (eq-eqb pending.ticket.session other h.1) behind))

  apart-from : (m n : ℕ) → m ≢ n → not (m == n) ≡ true
  apart-from m n apart = elim (eqb_tells m n) [ inl e ↦ absurd (apart e.1) | inr e ↦ ap not e.0 ]

  waits-there : (place : ℕ) (wish : Waiter) (waiter other : ℕ) → has_key place core ≡ true → waiter ≢ other → Wishes (system_of core) waiter (key_at place core) wish
      → HoldsAgainst (system_of core) (key_at place core) wish other ⊎ WaitsAhead (system_of core) (key_at place core) wish other
      → waits_for (has_settled core) core.books waiter other ≡ true
  waits-there place wish waiter other has apart wishes blocks =
      let book : BookView = book_at place core in
      let h = wishes-there place waiter wish has wishes in
      let holds = holds_against book wish.ticket.mode other in
      let ahead = waits_ahead (has_settled core) book wish.ticket.mode other in
      let blocked : (holds || ahead) ≡ true = elim blocks [
        | inl held ↦ ap (λ b. b || ahead) (holds-from place wish other has held)
        | inr pending ↦ or-right holds ahead (ahead-from place wish other has pending)
      ] in
      let test : Ticket → Bool = λ t. t.session == waiter && is_tied (has_settled core) book other t in
      let ties = and_from (not (wish.ticket.session == other)) (holds || ahead) (apart-from wish.ticket.session other (λ e. apart (sym h.1 ∙ e))) blocked in
      any-from_place core (λ b. waits_at (has_settled core) b waiter other) place has
      (and_from (not (has_settled core waiter)) (list_any test book.waiting) (ap not h.2)
      (any-from test book.waiting wish.ticket h.0
      (and_from (wish.ticket.session == waiter) (is_tied (has_settled core) book other wish.ticket) (eq-eqb wish.ticket.session waiter h.1) ties)))
    where
      or-right : (a b : Bool) → b ≡ true → (a || b) ≡ true
      or-right true b e = refl
      or-right false b e = e

  pub waits-from : (waiter other : ℕ) → WaitsFor (system_of core) waiter other → waits_for (has_settled core) core.books waiter other ≡ true
  waits-from waiter other (apart, (key, wish, wishes, blocks)) =
      let at = wishes-place waiter key wish wishes in
      waits-there at.0 wish waiter other at.1 apart (subst (λ k. Wishes (system_of core) waiter k wish) (sym at.2) wishes)
      (subst (λ k. HoldsAgainst (system_of core) k wish other ⊎ WaitsAhead (system_of core) k wish other) (sym at.2) blocks)
