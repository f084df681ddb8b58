-- Granting the waiters of a place, one after another.
use Rattle.std.proofs.Common.{◌≡◌, ◌≢◌, ℕ, zero, suc, ◌+◌, ◌-◌, ◌<◌, ◌≤◌, Bool, true, false, cond, not, ◌&&◌, ◌||◌, nat_eq, nat_le, List, [], ◌∷◌, length, get_or, take, Option, Some, None, refl, sym, ◌∙◌, ap, subst, arith, length-set, set as set_at}
use Rattle.std.specs.Prelude.{find, is_some, All, IsOk}
use Rattle.std.specs.List.{list_any}
use Rattle.std.specs.Option.{option_map, ok_or}
use Rattle.std.specs.FinSet as set
use Rattle.std.specs.Ordering.{nat_cmp}
use Rattle.std.specs.Cmp.{nat_cmp_total, unsigned_tied}
use Rattle.std.proofs.lemmas.Bool.Decides.{nat_tests}
use Rattle.std.proofs.lemmas.List.{get_or_default, get_or-set_same, get_or-set_other}
use Rattle.std.proofs.lemmas.List.Elements.{All-head, All-tail}
use Rattle.std.proofs.lemmas.List.Folds.{list_any_at, list_any_more}
use Rattle.mdl_book.specs.declared.book_view.BookView.{BookView}
use Rattle.mdl_book.specs.declared.ticket.Ticket.{Ticket}
use Rattle.mdl_book.specs.Books as book
use Rattle.mdl_key.specs.Keys.{global_key}
use Rattle.mdl_book.specs.Books.{lock_kind, empty_book}
use Rattle.mdl_book.specs.Tickets.{is_ticket, ticket_of, ticket_id}
use Rattle.mdl_book.proofs.FastLemmas.{can_be_granted-none}
use Rattle.mdl_book.proofs.TicketLemmas.{All-without, find-passes}
use Rattle.mdl_calls.specs.declared.answers.Settled.TheVariants as settled_as
use Rattle.mdl_core.specs.declared.pending.Pending.{Pending}
use Rattle.mdl_core.specs.Words.{SeatView, empty_seat, is_unsettled_wait, with_settled_wait, Core, book_at, seat_at, has_key, has_session, booking, seating, has_unsettled_wait, is_ready_waiter, next_ready, admitting_if, admitting_up_to, serving}
use Rattle.mdl_space.specs.SettledWaits.{TellsUnsettled}

-- where nobody can be granted, nobody is
pub none_left : (n place : ℕ) (core : Core) → next_ready place core ≡ None → admitting_up_to n place core ≡ core
unfolding admitting_up_to
none_left zero place core none = refl
none_left (suc n) place core none = rw none (none_left n place core none)

-- one is granted, and then the others
pub one_more : (n place : ℕ) (core : Core) → admitting_up_to (suc n) place core ≡ admitting_up_to n place (admitting_if place (next_ready place core) core)
unfolding admitting_up_to
one_more n place core = refl

pub no_more : (place : ℕ) (core : Core) → admitting_up_to 0 place core ≡ core
unfolding admitting_up_to
no_more place core = refl

-- of so many turns one is done
pub turn_done : (turns done place : ℕ) (core after end : Core) → done < turns → admitting_up_to (turns - done) place core ≡ end
    → after ≡ admitting_if place (next_ready place core) core → admitting_up_to (turns - (done + 1)) place after ≡ end
turn_done turns done place core after end left rest is =
    let more : turns - done ≡ suc (turns - (done + 1)) = omega arith in
    ap (admitting_up_to (turns - (done + 1)) place) is ∙ sym (one_more (turns - (done + 1)) place core) ∙ ap (λ n. admitting_up_to n place core) (sym more) ∙ rest

-- with nobody left to be granted, the other turns do nothing
pub turns_end : (turns place : ℕ) (core after end : Core) → admitting_up_to turns place core ≡ end → after ≡ admitting_if place (next_ready place core) core
    → false ≡ is_some (next_ready place core) → after ≡ end
turns_end turns place core after end rest is nobody_is =
    let none : next_ready place core ≡ None = none_of (next_ready place core) nobody_is in
    is ∙ ap (λ next. admitting_if place next core) none ∙ sym (none_left turns place core none) ∙ rest
  where
    none_of : (o : Option Ticket) → false ≡ is_some o → o ≡ None
    none_of None e = refl
    none_of (Some ticket) e = cc

-- after all turns the end is reached
pub turns_over : (turns done place : ℕ) (core end : Core) → turns ≤ done → admitting_up_to (turns - done) place core ≡ end → core ≡ end
turns_over turns done place core end over rest =
    let none : turns - done ≡ 0 = omega arith in sym (no_more place core) ∙ ap (λ n. admitting_up_to n place core) (sym none) ∙ rest

-- as many turns as there are waiting tickets
pub all_turns : (place : ℕ) (core : Core) (waiting : List Ticket) (turns : ℕ) → waiting ≡ (book_at place core).waiting → turns ≡ length waiting
    → admitting_up_to turns place core ≡ serving place core
all_turns place core waiting turns is count = ap (λ n. admitting_up_to n place core) (count ∙ ap length is)

-- two tests that agree on each element find the same
find-same : {X : Type 0} (p q : X → Bool) (xs : List X) → All (λ x. p x ≡ q x) xs → find p xs ≡ find q xs
find-same p q [] same = refl
find-same p q (x ∷ xs) same = rw (All-head (λ y. p y ≡ q y) x xs same, find-same p q xs (All-tail (λ y. p y ≡ q y) x xs same))

-- the book finds the next one, once it knows whose waits are unsettled
pub next_in_book : (unsettled : set.FinSet nat_cmp) (place : ℕ) (core : Core) → TellsUnsettled unsettled place core
    → book.next_grantable 0 unsettled (book_at place core) ≡ next_ready place core
next_in_book unsettled place core tells =
    let lists = book_at place core in
    find-same (book.is_ready 0 unsettled lists) (is_ready_waiter place core) lists.waiting
    (λ k d inside. let ticket = get_or lists.waiting k d in
    rw (tells k d inside, can_be_granted-none (lock_kind lists) lists.granted lists.waiting ticket.session ticket.mode) refl)

found_is : {X : Type 0} (p q : X → Bool) (xs : List X) (x : X) → find p xs ≡ Some x → q x ≡ true → is_some (find q xs) ≡ true
found_is p q [] x found passes = cc
found_is p q (y ∷ ys) x found passes =
    elim (p y) as (λ b. p y ≡ b → cond b (Some y) (find p ys) ≡ Some x → is_some (cond (q y) (Some y) (find q ys)) ≡ true) [
      | true ↦ λ _ here. let same : y ≡ x = cc in rw (same, passes) refl
      | false ↦ λ _ later. elim (q y) as (λ b. is_some (cond b (Some y) (find q ys)) ≡ true) [ true ↦ refl | false ↦ found_is p q ys x later passes ]
    ] refl found

-- the one that is next stands among those that wait
pub ready_waits : (place : ℕ) (core : Core) (ticket : Ticket) → next_ready place core ≡ Some ticket
    → is_some (ticket_of ticket.session ticket.number (book_at place core).waiting) ≡ true
ready_waits place core ticket next =
    found_is (is_ready_waiter place core) (is_ticket ticket.session ticket.number) (book_at place core).waiting ticket next (grind (arith, nat_tests))

-- its session has an unsettled wait
pub ready_unsettled : (place : ℕ) (core : Core) (ticket : Ticket) → next_ready place core ≡ Some ticket → has_unsettled_wait ticket.session core ≡ true
ready_unsettled place core ticket next =
    let ready : is_ready_waiter place core ticket ≡ true = find-passes (is_ready_waiter place core) (book_at place core).waiting ticket next in
    grind (arith, nat_tests, ready)

-- what holds of the next one holds of its session and its number
by_id : (P : ℕ → ℕ → Type 0) (o : Option Ticket) (who number : ℕ) → Some (who, number) ≡ option_map ticket_id o
    → ((ticket : Ticket) → o ≡ Some ticket → P ticket.session ticket.number) → P who number
by_id P None who number e holds = cc
by_id P (Some ticket) who number e holds =
    let same : (who, number) ≡ ticket_id ticket = cc in subst (λ (id : ℕ × ℕ). P id.0 id.1) (sym same) (holds ticket refl)

pub is_ok_found : {X E : Type 0} (o : Option X) (e : E) → is_some o ≡ true → IsOk (ok_or o e)
is_ok_found (Some x) e some = refl
is_ok_found None e some = cc

pub nobody : (o : Option Ticket) → None ≡ option_map ticket_id o → o ≡ None
nobody None e = refl
nobody (Some ticket) e = cc

-- ---- the next one is known by its session and its number

module _ (place who number : ℕ) (core : Core) (next : Some (who, number) ≡ option_map ticket_id (next_ready place core)) where
  pub next-waits : is_some (ticket_of who number (book_at place core).waiting) ≡ true
  next-waits = by_id (λ w n. is_some (ticket_of w n (book_at place core).waiting) ≡ true) (next_ready place core) who number next (ready_waits place core)

  pub next-unsettled : has_unsettled_wait who core ≡ true
  next-unsettled = by_id (λ w n. has_unsettled_wait w core ≡ true) (next_ready place core) who number next (ready_unsettled place core)

  pub next-has_session : has_session who core ≡ true
  next-has_session = let unsettled : has_unsettled_wait who core ≡ true = next-unsettled in grind (arith, nat_tests)

  pub next-is_some : is_some (next_ready place core) ≡ true
  next-is_some = by_id (λ w n. is_some (next_ready place core) ≡ true) (next_ready place core) who number next (λ ticket found. ap is_some found)

  pub next-admitted : admitting_if place (next_ready place core) core
      ≡ booking place (book.admitting who number (book_at place core)) (seating who (with_settled_wait settled_as.Granted (seat_at who core)) core)
  next-admitted =
      by_id (λ w n. admitting_if place (next_ready place core) core
      ≡ booking place (book.admitting w n (book_at place core)) (seating w (with_settled_wait settled_as.Granted (seat_at w core)) core))
      (next_ready place core) who number next (λ ticket found. ap (λ o. admitting_if place o core) found)

-- ---- the set of the sessions whose waits are settled

none_yet : (who : ℕ) (b : Bool) → false ≡ (nat_le 1 who && nat_le who 0 && b)
none_yet who true = grind (arith, nat_tests)
none_yet who false = grind (arith, nat_tests)

pub set-empty : (open_at : ℕ → Bool) (who : ℕ) → set.contains (set.empty {R = nat_cmp}) who ≡ (nat_le 1 who && nat_le who 0 && open_at who)
set-empty open_at who = set.contains-empty nat_cmp who ∙ none_yet who (open_at who)

one_put : (index who : ℕ) (b : Bool) → (who ≡ index + 1 → b ≡ true) → (nat_eq who (index + 1) || (nat_le 1 who && nat_le who index && b)) ≡ (nat_le 1 who && nat_le who (index + 1) && b)
one_put index who true is = grind (arith, nat_tests)
one_put index who false is = grind (arith, nat_tests)

one_passed : (index who : ℕ) (b : Bool) → (who ≡ index + 1 → b ≡ false) → (nat_le 1 who && nat_le who index && b) ≡ (nat_le 1 who && nat_le who (index + 1) && b)
one_passed index who true is = grind (arith, nat_tests)
one_passed index who false is = grind (arith, nat_tests)

module _ (sessions : set.FinSet nat_cmp) (index : ℕ) (open_at : ℕ → Bool) (before : (who : ℕ) → set.contains sessions who ≡ (nat_le 1 who && nat_le who index && open_at who)) where
  pub set-put : open_at (index + 1) ≡ true → (who : ℕ) → set.contains (set.insert sessions (index + 1)) who ≡ (nat_le 1 who && nat_le who (index + 1) && open_at who)
  set-put is who =
      set.contains-insert nat_cmp_total sessions (index + 1) who
      ∙ rw (unsigned_tied who (index + 1), before who) (one_put index who (open_at who) (λ same. ap open_at same ∙ is))

  pub set-passed : open_at (index + 1) ≡ false → (who : ℕ) → set.contains sessions who ≡ (nat_le 1 who && nat_le who (index + 1) && open_at who)
  set-passed is who = before who ∙ one_passed index who (open_at who) (λ same. ap open_at same ∙ is)

-- ---- the set of the sessions that wait at a place and whose waits are unsettled

-- whether a ticket is a session's
abbrev pub is_of : ℕ → Ticket → Bool
is_of who ticket = nat_eq ticket.session who

one_noted : (who one : ℕ) (before has : Bool) → (who ≡ one → has ≡ true) → (nat_eq who one || (before && has)) ≡ ((before || nat_eq one who) && has)
one_noted who one true true is = grind (arith, nat_tests)
one_noted who one true false is = grind (arith, nat_tests)
one_noted who one false true is = grind (arith, nat_tests)
one_noted who one false false is = grind (arith, nat_tests)

one_skipped : (who one : ℕ) (before has : Bool) → (who ≡ one → has ≡ false) → (before && has) ≡ ((before || nat_eq one who) && has)
one_skipped who one true has is = refl
one_skipped who one false true is = grind (arith, nat_tests)
one_skipped who one false false is = grind (arith, nat_tests)

module _ (sessions : set.FinSet nat_cmp) (waiting : List Ticket) (index : ℕ) (d : Ticket) (core : Core) (inside : index < length waiting)
    (before : (who : ℕ) → set.contains sessions who ≡ (list_any (is_of who) (take index waiting) && has_unsettled_wait who core)) where
  looked_at : (who : ℕ) → list_any (is_of who) (take (index + 1) waiting) ≡ (list_any (is_of who) (take index waiting) || nat_eq (get_or waiting index d).session who)
  looked_at who = list_any_more (is_of who) waiting index d inside

  pub set-noted : has_unsettled_wait (get_or waiting index d).session core ≡ true
      → (who : ℕ) → set.contains (set.insert sessions (get_or waiting index d).session) who ≡ (list_any (is_of who) (take (index + 1) waiting) && has_unsettled_wait who core)
  set-noted waits who =
      set.contains-insert nat_cmp_total sessions (get_or waiting index d).session who
      ∙ rw (unsigned_tied who (get_or waiting index d).session, before who, looked_at who)
      (one_noted who (get_or waiting index d).session (list_any (is_of who) (take index waiting)) (has_unsettled_wait who core) (λ same. ap (λ w. has_unsettled_wait w core) same ∙ waits))

  pub set-skipped : has_unsettled_wait (get_or waiting index d).session core ≡ false
      → (who : ℕ) → set.contains sessions who ≡ (list_any (is_of who) (take (index + 1) waiting) && has_unsettled_wait who core)
  set-skipped waits_not who =
      before who
      ∙ rw (looked_at who)
      (one_skipped who (get_or waiting index d).session (list_any (is_of who) (take index waiting)) (has_unsettled_wait who core) (λ same. ap (λ w. has_unsettled_wait w core) same ∙ waits_not))

-- once all tickets were looked at, the set tells of each
pub set-tells : (sessions : set.FinSet nat_cmp) (waiting : List Ticket) (core : Core)
    → ((who : ℕ) → set.contains sessions who ≡ (list_any (is_of who) waiting && has_unsettled_wait who core))
    → All (λ ticket. set.contains sessions ticket.session ≡ has_unsettled_wait ticket.session core) waiting
set-tells sessions waiting core all k d inside =
    let one : Ticket = get_or waiting k d in
    let itself : is_of one.session one ≡ true = grind (arith, nat_tests) in
    all one.session ∙ ap (λ b. b && has_unsettled_wait one.session core) (list_any_at (is_of one.session) waiting k d inside itself)

one_taken : (who one : ℕ) (has old new : Bool) → (who ≡ one → new ≡ false) → (has ≡ true → who ≢ one → new ≡ old) → (not (nat_eq who one) && (has && old)) ≡ (has && new)
one_taken who one true true new same other = grind (arith, nat_tests, same, other refl)
one_taken who one true false new same other = grind (arith, nat_tests, same, other refl)
one_taken who one false old new same other = grind (arith, nat_tests)

settled_closed : (wait : Option Pending) → is_unsettled_wait (option_map (λ (wait : Pending). record wait { settled = Some settled_as.Granted }) wait) ≡ false
settled_closed None = refl
settled_closed (Some wait) = refl

pub session-bounds : (who : ℕ) (core : Core) → has_session who core ≡ true → (1 ≤ who) × (who ≤ length core.seats)
session-bounds who core has = (grind (arith, nat_tests), grind (arith, nat_tests))

pub key-bounds : (place : ℕ) (core : Core) → has_key place core ≡ true → (1 ≤ place) × (place ≤ length core.books)
key-bounds place core has = (grind (arith, nat_tests), grind (arith, nat_tests))

-- granting a waiter takes no key its place
pub key-stays : (at place : ℕ) (next : Option Ticket) (core : Core) → has_key at (admitting_if place next core) ≡ has_key at core
key-stays at place None core = refl
key-stays at place (Some ticket) core =
    ap (λ n. nat_le 1 at && nat_le at n) (length-set core.books (place - 1) (book.admitting ticket.session ticket.number (book_at place core)))

-- ---- books and seats in their lists

-- what is read at the place of a book or of a seat
pub book_here : (core : Core) (books : List BookView) (place i : ℕ) (lists : BookView) → books ≡ core.books → has_key place core ≡ true → i ≡ place
    → lists ≡ get_or books (i - 1) lists → lists ≡ book_at place core
book_here core books place i lists view has same is =
    let bounds = key-bounds place core has in
    let inside : i - 1 < length books = omega (arith, ap length view) in
    is ∙ get_or_default books (i - 1) lists (empty_book global_key) inside ∙ rw (view, same) refl

pub seat_here : (core : Core) (seats : List SeatView) (who i : ℕ) (seat : SeatView) → seats ≡ core.seats → has_session who core ≡ true → i ≡ who
    → seat ≡ get_or seats (i - 1) seat → seat ≡ seat_at who core
seat_here core seats who i seat view has same is =
    let bounds = session-bounds who core has in
    let inside : i - 1 < length seats = omega (arith, ap length view) in
    is ∙ get_or_default seats (i - 1) seat empty_seat inside ∙ rw (view, same) refl

-- what is written there
pub written_book : (core view : Core) (place i : ℕ) (new lists : BookView) → view ≡ core → i ≡ place → new ≡ lists
    → record view { books = set_at view.books (i - 1) new } ≡ booking place lists core
written_book core view place i new lists same at is = rw (same, at, is) refl

-- once a wait is granted its session is no longer among them
module _ (sessions : set.FinSet nat_cmp) (core : Core) (place one : ℕ) (lists : BookView) (has : has_session one core ≡ true) where
  after : Core
  after = booking place lists (seating one (with_settled_wait settled_as.Granted (seat_at one core)) core)

  closed_there : is_unsettled_wait (seat_at one after).wait ≡ false
  unfolding after
  closed_there =
      let inside : one - 1 < length core.seats = let b = session-bounds one core has in omega arith in
      ap (λ (s : SeatView). is_unsettled_wait s.wait) (get_or-set_same core.seats (one - 1) (with_settled_wait settled_as.Granted (seat_at one core)) empty_seat inside)
      ∙ settled_closed (seat_at one core).wait

  same_elsewhere : (who : ℕ) → has_session who core ≡ true → who ≢ one → is_unsettled_wait (seat_at who after).wait ≡ is_unsettled_wait (seat_at who core).wait
  unfolding after
  same_elsewhere who is differs =
      let b = session-bounds one core has in
      let w = session-bounds who core is in
      let apart : who - 1 ≢ one - 1 = λ e. differs (omega arith) in
      ap (λ (s : SeatView). is_unsettled_wait s.wait) (get_or-set_other core.seats (one - 1) (who - 1) (with_settled_wait settled_as.Granted (seat_at one core)) empty_seat apart)

  session_stays : (who : ℕ) → has_session who after ≡ has_session who core
  unfolding after
  session_stays who = ap (λ n. nat_le 1 who && nat_le who n) (length-set core.seats (one - 1) (with_settled_wait settled_as.Granted (seat_at one core)))

  pub set-granted : (who : ℕ) → set.contains sessions who ≡ has_unsettled_wait who core
      → set.contains (set.remove sessions one) who ≡ has_unsettled_wait who (booking place lists (seating one (with_settled_wait settled_as.Granted (seat_at one core)) core))
  unfolding after
  set-granted who before =
      set.contains-remove nat_cmp_total sessions one who
      ∙ rw (unsigned_tied who one, before)
      (one_taken who one (has_session who core) (is_unsettled_wait (seat_at who core).wait) (is_unsettled_wait (seat_at who after).wait)
      (λ same. ap (λ w. is_unsettled_wait (seat_at w after).wait) same ∙ closed_there) (same_elsewhere who))
      ∙ ap (λ b. b && is_unsettled_wait (seat_at who after).wait) (sym (session_stays who))

-- what the set tells of the waiters of a place it tells of those that are left
pub tells-granted : (sessions : set.FinSet nat_cmp) (core : Core) (place who number : ℕ) → has_session who core ≡ true → has_key place core ≡ true → TellsUnsettled sessions place core
    → TellsUnsettled (set.remove sessions who) place
    (booking place (book.admitting who number (book_at place core)) (seating who (with_settled_wait settled_as.Granted (seat_at who core)) core))
tells-granted sessions core place who number has key tells =
    let lists : BookView = book.admitting who number (book_at place core) in
    let after : Core = booking place lists (seating who (with_settled_wait settled_as.Granted (seat_at who core)) core) in
    let inside : place - 1 < length core.books = let b = key-bounds place core key in omega arith in
    let here : lists ≡ book_at place after = sym (get_or-set_same core.books (place - 1) lists (empty_book global_key) inside) in
    let told : All (λ (ticket : Ticket). set.contains (set.remove sessions who) ticket.session ≡ has_unsettled_wait ticket.session after) (book_at place core).waiting =
    λ k d at. set-granted sessions core place who lists has (get_or (book_at place core).waiting k d).session (tells k d at) in
    subst (λ (b : BookView). All (λ (ticket : Ticket). set.contains (set.remove sessions who) ticket.session ≡ has_unsettled_wait ticket.session after) b.waiting) here
    (All-without (λ (ticket : Ticket). set.contains (set.remove sessions who) ticket.session ≡ has_unsettled_wait ticket.session after) (is_ticket who number) (book_at place core).waiting told)
