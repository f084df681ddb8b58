-- What the space tells of a session for which it speaks: its tickets and its wait stand in the books of their places.
use Rattle.std.proofs.Common.{◌≡◌, ◌≢◌, ℕ, zero, suc, ◌<◌, Bool, true, false, cond, inl, inr, List, [], ◌∷◌, length, get_or, Option, Some, refl, sym, ◌∙◌, ap, subst, arith}
use Rattle.std.specs.Prelude.{find, is_some, Contains}
use Rattle.std.proofs.lemmas.List.Elements.{Contains-get_or, Contains-append_right, All-contains}
use Rattle.std.proofs.lemmas.Bool.Decides.{nat_tests}
use Rattle.mdl_key.specs.declared.mode.Mode.{Mode}
use Rattle.mdl_key.specs.Modes.{is_mode_of}
use Rattle.mdl_book.specs.Books.{lock_kind}
use Rattle.mdl_book.specs.Granting.{is_compatible}
use Rattle.mdl_book.specs.Tickets.{is_ticket, ticket_of}
use Rattle.mdl_book.specs.declared.book_view.BookView.{BookView}
use Rattle.mdl_calls.specs.declared.answers.Held.{Held}
use Rattle.mdl_calls.specs.declared.answers.Settled.{Settled}
use Rattle.mdl_calls.specs.declared.answers.Settled.TheVariants as settled_as
use Rattle.mdl_core.specs.declared.pending.Pending.{Pending}
use Rattle.mdl_calls.specs.SessionLocks.{is_number}
use Rattle.mdl_core.specs.Words.{SeatView, ticket_of_wait, Core, book_at, seat_at, key_at, has_key, system_of, SpeaksFor, IsTied, HasGrantedTicket, Awaits, in_book_of, holding_of}
use Rattle.mdl_system.specs.Words.{of_lock, covers}
use Rattle.mdl_system.proofs.BookLemmas.{compatible-Decides}
use Rattle.mdl_core.proofs.CoreGranted.{granted-from_place, granted-of_held}
use Rattle.mdl_core.proofs.CoreReads.{ticket-key}
use Rattle.mdl_system.proofs.LawfulLemmas.{compatible-from_weaker}
use Rattle.mdl_system.proofs.StrengthLemmas.{covers-at_least}

-- what is found is one of them
pub found_among : {X : Type 0} (p : X → Bool) (xs : List X) (x : X) → find p xs ≡ Some x → Contains xs x
found_among p [] x found = cc
found_among p (y ∷ ys) x found =
    elim (p y) as (λ b. cond b (Some y) (find p ys) ≡ Some x → Contains (y ∷ ys) x) [
      | true ↦ λ here. let same : y ≡ x = cc in subst (Contains (y ∷ ys)) same (Contains-get_or (y ∷ ys) 0 y (omega arith))
      | false ↦ λ later. Contains-append_right (y ∷ []) ys x (found_among p ys x later)
    ] found

passing_found : {X : Type 0} (p : X → Bool) (xs : List X) (k : ℕ) (d : X) → k < length xs → p (get_or xs k d) ≡ true → is_some (find p xs) ≡ true
passing_found p [] k d inside passes = absurd (omega arith)
passing_found p (x ∷ xs) zero d inside passes = rw passes refl
passing_found p (x ∷ xs) (suc k) d inside passes =
    elim (p x) as (λ b. is_some (cond b (Some x) (find p xs)) ≡ true) [ true ↦ refl | false ↦ passing_found p xs k d (omega arith) passes ]

-- where one of them passes, one is found
pub found_passing : {X : Type 0} (p : X → Bool) (xs : List X) (x : X) → Contains xs x → p x ≡ true → is_some (find p xs) ≡ true
found_passing p xs x among =
    All-contains (λ y. p y ≡ true → is_some (find p xs) ≡ true) xs x (λ k d inside. passing_found p xs k d inside) among

itself : (who : ℕ) (ticket : Held) → is_ticket who ticket.id (in_book_of who ticket) ≡ true
itself who ticket = grind (arith, nat_tests)

module _ (core : Core) (who : ℕ) (speaks : SpeaksFor core who) where
  module _ (id : ℕ) (ticket : Held) (found : find (is_number id) (seat_at who core).held ≡ Some ticket) where
    has_found : HasGrantedTicket (seat_at who core) ticket
    has_found = inl (found_among (is_number id) (seat_at who core).held ticket found)

    pub held-key : has_key ticket.place core ≡ true
    held-key = ticket-key core who ticket speaks.1.tied speaks.0 (inl has_found)

    pub held-among : Contains (book_at ticket.place core).granted (in_book_of who ticket)
    held-among = (speaks.1.tied.granted who ticket speaks.0 held-key).1 has_found

    pub held-in_book : is_some (ticket_of who ticket.id (book_at ticket.place core).granted) ≡ true
    held-in_book = found_passing (is_ticket who ticket.id) (book_at ticket.place core).granted (in_book_of who ticket) held-among (itself who ticket)

  module _ (wait : Pending) (how : Settled) (has : (seat_at who core).wait ≡ Some wait) (settled : wait.settled ≡ Some how) (lost : how ≢ settled_as.Granted) where
    waits_for : Awaits (seat_at who core) (ticket_of_wait wait)
    waits_for = rw has ((λ won. let same : how ≡ settled_as.Granted = cc in lost same), refl)

    pub wait-key : has_key wait.place core ≡ true
    wait-key = ticket-key core who (ticket_of_wait wait) speaks.1.tied speaks.0 (inr waits_for)

    pub wait-in_book : is_some (ticket_of who wait.id (book_at wait.place core).waiting) ≡ true
    wait-in_book =
        found_passing (is_ticket who wait.id) (book_at wait.place core).waiting (in_book_of who (ticket_of_wait wait))
        ((speaks.1.tied.waiting who (ticket_of_wait wait) speaks.0 wait-key).1 waits_for) (itself who (ticket_of_wait wait))

-- what is read of a held ticket
pub held-found : (core : Core) (who id : ℕ) (seat : SeatView) (read : Option Held) (ticket : Held) → seat ≡ seat_at who core
    → read ≡ find (is_number id) seat.held → read ≡ Some ticket → find (is_number id) (seat_at who core).held ≡ Some ticket
held-found core who id seat read ticket here is found = ap (λ (s : SeatView). find (is_number id) s.held) (sym here) ∙ sym is ∙ found

pub held-stands : (core : Core) (who id : ℕ) → SpeaksFor core who → (seat : SeatView) (read : Option Held) (ticket : Held) → seat ≡ seat_at who core
    → read ≡ find (is_number id) seat.held → read ≡ Some ticket
    → (has_key ticket.place core ≡ true) × (is_some (ticket_of who ticket.id (book_at ticket.place core).granted) ≡ true)
held-stands core who id speaks seat read ticket here is found =
    let held : find (is_number id) (seat_at who core).held ≡ Some ticket = held-found core who id seat read ticket here is found in
    (held-key core who speaks id ticket held, held-in_book core who speaks id ticket held)

-- what is read of a lost wait
pub wait-stands : (core : Core) (who : ℕ) → SpeaksFor core who → (seat : SeatView) (read : Option Pending) (wait : Pending) (how : Settled) → seat ≡ seat_at who core
    → read ≡ seat.wait → read ≡ Some wait → wait.settled ≡ Some how → how ≢ settled_as.Granted
    → (has_key wait.place core ≡ true) × (is_some (ticket_of who wait.id (book_at wait.place core).waiting) ≡ true)
wait-stands core who speaks seat read wait how here is found settled lost =
    let has : (seat_at who core).wait ≡ Some wait = ap (λ (s : SeatView). s.wait) (sym here) ∙ sym is ∙ found in
    (wait-key core who speaks wait how has settled lost, wait-in_book core who speaks wait how has settled lost)

-- a ticket that covers a mode, in which the lock can be held, keeps all tickets away that clash with it
pub clone-compatible : (core : Core) (who : ℕ) (ticket : Held) (mode : Mode) → SpeaksFor core who → Contains (seat_at who core).held ticket
    → covers ticket.mode mode ≡ true → is_mode_of (lock_kind (book_at ticket.place core)) mode ≡ true
    → is_compatible (lock_kind (book_at ticket.place core)) (book_at ticket.place core).granted who mode ≡ true
clone-compatible core who ticket mode speaks held strong fit =
    let tied : IsTied core = speaks.1.tied in
    let key : has_key ticket.place core ≡ true = ticket-key core who ticket tied speaks.0 (inl (inl held)) in
    let lists : BookView = book_at ticket.place core in
    let own_fits = (tied.granted_by ticket.place key (in_book_of who ticket) ((tied.granted who ticket speaks.0 key).1 (inl held))).1 in
    let clashes_none = compatible-from_weaker (system_of core) speaks.1.lawful (holding_of who ticket core) mode (granted-of_held core who ticket tied speaks.0 held)
    (covers-at_least (lock_kind lists) ticket.mode mode own_fits fit strong) in
    (compatible-Decides (lock_kind lists) lists.granted who mode).1
    (λ t among other clash. clashes_none (of_lock (key_at ticket.place core) t) (granted-from_place core ticket.place (of_lock (key_at ticket.place core) t) key refl among) refl other clash)
