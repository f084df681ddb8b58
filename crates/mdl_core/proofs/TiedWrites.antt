-- What a session has at a place; and that books and sessions tell the same after one book and one seat were written, where that
-- book and that seat do.
use Rattle.std.proofs.Common.{◌≡◌, ◌≢◌, ◌⊎◌, ◌↔◌, ℕ, ◌==◌, inl, inr, List, true, refl, sym, ap, subst, ◌∙◌}
use Rattle.std.specs.Prelude.{Contains, AllPairs, IsTrue}
use Rattle.mdl_key.specs.Modes.{is_mode_of, kind_of}
use Rattle.mdl_book.specs.declared.book_view.BookView.{BookView}
use Rattle.mdl_book.specs.declared.ticket.Ticket.{Ticket}
use Rattle.mdl_book.specs.Books.{lock_kind}
use Rattle.mdl_book.specs.Tickets.{ticket_id}
use Rattle.mdl_calls.specs.declared.answers.Held.{Held}
use Rattle.mdl_calls.specs.SessionLocks.{are_rising_places, is_pinned}
use Rattle.mdl_core.specs.Cores.{Core, book_at, seat_at, key_at, has_key, has_pin, has_session, booking, seating}
use Rattle.std.specs.List.{list_any}
use Rattle.mdl_core.specs.Seats.{SeatView, locks_of_seat}
use Rattle.mdl_core.specs.Ties.{HasGrantedTicket, Awaits, in_book_of, HasRisingNumbers, IsTied}
use Rattle.mdl_core.proofs.CoreReads.{has_key-booking, has_session-seating, booked-same, booked-other, seated-same, seated-other}
use Rattle.mdl_core.proofs.Effects.{through, back}
use Rattle.mdl_system.proofs.Deciding.{nat_told}

-- ---- what one session has at one place, and what stands there in the book

-- a ticket in the book of a place, as its session has it
abbrev pub held_at : ℕ → Ticket → Held
held_at place ticket = record { id = ticket.number; place = place; mode = ticket.mode }

-- it stands there as that
pub as-held : (list : List Ticket) (who place : ℕ) (ticket : Ticket) → ticket.session ≡ who → Contains list ticket → Contains list (in_book_of who (held_at place ticket))
as-held list who place ticket own among = subst (Contains list) (λ i. record { session = own i; number = ticket.number; mode = ticket.mode }) among

module _ (core : Core) (who place : ℕ) (tied : IsTied core) (session : has_session who core ≡ true) (key : has_key place core ≡ true) where
  at-key : (ticket : Held) → ticket.place ≡ place → has_key ticket.place core ≡ true
  at-key ticket here = subst (λ p. has_key p core ≡ true) (sym here) key

  pub granted-here : (ticket : Held) → ticket.place ≡ place → Contains (book_at place core).granted (in_book_of who ticket) ↔ HasGrantedTicket (seat_at who core) ticket
  granted-here ticket here =
      subst (λ p. Contains (book_at p core).granted (in_book_of who ticket) ↔ HasGrantedTicket (seat_at who core) ticket) here (tied.granted who ticket session (at-key ticket here))

  pub waiting-here : (ticket : Held) → ticket.place ≡ place → Contains (book_at place core).waiting (in_book_of who ticket) ↔ Awaits (seat_at who core) ticket
  waiting-here ticket here =
      subst (λ p. Contains (book_at p core).waiting (in_book_of who ticket) ↔ Awaits (seat_at who core) ticket) here (tied.waiting who ticket session (at-key ticket here))

  pub waiting-own : (ticket : Ticket) → ticket.session ≡ who → Contains (book_at place core).waiting ticket → Awaits (seat_at who core) (held_at place ticket)
  waiting-own ticket own among = (waiting-here (held_at place ticket) refl).0 (as-held (book_at place core).waiting who place ticket own among)

-- ---- what is written

-- the tickets of a place's book were of what a session had and others had, and now they are of what it has and the same others have
pub record Follows (who place : ℕ) (old new : List Ticket) (had has : Held → Type 0) : Type 0 where
  pub others : (ticket : Ticket) → ticket.session ≢ who → Contains new ticket ↔ Contains old ticket
  pub here : (ticket : Held) → ticket.place ≡ place → Contains new (in_book_of who ticket) ↔ has ticket
  pub elsewhere : (ticket : Held) → ticket.place ≢ place → has ticket ↔ had ticket

-- a book and a seat that can be written together
pub record Fits (core : Core) (who place : ℕ) (book : BookView) (seat : SeatView) : Type 0 where
  pub same_key : book.key ≡ key_at place core
  pub granted : Follows who place (book_at place core).granted book.granted (HasGrantedTicket (seat_at who core)) (HasGrantedTicket seat)
  pub waiting : Follows who place (book_at place core).waiting book.waiting (Awaits (seat_at who core)) (Awaits seat)
  -- what is new is in a mode of the lock's kind
  pub mode : (ticket : Held) → HasGrantedTicket seat ticket ⊎ Awaits seat ticket
      → (HasGrantedTicket (seat_at who core) ticket ⊎ Awaits (seat_at who core) ticket) ⊎ IsTrue (is_mode_of (lock_kind (book_at place core)) ticket.mode)
  pub granted_once : AllPairs (λ (one other : Ticket). ticket_id one ≢ ticket_id other) book.granted
  pub waiting_once : AllPairs (λ (one other : Ticket). one.session ≢ other.session) book.waiting
  pub numbered : HasRisingNumbers seat
  -- the session pins the place, and its pins stay
  pub pin : has_pin who place core ≡ true
  pub pins : seat.pins ≡ (seat_at who core).pins

module _ (core : Core) (who place : ℕ) (book : BookView) (seat : SeatView) (session : has_session who core ≡ true) (key : has_key place core ≡ true) where
  abbrev pub written : Core
  written = booking place book (seating who seat core)

  pub had_key : (other : ℕ) → has_key other written ≡ true → has_key other core ≡ true
  had_key other has = sym (has_key-booking (seating who seat core) place other book) ∙ has

  had_session : (other : ℕ) → has_session other written ≡ true → has_session other core ≡ true
  had_session other has = sym (has_session-seating core who other seat) ∙ has

  -- what is so at this place and at others is so at each
  pub at_place : (P : ℕ → BookView → Type 0) → P place book → ((other : ℕ) → has_key other core ≡ true → other ≢ place → P other (book_at other core))
      → (other : ℕ) → has_key other core ≡ true → P other (book_at other written)
  at_place P here elsewhere other has = elim (nat_told other place) [
    | inl e ↦ subst (λ p. P p (book_at p written)) (sym e) (subst (P place) (sym (booked-same (seating who seat core) place book key)) here)
    | inr apart ↦ subst (P other) (sym (booked-other (seating who seat core) place other book key has apart)) (elsewhere other has apart)
  ]

  -- and the same of sessions
  pub at_session : (P : ℕ → SeatView → Type 0) → P who seat → ((other : ℕ) → has_session other core ≡ true → other ≢ who → P other (seat_at other core))
      → (other : ℕ) → has_session other core ≡ true → P other (seat_at other written)
  at_session P own others other has = elim (nat_told other who) [
    | inl e ↦ subst (λ w. P w (seat_at w written)) (sym e) (subst (P who) (sym (seated-same core who seat session)) own)
    | inr apart ↦ subst (P other) (sym (seated-other core who other seat session has apart)) (others other has apart)
  ]

  -- keys and kinds are as before
  pub key-same : book.key ≡ key_at place core → (other : ℕ) → has_key other core ≡ true → key_at other written ≡ key_at other core
  key-same same = at_place (λ p (b : BookView). b.key ≡ key_at p core) same (λ other has apart. refl)

  module _ (tied : IsTied core) (fits : Fits core who place book seat) where
    -- own tickets of this place are of its kind
    own-mode : (ticket : Held) → ticket.place ≡ place → HasGrantedTicket seat ticket ⊎ Awaits seat ticket → IsTrue (is_mode_of (lock_kind (book_at place core)) ticket.mode)
    own-mode ticket here has = elim (fits.mode ticket has) [
      | inl old ↦ elim old [
        | inl had ↦ (tied.granted_by place key (in_book_of who ticket) ((granted-here core who place tied session key ticket here).1 had)).1
        | inr waited ↦ (tied.waiting_by place key (in_book_of who ticket) ((waiting-here core who place tied session key ticket here).1 waited)).1
      ]
      | inr new ↦ new
    ]

    -- what stands in this place's book is of a session and of the lock's kind
    by-own : (list old : List Ticket) (had has : Held → Type 0) → Follows who place old list had has
        → ((ticket : Held) → ticket.place ≡ place → has ticket → IsTrue (is_mode_of (lock_kind (book_at place core)) ticket.mode))
        → ((ticket : Ticket) → Contains old ticket → (has_session ticket.session core ≡ true) × IsTrue (is_mode_of (lock_kind (book_at place core)) ticket.mode))
        → (ticket : Ticket) → Contains list ticket → (has_session ticket.session core ≡ true) × IsTrue (is_mode_of (lock_kind (book_at place core)) ticket.mode)
    by-own list old had has follows modes before ticket among = elim (nat_told ticket.session who) [
      | inl e ↦ (
        subst (λ w. has_session w core ≡ true) (sym e) session,
        modes (held_at place ticket) refl ((follows.here (held_at place ticket) refl).0 (as-held list who place ticket e among)),
      )
      | inr apart ↦ before ticket ((follows.others ticket apart).0 among)
    ]

    -- how books and sessions match
    abbrev Match : (BookView → List Ticket) → (SeatView → Held → Type 0) → ℕ → BookView → Type 0
    Match list has at b = (w : ℕ) (ticket : Held) → has_session w core ≡ true → ticket.place ≡ at → Contains (list b) (in_book_of w ticket) ↔ has (seat_at w written) ticket

    matches : (list : BookView → List Ticket) (has : SeatView → Held → Type 0)
        → Follows who place (list (book_at place core)) (list book) (has (seat_at who core)) (has seat)
        → ((w : ℕ) (ticket : Held) → has_session w core ≡ true → has_key ticket.place core ≡ true → Contains (list (book_at ticket.place core)) (in_book_of w ticket) ↔ has (seat_at w core) ticket)
        → (w : ℕ) (ticket : Held) → has_session w written ≡ true → has_key ticket.place written ≡ true
        → Contains (list (book_at ticket.place written)) (in_book_of w ticket) ↔ has (seat_at w written) ticket
    matches list has follows before w ticket is_session is_key =
        at_place (Match list has)
        (λ w ticket is here. at_session (λ v s. Contains (list book) (in_book_of v ticket) ↔ has s ticket) (follows.here ticket here)
        (λ other is apart. through (follows.others (in_book_of other ticket) apart)
        (subst (λ p. Contains (list (book_at p core)) (in_book_of other ticket) ↔ has (seat_at other core) ticket) here
        (before other ticket is (subst (λ p. has_key p core ≡ true) (sym here) key)))) w is)
        (λ other has_other apart w ticket is there.
        subst (λ p. Contains (list (book_at p core)) (in_book_of w ticket) ↔ has (seat_at w written) ticket) there
        (at_session (λ v s. Contains (list (book_at ticket.place core)) (in_book_of v ticket) ↔ has s ticket)
        (through (before who ticket session (subst (λ p. has_key p core ≡ true) (sym there) has_other)) (back (follows.elsewhere ticket (λ e. apart (sym there ∙ e)))))
        (λ v is_v _. before v ticket is_v (subst (λ p. has_key p core ≡ true) (sym there) has_other)) w is))
        ticket.place (had_key ticket.place is_key) w ticket (had_session w is_session) refl

    -- what the session has stands at places that it pins
    own-placed : (ticket : Held) → HasGrantedTicket seat ticket ⊎ Awaits seat ticket → has_pin who ticket.place core ≡ true
    own-placed ticket has = elim (nat_told ticket.place place) [
      | inl here ↦ subst (λ p. has_pin who p core ≡ true) (sym here) fits.pin
      | inr there ↦ tied.placed who ticket session (elim has [
        | inl held ↦ inl ((fits.granted.elsewhere ticket there).0 held)
        | inr waits ↦ inr ((fits.waiting.elsewhere ticket there).0 waits)
      ])
    ]

    abbrev By : (BookView → List Ticket) → ℕ → BookView → Type 0
    By list at b = (ticket : Ticket) → Contains (list b) ticket → (has_session ticket.session core ≡ true) × IsTrue (is_mode_of (lock_kind (book_at at core)) ticket.mode)

    by : (list : BookView → List Ticket) → ((at : ℕ) → has_key at core ≡ true → By list at (book_at at written)) → (at : ℕ) → has_key at written ≡ true → (ticket : Ticket)
        → Contains (list (book_at at written)) ticket → (has_session ticket.session written ≡ true) × IsTrue (is_mode_of (lock_kind (book_at at written)) ticket.mode)
    by list before at has ticket among =
        let had = had_key at has in
        let old = before at had ticket among in (
          has_session-seating core who ticket.session seat ∙ old.0,
          subst (λ k. IsTrue (is_mode_of (kind_of k.namespace) ticket.mode)) (sym (key-same fits.same_key at had)) old.1,
        )

    -- all of it
    pub tied-written : IsTied written
    tied-written = record {
      keys = λ one other has_one has_other same.
          tied.keys one other (had_key one has_one) (had_key other has_other)
          (sym (key-same fits.same_key one (had_key one has_one)) ∙ same ∙ key-same fits.same_key other (had_key other has_other));
      granted_by = by (λ b. b.granted) (at_place (By (λ b. b.granted))
          (by-own book.granted (book_at place core).granted (HasGrantedTicket (seat_at who core)) (HasGrantedTicket seat) fits.granted (λ ticket here has. own-mode ticket here (inl has)) (tied.granted_by place key))
          (λ other has _. tied.granted_by other has));
      waiting_by = by (λ b. b.waiting) (at_place (By (λ b. b.waiting))
          (by-own book.waiting (book_at place core).waiting (Awaits (seat_at who core)) (Awaits seat) fits.waiting (λ ticket here has. own-mode ticket here (inr has)) (tied.waiting_by place key))
          (λ other has _. tied.waiting_by other has));
      granted = matches (λ b. b.granted) HasGrantedTicket fits.granted tied.granted;
      waiting = matches (λ b. b.waiting) Awaits fits.waiting tied.waiting;
      placed = λ w ticket has_w has.
          at_session (λ v s. HasGrantedTicket s ticket ⊎ Awaits s ticket → is_pinned ticket.place (locks_of_seat s) ≡ true)
          (λ own. ap (list_any (λ pin. pin == ticket.place)) fits.pins ∙ own-placed ticket own)
          (λ v is_v _. tied.placed v ticket is_v) w (had_session w has_w) has;
      granted_once = λ at has. at_place (λ _ b. AllPairs (λ (one other : Ticket). ticket_id one ≢ ticket_id other) b.granted)
          fits.granted_once (λ other has_other _. tied.granted_once other has_other) at (had_key at has);
      waiting_once = λ at has. at_place (λ _ b. AllPairs (λ (one other : Ticket). one.session ≢ other.session) b.waiting)
          fits.waiting_once (λ other has_other _. tied.waiting_once other has_other) at (had_key at has);
      numbered = λ w has. at_session (λ _ s. HasRisingNumbers s) fits.numbered (λ v is_v _. tied.numbered v is_v) w (had_session w has);
      pinned = λ w p has pins.
          has_key-booking (seating who seat core) place p book
          ∙ at_session (λ v s. list_any (λ pin. pin == p) s.pins ≡ true → has_key p core ≡ true)
          (λ own. tied.pinned who p session (ap (list_any (λ pin. pin == p)) (sym fits.pins) ∙ own)) (λ v is_v _. tied.pinned v p is_v) w (had_session w has) pins;
      in_order = λ w has. at_session (λ v s. are_rising_places s.pins ≡ true) (ap are_rising_places fits.pins ∙ tied.in_order who session)
          (λ v is_v _. tied.in_order v is_v) w (had_session w has);
    }
