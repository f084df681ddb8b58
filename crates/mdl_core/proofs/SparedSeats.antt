-- What a change in the space of one thread leaves to the sessions: seats, keys, and waits that were settled.
use Rattle.std.proofs.Common.{◌≡◌, ◌≢◌, ◌⊎◌, ℕ, ◌-◌, Bool, true, false, not, ◌&&◌, nat_le, length, Option, Some, None, MatchOption, is_some, slice_index_or, slice_set, refl, sym, ap, subst, ◌∙◌, inl, inr, if◌then◌else◌, arith}
use Rattle.std.proofs.lemmas.Bool.Decides.{eqb_tells}
use Rattle.mdl_book.specs.declared.book_view.BookView.{BookView}
use Rattle.mdl_calls.specs.declared.answers.Settled.{Settled}
use Rattle.mdl_calls.specs.SessionLocks.{Wait}
use Rattle.mdl_core.specs.declared.pending.Pending.{Pending}
use Rattle.mdl_core.specs.Changes.{Change, Gain, Lose, Queue, Admit, Settle, Leave, Take_up, Alter, Fold, Redefine, May, seat_after, book_after, is_of_book, booked_if, after_change}
use Rattle.mdl_core.specs.CoreCalls.{wait_at}
use Rattle.mdl_core.specs.CoreJoins.{locks_at, numbers_at, IsSettledAs}
use Rattle.mdl_core.specs.Cores.{Core, book_at, seat_at, key_at, standing_at, has_key, has_session, booking, seating}
use Rattle.mdl_core.specs.Seats.{SeatView, locks_of_seat, numbers_of_seat, empty_seat, is_unsettled_wait, with_settled_wait}
use Rattle.mdl_core.proofs.CoreReads.{has_key-booking, booked-same, booked-other, has_session-seating, seated-same, seated-other}

-- ---- settled waits

-- a wait is there and is settled so
abbrev pub IsSettledWait : Settled → Option Pending → Type 0
IsSettledWait how o = MatchOption o ⊥ (λ (wait : Pending). wait.settled ≡ Some how)

-- a seat's is
abbrev pub HasSettled : SeatView → Settled → Type 0
HasSettled seat how = IsSettledWait how seat.wait

pub settled_at : (seat : SeatView) (wait : Pending) (how : Settled) → seat.wait ≡ Some wait → wait.settled ≡ Some how → HasSettled seat how
settled_at seat wait how its settled = subst (IsSettledWait how) (sym its) settled

-- in one way
pub settled-once : (seat : SeatView) (wait : Pending) (one other : Settled) → seat.wait ≡ Some wait → wait.settled ≡ Some one → HasSettled seat other → one ≡ other
settled-once seat wait one other its settled has = let e = sym settled ∙ subst (IsSettledWait other) its has in cc

-- and not where there is none, or it is unsettled
pub none_settled : (seat : SeatView) (how : Settled) → seat.wait ≡ None → HasSettled seat how → ⊥
none_settled seat how none settled = subst (IsSettledWait how) none settled

pub not_settled : (seat : SeatView) (wait : Pending) (how : Settled) → seat.wait ≡ Some wait → wait.settled ≡ None → HasSettled seat how → ⊥
not_settled seat wait how its free settled = let e = sym free ∙ subst (IsSettledWait how) its settled in cc

-- what is open is a wait that isn't settled
pub open_wait : (o : Option Pending) → is_unsettled_wait o ≡ true → (wait : Pending) × (o ≡ Some wait) × (wait.settled ≡ None)
open_wait None e = cc
open_wait (Some wait) e = (wait, refl, none wait.settled e)
  where
    none : (s : Option Settled) → not (is_some s) ≡ true → s ≡ None
    none None f = refl
    none (Some how) f = cc

-- of a session this is what its settled wait is
pub wait-of_session : (core : Core) (who : ℕ) → has_session who core ≡ true → wait_at who core ≡ (seat_at who core).wait
wait-of_session core who is = ap (λ b. if b then (seat_at who core).wait else None) is

pub settled-seat : (core : Core) (who : ℕ) (how : Settled) → has_session who core ≡ true → IsSettledAs core who how → HasSettled (seat_at who core) how
settled-seat core who how is settled = subst (IsSettledWait how) (wait-of_session core who is) settled

pub seat-settled : (core : Core) (who : ℕ) (how : Settled) → has_session who core ≡ true → HasSettled (seat_at who core) how → IsSettledAs core who how
seat-settled core who how is settled = subst (IsSettledWait how) (sym (wait-of_session core who is)) settled

-- ---- seats that say the same

-- a session has the same by two seats, and a wait that was settled is settled as it was
pub record IsLike (one other : SeatView) : Type 0 where
  pub own : locks_of_seat other ≡ locks_of_seat one
  pub numbers : numbers_of_seat other ≡ numbers_of_seat one
  pub settled : (how : Settled) → HasSettled one how → HasSettled other how

-- a place has the key that it had, and if it had a version it has one
abbrev pub KeepsKey : Core → Core → ℕ → Type 0
KeepsKey a b place =
    (has_key place b ≡ true) × (key_at place b ≡ key_at place a) × ((standing_at place a).version ≢ 0 → (standing_at place b).version ≢ 0)

-- all sessions have what they had, and all places their keys
pub record Spares (a b : Core) : Type 0 where
  pub sessions : (w : ℕ) → has_session w b ≡ has_session w a
  pub keys : (place : ℕ) → has_key place a ≡ true → KeepsKey a b place
  pub seats : (w : ℕ) → has_session w a ≡ true → IsLike (seat_at w a) (seat_at w b)

-- where nothing happened, and from one space to a third
pub spares-same : (a : Core) → Spares a a
spares-same a = record {
  sessions = λ w. refl;
  keys = λ place has. (has, refl, λ some. some);
  seats = λ w is. record { own = refl; numbers = refl; settled = λ how settled. settled };
}

pub keeps-key_then : (a b c : Core) (place : ℕ) → KeepsKey a b place → KeepsKey b c place → KeepsKey a c place
keeps-key_then a b c place early late = (late.0, late.1 ∙ early.1, λ some. late.2 (early.2 some))

pub spares-then : (a b c : Core) → Spares a b → Spares b c → Spares a c
spares-then a b c early late = record {
  sessions = λ w. late.sessions w ∙ early.sessions w;
  keys = λ place has. (let h = early.keys place has in keeps-key_then a b c place h (late.keys place h.0));
  seats = λ w is. (
      let first = early.seats w is in
      let second = late.seats w (early.sessions w ∙ is) in
      record {
        own = second.own ∙ first.own;
        numbers = second.numbers ∙ first.numbers;
        settled = λ how settled. second.settled how (first.settled how settled);
      });
}

-- ---- a change

-- whether it ends a wait
abbrev pub is_end : Change → Bool
is_end (Leave wait) = true
is_end (Take_up wait) = true
is_end _ = false

-- a wait, as its session has it
abbrev pub as_wait : Pending → Wait
as_wait wait = record { number = wait.number; place = wait.place; mode = wait.mode }

-- what a session has isn't changed as its wait is settled
pub own-settling : (how : Settled) (seat : SeatView) → locks_of_seat (with_settled_wait how seat) ≡ locks_of_seat seat
own-settling how seat = elim seat.wait as (λ o. locks_of_seat (with_settled_wait how (record seat { wait = o })) ≡ locks_of_seat (record seat { wait = o })) [
  | None ↦ refl
  | Some wait ↦ refl
]

module _ (a : Core) (who place : ℕ) (change : Change) (may : May who place change a) where
  abbrev b : Core
  b = after_change who place change a

  abbrev seat : SeatView
  seat = seat_after place change (seat_at who a)

  abbrev book : BookView
  book = book_after who (seat_at who a) change (book_at place a)

  -- the one seat is written
  seats-changed : b.seats ≡ slice_set a.seats (who - 1) seat
  seats-changed = by (is_of_book change)
    where
      by : (t : Bool) → (booked_if t place book (seating who seat a)).seats ≡ slice_set a.seats (who - 1) seat
      by true = refl
      by false = refl

  pub sessions-changed : (w : ℕ) → has_session w b ≡ has_session w a
  sessions-changed w = ap (λ seats. nat_le 1 w && nat_le w (length seats)) seats-changed ∙ has_session-seating a who w seat

  pub seat-changed : seat_at who b ≡ seat
  seat-changed = ap (λ seats. slice_index_or seats (who - 1) empty_seat) seats-changed ∙ seated-same a who seat may.session

  pub seat-other : (w : ℕ) → has_session w a ≡ true → w ≢ who → seat_at w b ≡ seat_at w a
  seat-other w is apart = ap (λ seats. slice_index_or seats (w - 1) empty_seat) seats-changed ∙ seated-other a who w seat may.session is apart

  -- each place keeps its key
  same_key : (c : Change) → (book_after who (seat_at who a) c (book_at place a)).key ≡ key_at place a
  same_key (Gain mode) = refl
  same_key _ = refl

  pub keys-changed : (other : ℕ) → has_key other a ≡ true → (has_key other b ≡ true) × (key_at other b ≡ key_at other a)
  keys-changed other has = by (is_of_book change)
    where
      told : (other ≡ place) ⊎ (other ≢ place) → key_at other (booking place book (seating who seat a)) ≡ key_at other a
      told (inl same) =
          subst (λ p. key_at p (booking place book (seating who seat a)) ≡ key_at p a) (sym same)
          (ap (λ (x : BookView). x.key) (booked-same (seating who seat a) place book may.key) ∙ same_key change)
      told (inr apart) = ap (λ (x : BookView). x.key) (booked-other (seating who seat a) place other book may.key has apart)

      by : (t : Bool) → (has_key other (booked_if t place book (seating who seat a)) ≡ true)
          × (key_at other (booked_if t place book (seating who seat a)) ≡ key_at other a)
      by true = (has_key-booking (seating who seat a) place other book ∙ has, told (elim (eqb_tells other place) [ inl e ↦ inl e.1 | inr e ↦ inr e.1 ]))
      by false = (has, refl)

  -- and a version, if it has one
  has_version : (c : Change) → (standing_at place a).version ≢ 0 → (book_after who (seat_at who a) c (book_at place a)).standing.version ≢ 0
  has_version (Gain mode) some = some
  has_version (Lose ticket) some = some
  has_version (Queue mode) some = some
  has_version (Admit ticket) some = some
  has_version (Settle how) some = some
  has_version (Leave wait) some = some
  has_version (Take_up wait) some = some
  has_version (Alter ticket mode) some = some
  has_version (Fold old new) some = some
  has_version (Redefine ticket change) some = λ e. absurd (omega (arith, e))

  versions-changed : (other : ℕ) → has_key other a ≡ true → (standing_at other a).version ≢ 0 → (standing_at other b).version ≢ 0
  versions-changed other has some = by (is_of_book change)
    where
      told : (other ≡ place) ⊎ (other ≢ place) → (standing_at other (booking place book (seating who seat a))).version ≢ 0
      told (inl same) =
          subst (λ p. (standing_at p (booking place book (seating who seat a))).version ≢ 0) (sym same)
          (subst (λ (x : BookView). x.standing.version ≢ 0) (sym (booked-same (seating who seat a) place book may.key))
          (has_version change (subst (λ p. (standing_at p a).version ≢ 0) same some)))
      told (inr apart) =
          subst (λ (x : BookView). x.standing.version ≢ 0) (sym (booked-other (seating who seat a) place other book may.key has apart)) some

      by : (t : Bool) → (standing_at other (booked_if t place book (seating who seat a))).version ≢ 0
      by true = told (elim (eqb_tells other place) [ inl e ↦ inl e.1 | inr e ↦ inr e.1 ])
      by false = some

  pub key-kept : (other : ℕ) → has_key other a ≡ true → KeepsKey a b other
  key-kept other has = (let h = keys-changed other has in (h.0, h.1, versions-changed other has))

  -- a settled wait stays, until it is ended
  pub settled-changed : is_end change ≡ false → (how : Settled) → HasSettled (seat_at who a) how → HasSettled seat how
  settled-changed = by change may
    where
      by : (c : Change) → May who place c a → is_end c ≡ false → (how : Settled) → HasSettled (seat_at who a) how
          → HasSettled (seat_after place c (seat_at who a)) how
      by (Gain mode) m stays how has = has
      by (Lose ticket) m stays how has = has
      by (Queue mode) m stays how has = absurd (none_settled (seat_at who a) how m.allows.0 has)
      by (Admit ticket) m stays how has = absurd (not_settled (seat_at who a) m.allows.2.0 how m.allows.2.1 m.allows.2.2 has)
      by (Settle other) m stays how has = absurd (not_settled (seat_at who a) m.allows.0.0 how m.allows.0.1 m.allows.0.2 has)
      by (Leave wait) m stays how has = cc
      by (Take_up wait) m stays how has = cc
      by (Alter ticket mode) m stays how has = has
      by (Fold old new) m stays how has = has
      by (Redefine ticket change) m stays how has = has

  -- where its session has the same after it, all do
  pub spares-changing : is_end change ≡ false → locks_of_seat seat ≡ locks_at a who → numbers_of_seat seat ≡ numbers_at a who → Spares a b
  spares-changing stays same numbers = record {
    sessions = sessions-changed;
    keys = key-kept;
    seats = λ w is. elim (eqb_tells w who) [
      | inl e ↦ subst (λ v. IsLike (seat_at v a) (seat_at v b)) (sym e.1) (subst (IsLike (seat_at who a)) (sym seat-changed) (record {
        own = same;
        numbers = numbers;
        settled = settled-changed stays;
      }))
      | inr e ↦ subst (IsLike (seat_at w a)) (sym (seat-other w is e.1)) (record { own = refl; numbers = refl; settled = λ how settled. settled })
    ];
  }
