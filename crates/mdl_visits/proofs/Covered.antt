-- A session that has a ticket gains a mode that this one covers.
use Rattle.std.proofs.Common.{◌≡◌, ℕ, ◌+◌, ◌<◌, ◌==◌, Bool, true, false, not, ◌&&◌, ◌||◌, List, [], ◌∷◌, length, map, Some, refl, sym, ap, ◌∙◌, subst, arith, Contains, is_some, OnOk, Result, Ok, Err, eq-eqb, lt-ltb}
use Rattle.mdl_key.proofs.MatrixLemmas.{each_mode, at_least-exact}
use Rattle.mdl_key.specs.declared.namespace.Kind.TheVariants.{Scoped, Object}
use Rattle.mdl_system.proofs.LawfulLemmas.{implied}
use Rattle.mdl_visits.proofs.Common.{AllPass-from_list_all, Alter, BookError, FitsAt, Flagged, Gain, IsAtLeast, IsFresh, KeyName, Kind, LatchRecord, Mine, Mode, NotWaited, RefusesJust, SessionTicket, TellsLists, Ticket, all_modes, and_from, and_right, any_obtrusive, booked, by_bool, change_fault, covers, covers-at_least, find-contains, is_at_least, is_compatible, is_lawful, is_mode_of, is_obtrusive, is_ticket, kind_of, list_all, list_any, list_any-append, lock_kind, may_downgrade, may_stand, may_stand-none, numbered, or_left, or_right, own_at, ticket_by, ticket_of, weaker_stands, with_mode, with_mode-hit, with_mode-miss, written}

-- by the record of a latch that was just taken: the mode is one of the lock's kind, and the session has a granted ticket that is at least as
-- strong
pub record IsCovered (session : ℕ) (mode : Mode) (h : LatchRecord) : Type 0 where
  pub is_mode : is_mode_of (lock_kind h.book) mode ≡ true
  pub stronger : Ticket
  pub there : Contains h.book.granted stronger
  pub own : stronger.session ≡ session
  pub at_least : IsAtLeast (lock_kind h.book) stronger.mode mode
  pub lawful : is_lawful (lock_kind h.book) h.book.granted ≡ true
  pub exact : TellsLists h.book h.slow h.obtrusive

-- ---- the session's ticket in the book

-- the first of its tickets that has a number is found among those of its place
own_listed : (who number : ℕ) (t : SessionTicket) (slow : List SessionTicket) → numbered number slow ≡ Some t → ticket_of who number (map (ticket_by who) (own_at t.place slow)) ≡ Some (ticket_by who t)
own_listed who number t [] e = absurd (cc)
own_listed who number t (x ∷ xs) e =
    by_bool (x.number == number)
    (λ hit.
    let found = rw hit at e in
    let is : x ≡ t = cc in
    let here : (x.place == t.place) ≡ true = eq-eqb x.place t.place (ap (λ (o : SessionTicket). o.place) is) in
    let test : is_ticket who number (ticket_by who x) ≡ true = and_from _ _ (eq-eqb who who refl) hit in
    rw (here, test) (ap (λ (o : SessionTicket). Some (ticket_by who o)) is))
    (λ miss.
    let rest = own_listed who number t xs (rw miss at e) in
    let test : is_ticket who number (ticket_by who x) ≡ false = and_right (who == who) (x.number == number) miss in
    by_bool (x.place == t.place)
    (λ here. rw (here, test) rest)
    (λ away. rw away rest))

-- so it stands in the book that is met under the latch
pub own_there : (who number : ℕ) (t : SessionTicket) (h : LatchRecord) (m : Mine) → m.0.number ≡ who → IsFresh t.place h m → NotWaited m.0 number → numbered number m.0.slow ≡ Some t
    → ticket_of who number h.book.granted ≡ Some (ticket_by who t)
own_there who number t h m mine fresh unwaited found =
    subst (λ (w : ℕ). ticket_of w number h.book.granted ≡ Some (ticket_by w t)) mine
    (fresh.own number unwaited ∙ own_listed m.0.number number t m.0.slow found)

-- a mode that fits the session's key is one of the lock's
pub fits_lock : (place : ℕ) (mode : Mode) (h : LatchRecord) (m : Mine) → IsFresh place h m → FitsAt m.0 place mode → is_mode_of (lock_kind h.book) mode ≡ true
fits_lock place mode h m fresh fits =
    ap (λ (key : KeyName). is_mode_of (kind_of key.namespace) mode) (fresh.named fits.0 fits.1 fits.2 fits.3) ∙ fits.4

-- and the ticket's own mode is one, too
pub own_mode : (place who number : ℕ) (t : SessionTicket) (h : LatchRecord) (m : Mine) → IsFresh place h m → ticket_of who number h.book.granted ≡ Some (ticket_by who t) → is_mode_of (lock_kind h.book) t.mode ≡ true
own_mode place who number t h m fresh found =
    let test : Ticket → Bool = λ x. is_mode_of (lock_kind h.book) x.mode in
    let there = find-contains (is_ticket who number) h.book.granted (ticket_by who t) found in
    subst (λ (x : Ticket). test x ≡ true) there.2 (AllPass-from_list_all test h.book.granted fresh.modes there.0 (ticket_by who t) there.1)

-- whether a mode that another may be brought down to is covered by it
abbrev lowers : Mode → Mode → Bool
lowers held mode = not (may_downgrade held mode) || covers held mode

lowers_all : list_all (λ held. list_all (lowers held) all_modes) all_modes ≡ true
lowers_all = refl

pub downgrade-covered : (held mode : Mode) → may_downgrade held mode ≡ true → covers held mode ≡ true
downgrade-covered held mode may = implied _ _ (each_mode (lowers held) (each_mode (λ h. list_all (lowers h) all_modes) lowers_all held) mode) may

-- by it a mode is covered
pub covered_by : (place who number : ℕ) (t : SessionTicket) (mode : Mode) (h : LatchRecord) (m : Mine) → IsFresh place h m → ticket_of who number h.book.granted ≡ Some (ticket_by who t)
    → covers t.mode mode ≡ true → is_mode_of (lock_kind h.book) mode ≡ true → IsCovered who mode h
covered_by place who number t mode h m fresh found strong is_mode = record {
  is_mode = is_mode;
  stronger = ticket_by who t;
  there = find-contains (is_ticket who number) h.book.granted (ticket_by who t) found;
  own = refl;
  at_least = covers-at_least (lock_kind h.book) t.mode mode (own_mode place who number t h m fresh found) is_mode strong;
  lawful = fresh.lawful;
  exact = fresh.exact;
}

-- and its own mode is
pub covered_by_own : (place who number : ℕ) (t : SessionTicket) (h : LatchRecord) (m : Mine) → IsFresh place h m → ticket_of who number h.book.granted ≡ Some (ticket_by who t) → IsCovered who t.mode h
covered_by_own place who number t h m fresh found = record {
  is_mode = own_mode place who number t h m fresh found;
  stronger = ticket_by who t;
  there = find-contains (is_ticket who number) h.book.granted (ticket_by who t) found;
  own = refl;
  at_least = λ held clash. clash;
  lawful = fresh.lawful;
  exact = fresh.exact;
}

-- ---- flags

-- what is at least as strong as an obtrusive mode is obtrusive
abbrev is_as_obtrusive : Kind → Mode → Mode → Bool
is_as_obtrusive kind strong weak = not (is_mode_of kind weak && (is_at_least kind strong weak && is_obtrusive kind weak)) || is_obtrusive kind strong

as_obtrusive_kind : (kind : Kind) → list_all (λ strong. list_all (is_as_obtrusive kind strong) all_modes) all_modes ≡ true
as_obtrusive_kind Scoped = refl
as_obtrusive_kind Object = refl

as_obtrusive : (kind : Kind) (strong weak : Mode) → is_mode_of kind weak ≡ true → IsAtLeast kind strong weak → is_obtrusive kind weak ≡ true → is_obtrusive kind strong ≡ true
as_obtrusive kind strong weak is_mode at_least obtrusive =
    implied _ _ (each_mode (is_as_obtrusive kind strong) (each_mode (λ s. list_all (is_as_obtrusive kind s) all_modes) (as_obtrusive_kind kind) strong) weak)
    (and_from _ _ is_mode (and_from _ _ ((at_least-exact kind strong weak).1 at_least) obtrusive))

-- one that passes is among them
any_there : (p : Ticket → Bool) (ts : List Ticket) (t : Ticket) → Contains ts t → p t ≡ true → list_any p ts ≡ true
any_there p ts t there passes =
    by_bool (list_any p ts)
    (λ some. some)
    (λ none.
    let fails = AllPass-from_list_all (λ x. not (p x)) ts (none_pass ts none) there.0 t there.1 in
    let fails_here : not (p t) ≡ true = subst (λ (x : Ticket). not (p x) ≡ true) there.2 fails in
    let never : not true ≡ true = rw passes at fails_here in
    absurd (cc))
  where
    none_pass : (xs : List Ticket) → list_any p xs ≡ false → list_all (λ x. not (p x)) xs ≡ true
    none_pass [] e = refl
    none_pass (x ∷ xs) e =
        by_bool (p x)
        (λ yes. let first = rw yes at e in absurd (cc))
        (λ no. let later = rw no at e in rw no (none_pass xs later))

module _ (who : ℕ) (mode : Mode) (h : LatchRecord) (covered : IsCovered who mode h) where
  abbrev kind : Kind
  kind = lock_kind h.book

  -- the flags tell of the stronger ticket
  slow_up : h.slow ≡ true
  slow_up =
      let inside = covered.there.1 in
      let some : 0 < length h.book.granted + length h.book.waiting = omega arith in
      covered.exact.0 ∙ lt-ltb 0 (length h.book.granted + length h.book.waiting) some

  granted_obtrusive : is_obtrusive kind mode ≡ true → any_obtrusive kind h.book.granted ≡ true
  granted_obtrusive obtrusive = any_there (λ t. is_obtrusive kind t.mode) h.book.granted covered.stronger covered.there (as_obtrusive kind covered.stronger.mode mode covered.is_mode covered.at_least obtrusive)

  flag_up : any_obtrusive kind h.book.granted ≡ true → h.obtrusive ≡ true
  flag_up some = covered.exact.1 ∙ or_left (any_obtrusive kind h.book.granted) (any_obtrusive kind h.book.waiting) some

  waiting_up : any_obtrusive kind h.book.waiting ≡ true → h.obtrusive ≡ true
  waiting_up some = covered.exact.1 ∙ or_right (any_obtrusive kind h.book.granted) _ some

  -- nothing else that is granted clashes with the mode
  pub stands : may_stand kind h.book.granted 0 who mode ≡ true
  stands =
      let test : Ticket → Bool = λ a. is_compatible kind h.book.granted a.session a.mode in
      let there = covered.there in
      let beside : test covered.stronger ≡ true = subst (λ (t : Ticket). test t ≡ true) there.2 (AllPass-from_list_all test h.book.granted covered.lawful there.0 covered.stronger there.1) in
      may_stand-none kind h.book.granted who mode
      ∙ weaker_stands kind who covered.stronger.mode mode covered.at_least h.book.granted
      (subst (λ (s : ℕ). is_compatible kind h.book.granted s covered.stronger.mode ≡ true) covered.own beside)

  -- flags that told the lists tell them still, with a ticket in the mode
  pub altered_flagged : (number : ℕ) → Flagged (booked who (Alter number mode) h.book) h.slow h.obtrusive
  altered_flagged number = (
    (λ some. slow_up),
    λ some.
        by_bool (any_obtrusive kind h.book.granted)
        flag_up
        (λ none.
        by_bool (is_obtrusive kind mode)
        (λ loud. flag_up (granted_obtrusive loud))
        (λ calm.
        by_bool (any_obtrusive kind h.book.waiting)
        (λ waits. waiting_up waits)
        (λ nobody.
        let granted = first_of (any_obtrusive kind (with_mode who number mode h.book.granted)) (any_obtrusive kind h.book.waiting) nobody some in
        flag_up (any_mode number calm h.book.granted granted)))),
  )
    where
      first_of : (a b : Bool) → b ≡ false → (a || b) ≡ true → a ≡ true
      first_of true b none e = refl
      first_of false b none e = absurd (cc)

      any_mode : (number : ℕ) → is_obtrusive kind mode ≡ false → (ts : List Ticket) → any_obtrusive kind (with_mode who number mode ts) ≡ true → any_obtrusive kind ts ≡ true
      any_mode number calm [] e = e
      any_mode number calm (t ∷ ts) e =
          by_bool (is_ticket who number t)
          (λ hit. let rest = sym (ap (any_obtrusive kind) (with_mode-hit who number mode t ts hit)) ∙ e in let later = rw calm at rest in or_right (is_obtrusive kind t.mode) _ later)
          (λ miss.
          let rest = sym (ap (any_obtrusive kind) (with_mode-miss who number mode t ts miss)) ∙ e in
          by_bool (is_obtrusive kind t.mode)
          (λ loud. rw loud refl)
          (λ quiet. let later = rw quiet at rest in rw quiet (any_mode number calm ts later)))

  -- with a ticket more in the mode they do, too
  pub gained_flagged : (number : ℕ) → Flagged (booked who (Gain number mode) h.book) h.slow h.obtrusive
  gained_flagged number = (
    (λ some. slow_up),
    λ some.
        by_bool (any_obtrusive kind h.book.granted)
        flag_up
        (λ none.
        by_bool (is_obtrusive kind mode)
        (λ loud. flag_up (granted_obtrusive loud))
        (λ calm.
        by_bool (any_obtrusive kind h.book.waiting)
        (λ waits. waiting_up waits)
        (λ nobody.
        let t : Ticket = record { session = who; number = number; mode = mode } in
        let is = list_any-append (λ (x : Ticket). is_obtrusive kind x.mode) h.book.granted (t ∷ []) in
        let never = rw (is, none, calm, nobody) at some in
        absurd (cc)))),
  )

  -- another mode of a ticket that is there was written
  pub altered : {P : Type 0} (number : ℕ) (result : Result Unit BookError) → is_some (ticket_of who number h.book.granted) ≡ true
      → RefusesJust (change_fault who number mode 0 h.book) result → OnOk result P → P
  altered number (Ok done) there refuses written = written
  altered number (Err e) there refuses written = let never = rw (there, stands) at refuses in absurd (cc)
