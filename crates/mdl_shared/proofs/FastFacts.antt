-- What a session with fast tickets, or one that asks for one, gives the steps of its fast path.
use Rattle.std.proofs.Common.{◌≡◌, ◌≢◌, ℕ, ◌<◌, ◌==◌, Bool, true, List, [], ◌∷◌, filter, map, length, is_some, Option, Some, None, refl, sym, ap, subst, ◌∙◌, arith, eq-eqb, eqb-true}
use Rattle.mdl_book.specs.Tickets.{ticket_of}
use Rattle.mdl_shared.proofs.FirstLemmas.{Differ, IsCounted, IsOther, Kind, KnownKey, KnowsKind, LatchRecord, Lists, MayReleaseFast, MayVisit, Member, Mode, Once, SessionTicket, SessionView, and_parts, are_counted, by_bool, counted_mode, counted_so, differ, each-filtered, fast-alone, has_pin, held_at, increment_at, increment_of, is_mode_of, is_no_number, is_own, kind_known, kind_pinned, kind_place, kind_there, lt-leb, may-visit, member, most_numbers, moved, none-struck, numbered, option_and_then, own_at, pinned-kind, ticket_by, unwrap_or, view_of, wish_fault, without_at}

-- ---- modes that the word counts

-- the session has looked up the key of the place, by whose kind the word counts the mode
kind-counted : (place : ℕ) (mode : Mode) (known : List KnownKey) (one : ℕ) → increment_at place mode known ≡ Some one
    → (kind : Kind) × (kind_known place known ≡ Some kind) × (increment_of kind mode ≡ Some one)
kind-counted place mode known one counted = by (kind_known place known) refl counted
  where
    by : (o : Option Kind) → kind_known place known ≡ o → option_and_then (λ kind. increment_of kind mode) o ≡ Some one
        → (kind : Kind) × (kind_known place known ≡ Some kind) × (increment_of kind mode ≡ Some one)
    by None e counts = absurd (cc)
    by (Some kind) e counts = (kind, e, counts)

-- a wish for it has no fault where the session waits for nothing and has numbers left
no-fault : (kind : Kind) (mode : Mode) (next : ℕ) → is_mode_of kind mode ≡ true → next < most_numbers → wish_fault (Some kind) None mode next ≡ None
no-fault kind mode next fits some = rw fits (rw (lt-leb most_numbers next some) refl)

-- ---- a fast ticket is asked for

-- the session may ask for one: it waits for nothing, the word of the place counts the mode, and its wish at the place, which it pins, has no fault
pub record MayAskFast (place : ℕ) (mode : Mode) (one : ℕ) (s : SessionView) : Type 0 where
  pub idle : s.me.0.asks ≡ None
  pub counted : increment_at place mode s.me.0.known ≡ Some one
  pub counted_so : IsCounted s.me.0 place mode one
  pub at : MayVisit place (record { table = s.table; me = s.me })
  pub clear : wish_fault (kind_pinned place s.pins s.me.0.known) s.me.0.asks mode s.me.0.next ≡ None

pub may-ask-fast : (m : Member) (place : ℕ) (mode : Mode) (one : ℕ) → m.asks ≡ None → has_pin place m.known.pins ≡ true → increment_at place mode m.known.known ≡ Some one → m.next < most_numbers
    → MayAskFast place mode one (view_of m)
may-ask-fast m place mode one none pinned counts some =
    let idle : m.seat.me.0.asks ≡ None = sym (ap (λ (l : Lists). l.asks) m.lists) ∙ none in
    let counted : increment_at place mode m.seat.me.0.known ≡ Some one = ap (λ (l : Lists). increment_at place mode l.known) (sym m.lists) ∙ counts in
    let kind = kind-counted place mode m.seat.me.0.known one counted in
    let left : m.seat.me.0.next < most_numbers = subst (λ (n : ℕ). n < most_numbers) (ap (λ (l : Lists). l.next) m.lists) some in
    let fits = (counted_mode kind.0 mode one kind.2).1 in record {
      idle = idle;
      counted = counted;
      counted_so = counted_so m.seat.me.0 place mode one counted;
      at = may-visit (member m) place (kind_place place kind.0 m.seat.me.0.known kind.1);
      clear = (λ i. wish_fault (pinned-kind place m.known.pins m.seat.me.0.known pinned kind.1 i) (idle i) mode m.seat.me.0.next) ∙ no-fault kind.0 mode m.seat.me.0.next fits left;
    }

-- ---- fast tickets that it has

-- each is counted, so the session has looked up the key of its place
some-kind : (place : ℕ) (mode : Mode) (known : List KnownKey) → is_some (increment_at place mode known) ≡ true → is_some (kind_known place known) ≡ true
some-kind place mode known counts = by (kind_known place known) counts
  where
    by : (o : Option Kind) → is_some (option_and_then (λ kind. increment_of kind mode) o) ≡ true → is_some o ≡ true
    by None counts = counts
    by (Some kind) counts = refl

pub counted-found : (known : List KnownKey) (id : ℕ) (fast : List SessionTicket) (t : SessionTicket) → numbered id fast ≡ Some t → are_counted known fast ≡ true
    → is_some (increment_at t.place t.mode known) ≡ true
counted-found known id [] t its all = absurd (cc)
counted-found known id (f ∷ fs) t its all =
    let parts = and_parts (is_some (increment_at f.place f.mode known)) (are_counted known fs) all in
    by_bool (f.number == id)
    (λ hit. let found = rw hit at its in let is : f ≡ t = cc in ap (λ (u : SessionTicket). is_some (increment_at u.place u.mode known)) (sym is) ∙ parts.0)
    (λ miss. counted-found known id fs t (rw miss at its) parts.1)

-- the kind that is known
known-kind : (o : Option Kind) → is_some o ≡ true → (kind : Kind) × (o ≡ Some kind)
known-kind None some = absurd (cc)
known-kind (Some kind) some = (kind, refl)

-- one of a number is the only one
none-own : (place number : ℕ) (t : SessionTicket) (fast : List SessionTicket) → t.number ≡ number → IsOther t fast → filter (is_own place number) fast ≡ []
none-own place number t [] its other = refl
none-own place number t (f ∷ fs) its other =
    by_bool (f.number == number)
    (λ same. absurd (other.0 (eqb-true f.number number same ∙ sym its)))
    (λ differ. by_bool (f.place == place) (λ here. rw (here, differ) (none-own place number t fs its other.1)) (λ there. rw there (none-own place number t fs its other.1)))

only-own : (number : ℕ) (t : SessionTicket) (fast : List SessionTicket) → Differ fast → numbered number fast ≡ Some t → filter (is_own t.place number) fast ≡ t ∷ []
only-own number t [] differ its = absurd (cc)
only-own number t (f ∷ fs) differ its =
    by_bool (f.number == number)
    (λ hit.
    let found = rw hit at its in
    let is : f ≡ t = cc in
    let here = eq-eqb f.place t.place (ap (λ (u : SessionTicket). u.place) is) in
    rw (here, hit) (ap (λ (us : List SessionTicket). f ∷ us) (none-own t.place number f fs (eqb-true f.number number hit) differ.0) ∙ ap (λ (u : SessionTicket). u ∷ []) is))
    (λ miss. by_bool (f.place == t.place)
    (λ here. rw (here, miss) (only-own number t fs differ.1 (rw miss at its)))
    (λ there. rw there (only-own number t fs differ.1 (rw miss at its))))

-- without a latch there is no record of one
unheld : (place : ℕ) (latches : List LatchRecord) → length latches ≡ 0 → held_at place latches ≡ None
unheld place [] none = refl
unheld place (h ∷ hs) none = absurd (omega arith)

-- a fast ticket may be released
pub may-release : (m : Member) (t : SessionTicket) (one : ℕ) → numbered t.number m.tickets.fast ≡ Some t → increment_at t.place t.mode m.known.known ≡ Some one
    → MayReleaseFast t.place t.number one m.seat.me
may-release m t one held counts = record {
  apart = unheld t.place m.seat.me.0.latches (member m).idle.0;
  ticket = t;
  only = only-own t.number t m.seat.me.0.fast (differ (member m)) (ap (λ (l : Lists). numbered t.number l.fast) (sym m.lists) ∙ held);
  counted_so = counted_so m.seat.me.0 t.place t.mode one (ap (λ (l : Lists). increment_at t.place t.mode l.known) (sym m.lists) ∙ counts);
}

-- no slow one goes with it
pub fast-struck : (m : Member) (t : SessionTicket) {slow : List SessionTicket} → numbered t.number m.tickets.fast ≡ Some t → slow ≡ without_at t.place t.number m.tickets.slow → slow ≡ m.tickets.slow
fast-struck m t held struck =
    let none = fast-alone (member m) t.number t (ap (λ (l : Lists). numbered t.number l.fast) (sym m.lists) ∙ held) in
    struck ∙ none-struck t.place t.number m.tickets.slow (ap (λ (l : Lists). is_no_number t.number l.slow) m.lists ∙ none)

-- the session may go to the place of one
pub fast-place : (m : Member) (t : SessionTicket) → numbered t.number m.tickets.fast ≡ Some t → MayVisit t.place m.seat
fast-place m t held =
    let is = member m in
    let counts = counted-found m.seat.me.0.known t.number m.seat.me.0.fast t (ap (λ (l : Lists). numbered t.number l.fast) (sym m.lists) ∙ held) is.plain in
    let kind = known-kind (kind_known t.place m.seat.me.0.known) (some-kind t.place t.mode m.seat.me.0.known counts) in
    may-visit is t.place (kind_place t.place kind.0 m.seat.me.0.known kind.1)

-- what the word counts one by
counted-by : (o : Option Kind) (mode : Mode) → is_some (option_and_then (λ kind. increment_of kind mode) o) ≡ true
    → option_and_then (λ kind. increment_of kind mode) o ≡ Some (unwrap_or (option_and_then (λ kind. increment_of kind mode) o) 0)
counted-by o mode counts = some (option_and_then (λ kind. increment_of kind mode) o) counts
  where
    some : (n : Option ℕ) → is_some n ≡ true → n ≡ Some (unwrap_or n 0)
    some None e = absurd (cc)
    some (Some one) e = refl

-- that is its weight, where each kind that counts the mode counts it by the weight
pub by-weight : (place : ℕ) (mode : Mode) (known : List KnownKey) (weight : ℕ) → is_some (increment_at place mode known) ≡ true
    → ((kind : Kind) (one : ℕ) → increment_of kind mode ≡ Some one → weight ≡ one) → increment_at place mode known ≡ Some weight
by-weight place mode known weight counts weighs =
    let one = unwrap_or (increment_at place mode known) 0 in
    let is = counted-by (kind_known place known) mode counts in
    let kind = kind-counted place mode known one is in
    is ∙ ap Some (sym (weighs kind.0 one kind.2))

-- the word counts each fast ticket
pub fast-counted : (m : Member) (t : SessionTicket) → numbered t.number m.tickets.fast ≡ Some t → is_some (increment_at t.place t.mode m.known.known) ≡ true
fast-counted m t held = counted-found m.known.known t.number m.tickets.fast t held (ap (λ (l : Lists). are_counted l.known l.fast) m.lists ∙ (member m).plain)

-- what makes those of a place slow
pub record MayMakeSlow (place : ℕ) (kind : Kind) (s : SessionView) : Type 0 where
  pub at : MayVisit place (record { table = s.table; me = s.me })
  pub knows : KnowsKind s.me.0 place kind
  pub once : Once (moved place s.me.0)

-- in a book each stands once
differ-filtered : (keep : SessionTicket → Bool) (ts : List SessionTicket) → Differ ts → Differ (filter keep ts)
differ-filtered keep [] differ = tt
differ-filtered keep (t ∷ ts) differ =
    by_bool (keep t)
    (λ stays. rw stays (each-filtered (λ (u : SessionTicket). u.number ≢ t.number) keep ts differ.0, differ-filtered keep ts differ.1))
    (λ goes. rw goes (differ-filtered keep ts differ.1))

unlisted : (session : ℕ) (t : SessionTicket) (ts : List SessionTicket) → IsOther t ts → ticket_of session t.number (map (ticket_by session) ts) ≡ None
unlisted session t [] other = refl
unlisted session t (u ∷ us) other =
    by_bool (u.number == t.number)
    (λ same. absurd (other.0 (eqb-true u.number t.number same)))
    (λ differ. rw (eq-eqb session session refl, differ) (unlisted session t us other.1))

listed-once : (session : ℕ) (ts : List SessionTicket) → Differ ts → Once (map (ticket_by session) ts)
listed-once session [] apart = tt
listed-once session (t ∷ ts) apart = (unlisted session t ts apart.0, listed-once session ts apart.1)

pub may-make-slow : (m : Member) (place : ℕ) (kind : Kind) → kind_known place m.known.known ≡ Some kind → MayMakeSlow place kind (view_of m)
may-make-slow m place kind knows =
    let is = member m in
    let known = ap (λ (l : Lists). kind_known place l.known) (sym m.lists) ∙ knows in record {
      at = may-visit is place (kind_place place kind m.seat.me.0.known known);
      knows = kind_there place kind m.seat.me.0.known known;
      once = listed-once m.seat.me.0.number (own_at place m.seat.me.0.fast) (differ-filtered (λ (t : SessionTicket). t.place == place) m.seat.me.0.fast (differ is));
    }

-- those of a place in its own list are those of its view
pub some-seen : (m : Member) (place : ℕ) → 0 < length (own_at place m.tickets.fast) → own_at place m.seat.me.0.fast ≢ []
some-seen m place some none =
    let same = ap (λ (l : Lists). length (own_at place l.fast)) m.lists in
    let empty = ap (λ (ts : List SessionTicket). length ts) none in
    omega (arith, some, same, empty)
