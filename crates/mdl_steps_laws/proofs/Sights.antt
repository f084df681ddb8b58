-- Who sees no deadlock under all latches is in none.
use Rattle.std.proofs.Common.{◌≡◌, ◌≢◌, ℕ, suc, ◌+◌, ◌*◌, ◌%◌, ◌<◌, ◌≤◌, ◌==◌, ◌&&◌, ◌||◌, not, Bool, true, false, inl, inr, List, length, map, Some, sym, ap, ◌∙◌, subst, arith, eq-eqb, ne_eqb, Option, Contains, eqb-true}
use Rattle.mdl_graph.specs.WaitsFor.{SessionTest, holds_against, is_tied, is_unsettled, waits_ahead, waits_at, waits_for}
use Rattle.mdl_system.proofs.CycleLemmas.{cycle-from}
use Rattle.mdl_steps_laws.proofs.FirstLemmas.{BookView, Contains-append_cases, Contains-map, Contains-none, Definition, IsDeadlock, IsTold, KeyName, Keys, Kind, LatchRecord, Lock, Mine, OnlyMeets, Reached, SeesNoDeadlock, Slot, State, StepRecord, System, Ticket, View, Waiter, WaitsFor, WhoSeesNoDeadlockIsInNone, Wishes, and_from, and_parts, any-found, any-from, asks_there, at_inside, at_map, by_bool, clashes, code_of, desk_of, find-contains, find_key, found_in, get_elem?, granted_of, held_at, holder_at, in_book, is_some, kind_of, lock_kind, or_left, or_right, same_keys, settled_in, some, some-injective, ticket_of, unsettled_state, wait_state, wait_word, waits, waits_behind}
use Rattle.mdl_steps_laws.proofs.Askers.{askers_are_sessions}
use Rattle.mdl_steps_laws.proofs.FastRests.{waiters_have_no_fast_tickets}
use Rattle.mdl_steps_laws.proofs.MetWaits.{met_waits_stay}
use Rattle.mdl_steps_laws.proofs.Wells.{rule_of}

-- ---- ties

-- the place's latch is among these, and its book among those
abbrev pub IsAmong : List LatchRecord → List BookView → ℕ → Type 0
IsAmong latches books p = (h : LatchRecord) × (held_at p latches ≡ Some h) × Contains books h.book

-- a step in the list only met the word of the session's wait, which wasn't open, while the list's session had just the records of latches that it has now
abbrev pub WasMetSettled : ℕ → View → ℕ → Type 0
WasMetSettled slots v session =
    (e : StepRecord) × Contains v.log e × OnlyMeets e.kind × (e.word ≡ wait_word slots session) × (e.held ≡ v.latches) × (wait_state e.found ≢ unsettled_state)

-- a session holds the directory's latch, and those of the places of all its keys. These books have those of their records among them, and each of these
-- sessions is settled by a word that was met
module _ (s : State Slot View) (reached : Reached s) (id : ℕ) (v : View) (seat : get_elem? s.views id ≡ some v) (keys : Keys) (directory : v.directory ≡ Some keys)
    (books : List BookView) (all : (p : ℕ) → 0 < p → p ≤ length keys.keys → IsAmong v.latches books p)
    (settled : SessionTest) (met : (session : ℕ) → settled session ≡ true → WasMetSettled (length s.homes) v session)
    (a : System Definition) (told : IsTold s a) where
  keys_are : keys.keys ≡ (rule_of s reached).keys
  keys_are = ((rule_of s reached).directory_agrees.held id (desk_of v) (at_map desk_of s.views id v seat) keys directory).2

  -- the place of a key at which somebody waits, and its record
  pub record Here (key : KeyName) : Type 0 where
    pub i : ℕ
    pub at : get_elem? told.1.keys i ≡ some key
    pub inside : suc i < length s.homes
    pub latch : LatchRecord
    pub held : held_at (suc i) v.latches ≡ Some latch
    pub among : Contains books latch.book
    pub book : latch.book ≡ (told.0 key).book

  here : (key : KeyName) (w : Waiter) → Contains (a.waiting key) w → Here key
  here key w among = elim (find_key told.1.keys key) [
    | inl at ↦
        let same : told.1.keys ≡ keys.keys = same_keys s (rule_of s reached) told.1.keys told.1.keys_are ∙ sym keys_are in
        let below : at.0 < length told.1.keys = at_inside told.1.keys at.0 key at.1 in
        let many : length told.1.keys ≡ length keys.keys = ap length same in
        let fit : length (rule_of s reached).keys < length s.homes = (rule_of s reached).fit in
        let count : length keys.keys ≡ length (rule_of s reached).keys = ap length keys_are in
        let h = all (suc at.0) (omega arith) (omega arith) in
        record {
          i = at.0;
          at = at.1;
          inside = omega arith;
          latch = h.0;
          held = h.1;
          among = h.2;
          book = (told.1.book_is at.0 key at.1).taken id v seat h.0 h.1;
        }
    | inr none ↦ absurd (Contains-none w.ticket (subst (λ (l : Lock). Contains l.book.waiting w.ticket) (told.1.without_place key none)
        (subst (λ (ts : List Ticket). Contains ts w.ticket) (told.2.waiting key) (Contains-map (λ (x : Waiter). x.ticket) (a.waiting key) w among))))
  ]

  waits_there : (key : KeyName) (w : Waiter) (p : Here key) → Contains (a.waiting key) w → Contains p.latch.book.waiting w.ticket
  waits_there key w p among =
      subst (λ (ts : List Ticket). Contains ts w.ticket) (told.2.waiting key ∙ ap (λ (b : BookView). b.waiting) (sym p.book)) (Contains-map (λ (x : Waiter). x.ticket) (a.waiting key) w among)

  kind_is : (key : KeyName) (p : Here key) → lock_kind p.latch.book ≡ kind_of key.namespace
  kind_is key p = ap lock_kind p.book ∙ ap (λ (k : KeyName). kind_of k.namespace) (told.2.keyed key)

  -- an open wait isn't settled by the words
  open_ : (key : KeyName) (w : Waiter) (session : ℕ) → Wishes a session key w → settled session ≡ false
  open_ key w session (among, own, unsettled) = by_bool (settled session) (λ closed. absurd (never (here key w among) closed)) (λ still. still)
    where
      one_view : (n : ℕ) → 0 < n → (j k : ℕ) (x u : View) → get_elem? s.views j ≡ some x → get_elem? s.views k ≡ some u → x.number ≡ n → u.number ≡ n → x ≡ u
      one_view n some_n j k x u at at′ is is′ =
          let same : j ≡ k = (rule_of s reached).enrolled.apart j k n (at_map (λ (y : View). y.number) s.views j x at ∙ ap (λ (i : ℕ). some i) is)
          (at_map (λ (y : View). y.number) s.views k u at′ ∙ ap (λ (i : ℕ). some i) is′) some_n in
          some-injective x u (sym (subst (λ (i : ℕ). get_elem? s.views i ≡ some x) same at) ∙ at′)

      never : (q : Here key) → settled session ≡ true → ⊥
      never q closed =
          let was = met session closed in
          let there : Contains q.latch.book.waiting w.ticket = waits_there key w q among in
          let u = found_in q.latch.book.waiting w.ticket there in
          let same_number : ticket_of session w.ticket.number q.latch.book.waiting ≡ Some u.0 = subst (λ (n : ℕ). ticket_of n w.ticket.number q.latch.book.waiting ≡ Some u.0) own u.1 in
          let first : 0 < suc q.i = omega arith in
          let book_is = (((rule_of s reached).places (suc q.i) first q.inside).held id (holder_at (suc q.i) v) (at_map (holder_at (suc q.i)) s.views id v seat) q.latch q.held).book_is in
          let asks = asks_there s (rule_of s reached) (suc q.i) first q.inside session w.ticket.number u.0 (ap (λ (b : BookView). ticket_of session w.ticket.number b.waiting) (sym book_is) ∙ same_number) in
          let some_session : 0 < session = subst (λ (n : ℕ). 0 < n) asks.4 (askers_are_sessions s reached asks.0 asks.1 asks.2 asks.3 asks.5) in
          let stays = met_waits_stay s reached id v seat was.0 was.1 (suc q.i) session w.ticket.number (first, q.inside) some_session (record {
            kind = was.2;
            word = was.3;
            latch = q.latch;
            held = ap (held_at (suc q.i)) was.4 ∙ q.held;
            waits = ap (λ (o : Option Ticket). is_some o) same_number;
          }) in
          let same_view : stays.1 ≡ asks.1 = one_view session some_session stays.0 asks.0 stays.1 asks.1 stays.2 asks.3 stays.3 asks.4 in
          let facts = stays.5 asks.2 (ap (λ (x : View). x.asks) same_view ∙ asks.5) asks.7 in
          let word_is : waits s session ≡ 8 * w.wait + code_of w.state = ap (waits s) (sym own) ∙ told.3.waiting key w among in
          let code : code_of w.state ≡ 1 = ap code_of unsettled in
          facts.1 was.5 (omega arith)

  -- a tie into a session that has one on is one by the books: that session waits, so it has no fast ticket
  pub tied : (x y z : ℕ) → WaitsFor a x y → WaitsFor a y z → waits_for settled books x y ≡ true
  tied x y z (apart, (key, wish, own, against)) (_, (at, its, wish_of_y, _)) =
      let p = here key wish own.0 in
      let ticket : Ticket = wish.ticket in
      let there = waits_there key wish p own.0 in
      let not_self : not (ticket.session == y) ≡ true = ap not (ne_eqb ticket.session y (λ e. apart (sym own.1 ∙ e))) in
      let way : (holds_against p.latch.book ticket.mode y || waits_ahead settled p.latch.book ticket.mode y) ≡ true = elim against [
        | inl held ↦ or_left (holds_against p.latch.book ticket.mode y) (waits_ahead settled p.latch.book ticket.mode y) (
            let among : Contains (granted_of (told.0 key)) (in_book held.0) = subst (λ (k : KeyName). Contains (granted_of (told.0 k)) (in_book held.0)) held.2 ((told.2.granted held.0).0 held.1) in
            let listed : Contains p.latch.book.granted (in_book held.0) = elim (Contains-append_cases (told.0 key).fast (told.0 key).book.granted (in_book held.0) among) [
              | inl fast ↦ absurd ((waiters_have_no_fast_tickets s (rule_of s reached) a told key (in_book held.0) fast).0 at its wish_of_y.0 (wish_of_y.1 ∙ sym held.3))
              | inr slow ↦ subst (λ (b : BookView). Contains b.granted (in_book held.0)) (sym p.book) slow
            ] in
            any-from (λ (t : Ticket). t.session == y && clashes (lock_kind p.latch.book) ticket.mode t.mode) p.latch.book.granted (in_book held.0) listed
            (and_from (held.0.session == y) (clashes (lock_kind p.latch.book) ticket.mode held.0.mode) (eq-eqb held.0.session y held.3) (ap (λ (k : Kind). clashes k ticket.mode held.0.mode) (kind_is key p) ∙ held.4)))
        | inr ahead ↦ or_right (holds_against p.latch.book ticket.mode y) (waits_ahead settled p.latch.book ticket.mode y) (
            and_from (is_unsettled settled y) _ (ap not (open_ key ahead.0 y ahead.1))
            (any-from (λ (t : Ticket). t.session == y && waits_behind (lock_kind p.latch.book) ticket.mode t.mode) p.latch.book.waiting ahead.0.ticket (waits_there key ahead.0 p ahead.1.0)
            (and_from (ahead.0.ticket.session == y) _ (eq-eqb ahead.0.ticket.session y ahead.1.1) (ap (λ (k : Kind). waits_behind k ticket.mode ahead.0.ticket.mode) (kind_is key p) ∙ ahead.2))))
      ] in
      any-from (λ (b : BookView). waits_at settled b x y) books p.latch.book p.among
      (and_from (is_unsettled settled x) _ (ap not (open_ key wish x own))
      (any-from (λ (t : Ticket). t.session == x && is_tied settled p.latch.book y t) p.latch.book.waiting ticket there
      (and_from (ticket.session == x) _ (eq-eqb ticket.session x own.1) (and_from (not (ticket.session == y)) _ not_self way))))

-- ---- cycles

module _ (s : State Slot View) (reached : Reached s) (id : ℕ) (m : Mine) (seat : get_elem? s.views id ≡ some m.0) (sees : SeesNoDeadlock (length s.homes) m)
    (a : System Definition) (told : IsTold s a) where
  abbrev books : List BookView
  books = map (λ (h : LatchRecord). h.book) m.0.latches

  all : (p : ℕ) → 0 < p → p ≤ length sees.keys.keys → IsAmong m.0.latches books p
  all p first last =
      let h = sees.all p first last in
      (h.0, h.1, Contains-map (λ (x : LatchRecord). x.book) m.0.latches h.0 (find-contains (λ (x : LatchRecord). x.place == p) m.0.latches h.0 h.1))

  met : (session : ℕ) → settled_in sees.words session ≡ true → WasMetSettled (length s.homes) m.0 session
  met session settled =
      let found = any-found (λ (x : ℕ × ℕ). x.0 == session && not (x.1 % 8 == 1)) sees.words settled in
      let parts = and_parts (found.0.0 == session) (not (found.0.1 % 8 == 1)) found.2 in
      let was = sees.met found.0 found.1 in (
        was.0,
        was.1,
        was.2,
        was.3 ∙ ap (wait_word (length s.homes)) (eqb-true found.0.0 session parts.0),
        was.5,
        λ is. false_true (sym (ap (λ (n : ℕ). not (n == 1)) (ap (λ (n : ℕ). n % 8) (sym was.4) ∙ is)) ∙ parts.1),
      )
    where
      false_true : ◌≡◌ {A = Bool} false true → ⊥
      false_true e = cc

  pub in_none : (cycle : List ℕ) → IsDeadlock a m.0.number cycle → ⊥
  in_none cycle is =
      let passes = tied s reached id m.0 seat sees.keys sees.directory books all (settled_in sees.words) met a told in
      sees.none cycle (cycle-from (waits_for (settled_in sees.words) books) (WaitsFor a) passes m.0.number cycle is)

pub who_sees_no_deadlock_is_in_none : WhoSeesNoDeadlockIsInNone
who_sees_no_deadlock_is_in_none s reached id m seat sees a told cycle is = in_none s reached id m seat sees a told cycle is
