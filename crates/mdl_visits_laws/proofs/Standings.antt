-- Books under latches tell which sessions stand behind which, and with what weights.
use Rattle.std.proofs.Common.{◌≡◌, ◌≢◌, ℕ, suc, ◌-◌, ◌<◌, ◌==◌, ◌&&◌, ◌||◌, not, Bool, true, inl, inr, List, [], ◌∷◌, Some, None, refl, sym, ap, ◌∙◌, subst, arith, Contains, Option, eq-eqb, eqb-true}
use Rattle.mdl_book.specs.declared.ticket.Ticket.{Ticket}
use Rattle.mdl_key.specs.declared.namespace.Kind.{Kind}
use Rattle.mdl_steps_laws.proofs.TableLocks.{same_keys}
use Rattle.mdl_steps_laws.proofs.WaitAsks.{at_from_get}
use Rattle.mdl_system.specs.BookLaws.{of_lock}
use Rattle.mdl_system.specs.NumberingLaws.{IsWellNumbered}
use Rattle.std.specs.List.{list_any}
use Rattle.mdl_visits_laws.proofs.Common.{AllWait, AreApart, AsksAhead, BookView, Contains-append_right, Contains-cons_cases, Contains-here, Contains-later, Contains-map_from, Contains-none, Definition, HasPlace, HoldsAgainst, IsDeadlock, IsStandingDeadlock, IsStandingVictimOf, IsTold, IsVictimOf, IsWaiting, KeyName, LatchRecord, Leads, Member, Requests, Rule, SessionTest, Slot, StandsBehind, StandsWith, State, System, View, Waiter, WaitsFor, and_parts, any-found, apart-first, apart-rest, at_map, clashes, get_elem?, held_at, holder_at, holds_against, is_tied, is_unsettled, key_at, kind_of, lock_kind, or_cases, some, waits_ahead, waits_at, waits_behind, waits_for, weight_of}

-- ---- a session has one request

one_of : (ws : List Waiter) → AreApart (λ (w : Waiter). w.ticket.session) ws → (x y : Waiter) → Contains ws x → Contains ws y → x.ticket.session ≡ y.ticket.session → x ≡ y
one_of [] apart x y among also same = absurd (Contains-none x among)
one_of (w ∷ ws) apart x y among also same = elim (Contains-cons_cases w ws x among) [
  | inl later ↦ elim (Contains-cons_cases w ws y also) [
    | inl both ↦ one_of ws (apart-rest (λ (z : Waiter). z.ticket.session) w ws apart) x y later both same
    | inr here ↦ absurd (apart-first (λ (z : Waiter). z.ticket.session) w ws apart x later (ap (λ (z : Waiter). z.ticket.session) (sym here) ∙ sym same))
  ]
  | inr here ↦ elim (Contains-cons_cases w ws y also) [
    | inl later ↦ absurd (apart-first (λ (z : Waiter). z.ticket.session) w ws apart y later (ap (λ (z : Waiter). z.ticket.session) (sym here) ∙ same))
    | inr both ↦ here ∙ sym both
  ]
]

pub one_weight : (a : System Definition) → IsWellNumbered a → (session one other : ℕ) → StandsWith a session one → StandsWith a session other → one ≡ other
one_weight a well session one other (key, w, stands, is) (key′, w′, stands′, is′) =
    let same_session : w.ticket.session ≡ w′.ticket.session = stands.1 ∙ sym stands′.1 in
    let same_key : key ≡ key′ = well.one_key key key′ w w′ stands.0 stands′.0 same_session in
    let same : w ≡ w′ = one_of (a.waiting key) (well.once key) w w′ stands.0 (subst (λ (k : KeyName). Contains (a.waiting k) w′) (sym same_key) stands′.0) same_session in
    is ∙ (λ i. weight_of (same_key i).namespace (same i).ticket.mode) ∙ sym is′

-- ---- while all members wait

module _ (a : System Definition) (cycle : List ℕ) (wait : AllWait a cycle) where
  tie_open : (x y : ℕ) → Contains cycle x → Contains cycle y → StandsBehind a x y → WaitsFor a x y
  tie_open x y of_x of_y (apart, (key, w, stands, blocks)) = (
    apart,
    (
      key,
      w,
      (stands.0, stands.1, wait x of_x key w stands),
      elim blocks [
        | inl held ↦ inl held
        | inr pending ↦ inr (pending.0, (pending.1.0, pending.1.1, wait y of_y key pending.0 pending.1), pending.2)
      ],
    ),
  )

  leads_open : (target session : ℕ) (rest : List ℕ) → Contains cycle target → Contains cycle session → ((x : ℕ) → Contains rest x → Contains cycle x)
      → Leads (StandsBehind a) target session rest → Leads (WaitsFor a) target session rest
  leads_open target session [] of_target of_session of_rest tie = tie_open session target of_session of_target tie
  leads_open target session (next ∷ rest) of_target of_session of_rest (tie, later) =
      let of_next = of_rest next (Contains-here next rest) in (
        tie_open session next of_session of_next tie,
        leads_open target next rest of_target of_next (λ x among. of_rest x (Contains-later next rest x among)) later,
      )

  pub deadlock_open : (who : ℕ) → IsStandingDeadlock a who cycle → IsDeadlock a who cycle
  deadlock_open who (rest, same, distinct, leading) =
      let of_cycle : (x : ℕ) → Contains (who ∷ rest) x → Contains cycle x = λ x among. subst (λ (c : List ℕ). Contains c x) (sym same) among in
      let first = of_cycle who (Contains-here who rest) in
      (rest, same, distinct, leads_open who who rest first first (λ x among. of_cycle x (Contains-later who rest x among)) leading)

  pub victim_open : (victim : ℕ) → IsStandingVictimOf a cycle victim → IsVictimOf a cycle victim
  victim_open victim (among, (weight, (key, w, stands, is), least)) = (
    among,
    (
      weight,
      (key, w, (stands.0, stands.1, wait victim among key w stands), is),
      λ other heavier of_other weighs. least other heavier of_other (weighs.0, weighs.1, (weighs.2.0, weighs.2.1), weighs.3),
    ),
  )

-- ---- books of latches

-- the book is the one in the record of the latch of a place
abbrev pub IsOfLatch : State Slot View → View → BookView → Type 0
IsOfLatch s v b = (place : ℕ) × HasPlace s place × ((h : LatchRecord) × (held_at place v.latches ≡ Some h) × (b ≡ h.book))

module _ (s : State Slot View) (r : Rule s) (id : ℕ) (v : View) (seat : get_elem? s.views id ≡ some v) (a : System Definition) (told : IsTold s a)
    (settled : SessionTest) (books : List BookView) (of_latch : (b : BookView) → Contains books b → IsOfLatch s v b) where
  -- a book by which a ticket waits is that of a key
  abbrev IsOfKey : BookView → KeyName → Type 0
  IsOfKey b key = b ≡ (told.0 key).book

  of_key : (b : BookView) → Contains books b → (t : Ticket) → Contains b.waiting t → (key : KeyName) × IsOfKey b key
  of_key b among t waits = by_place (of_latch b among)
    where
      by_place : IsOfLatch s v b → (key : KeyName) × IsOfKey b key
      by_place (place, has, (h, held, same)) = by_key (key_at r.keys place) refl
        where
          ruled : h.book ≡ (r.places place has.0 has.1).book
          ruled = ((r.places place has.0 has.1).held id (holder_at place v) (at_map (holder_at place) s.views id v seat) h held).book_is

          by_key : (o : Option KeyName) → key_at r.keys place ≡ o → (key : KeyName) × IsOfKey b key
          by_key None e = absurd (Contains-none t (subst (λ (ts : List Ticket). Contains ts t)
              (ap (λ (x : BookView). x.waiting) (same ∙ ruled) ∙ ((r.places place has.0 has.1).book_ok.named.vacant e).0.1) waits))
          by_key (Some key) e =
              let at : get_elem? told.1.keys (place - 1) ≡ some key =
              subst (λ (keys : List KeyName). get_elem? keys (place - 1) ≡ some key) (sym (same_keys s r told.1.keys told.1.keys_are)) (at_from_get r.keys (place - 1) key e) in
              let first : 0 < place = has.0 in
              let back : place ≡ suc (place - 1) = omega arith in (
                key,
                same ∙ (told.1.book_is (place - 1) key at).taken id v seat h (ap (λ (p : ℕ). held_at p v.latches) (sym back) ∙ held),
              )

  module _ (b : BookView) (key : KeyName) (is : IsOfKey b key) where
    kind_is : lock_kind b ≡ kind_of key.namespace
    kind_is = ap lock_kind is ∙ ap (λ (k : KeyName). kind_of k.namespace) (told.2.keyed key)

    request_of : (t : Ticket) → Contains b.waiting t → (w : Waiter) × Contains (a.waiting key) w × (t ≡ w.ticket)
    request_of t among = Contains-map_from (λ (x : Waiter). x.ticket) (a.waiting key) t
        (subst (λ (ts : List Ticket). Contains ts t) (ap (λ (x : BookView). x.waiting) is ∙ sym (told.2.waiting key)) among)

    against : (t : Ticket) (w : Waiter) → t ≡ w.ticket → (other : ℕ) → holds_against b t.mode other ≡ true → HoldsAgainst a key w other
    against t w same other found =
        let h = any-found (λ (held : Ticket). held.session == other && clashes (lock_kind b) t.mode held.mode) b.granted found in
        let both = and_parts (h.0.session == other) (clashes (lock_kind b) t.mode h.0.mode) h.2 in
        let slow : Contains (told.0 key).book.granted h.0 = subst (λ (x : BookView). Contains x.granted h.0) is h.1 in (
          of_lock key h.0,
          (told.2.granted (of_lock key h.0)).1 (Contains-append_right (told.0 key).fast (told.0 key).book.granted h.0 slow),
          refl,
          eqb-true h.0.session other both.0,
          ap (λ (k : Kind). clashes k w.ticket.mode h.0.mode) (sym kind_is) ∙ ap (λ (x : Ticket). clashes (lock_kind b) x.mode h.0.mode) (sym same) ∙ both.1,
        )

    ahead : (t : Ticket) (w : Waiter) → t ≡ w.ticket → (other : ℕ) → waits_ahead settled b t.mode other ≡ true → AsksAhead (Requests a) key w other
    ahead t w same other found =
        let test : Ticket → Bool = λ (pending : Ticket). pending.session == other && waits_behind (lock_kind b) t.mode pending.mode in
        let parts = and_parts (is_unsettled settled other) (list_any test b.waiting) found in
        let h = any-found test b.waiting parts.1 in
        let both = and_parts (h.0.session == other) (waits_behind (lock_kind b) t.mode h.0.mode) h.2 in
        let u = request_of h.0 h.1 in (
          u.0,
          (u.1, ap (λ (x : Ticket). x.session) (sym u.2) ∙ eqb-true h.0.session other both.0),
          (λ i. waits_behind (sym kind_is i) (sym same i).mode (sym u.2 i).mode) ∙ both.1,
        )

  differs : (m n : ℕ) → not (m == n) ≡ true → m ≢ n
  differs m n apart same = let equal : (m == n) ≡ true = eq-eqb m n same in absurd (cc)

  -- who waits for another by the books stands behind it
  pub stands_behind : (x y : ℕ) → waits_for settled books x y ≡ true → StandsBehind a x y
  stands_behind x y found =
      let at = any-found (λ (b : BookView). waits_at settled b x y) books found in
      let b : BookView = at.0 in
      let test : Ticket → Bool = λ (t : Ticket). t.session == x && is_tied settled b y t in
      let parts = and_parts (is_unsettled settled x) (list_any test b.waiting) at.2 in
      let h = any-found test b.waiting parts.1 in
      let both = and_parts (h.0.session == x) (is_tied settled b y h.0) h.2 in
      let own : h.0.session ≡ x = eqb-true h.0.session x both.0 in
      let holds = holds_against b h.0.mode y in
      let before = waits_ahead settled b h.0.mode y in
      let ties = and_parts (not (h.0.session == y)) (holds || before) both.1 in
      let of = of_key b at.1 h.0 h.1 in
      let w = request_of b of.0 of.1 h.0 h.1 in (
        (λ same. differs h.0.session y ties.0 (own ∙ same)),
        (
          of.0,
          w.0,
          (w.1, ap (λ (t : Ticket). t.session) (sym w.2) ∙ own),
          elim (or_cases holds before ties.1) [
            | inl held ↦ inl (against b of.0 of.1 h.0 w.0 w.2 y held)
            | inr pending ↦ inr (ahead b of.0 of.1 h.0 w.0 w.2 y pending)
          ],
        ),
      )

  -- and a member weighs what its session requests
  pub stands_with : (member : Member) → IsWaiting settled books member → StandsWith a member.session member.weight
  stands_with member (unsettled, (k, b, inside, here, found)) =
      let ticket : Ticket = found.1 in
      let among : Contains b.waiting ticket = (found.0, found.2, found.3) in
      let of = of_key b (k, inside, here) ticket among in
      let w = request_of b of.0 of.1 ticket among in
      let own : ticket.session ≡ member.session = sym (ap (λ (m : Member). m.session) found.4) in
      let keyed : b.key ≡ of.0 = ap (λ (x : BookView). x.key) of.1 ∙ told.2.keyed of.0 in (
        of.0,
        w.0,
        (w.1, ap (λ (t : Ticket). t.session) (sym w.2) ∙ own),
        ap (λ (m : Member). m.weight) found.4 ∙ (λ i. weight_of (keyed i).namespace (w.2 i).mode),
      )
