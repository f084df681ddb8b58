-- Steps of the fast path by which nothing is done in the system, and that a session that waits has no fast ticket.
use Rattle.std.proofs.Common.{◌≡◌, ◌≢◌, ℕ, zero, suc, ◌+◌, ◌-◌, ◌%◌, ◌^◌, inl, inr, List, [], ◌∷◌, ◌++◌, length, map, set, refl, sym, ap, ◌∙◌, subst, arith, ◌⊎◌, Contains}
use Rattle.mdl_steps_laws.proofs.FirstLemmas.{BookView, Contains-append_cases, Contains-append_left, Contains-append_right, Contains-map_from, Contains-none, HasNoWait, IsBookAt, Lock, MaterialisingRests, Part, ReadingUnlatchedRests, Rule, SessionTicket, Slot, State, Ticket, View, WaitersHaveNoFastTickets, after_word, all_fast, at_inside, at_map, fast_at, find_key, first_place, get_elem?, gone_here, granting_all, held_at, held_at-changed, held_at-unchanged, in_locks, in_rule, inside, kept_else, lock_word, materialised, materialised_rule, met_rule, met_word_by, moved, own_at, part_at, ruled_book, same_definitions, set_here, some, some-injective, some-ne-none, some_session, ticket_by, waits, with_granted, word_at}
use Rattle.mdl_steps_laws.proofs.FastEvents.{asks_nothing, fast_then, no_wait, same_by, standing_stays, waits_stay}
use Rattle.mdl_steps_laws.proofs.RestKinds.{met_rests}

-- ---- all sessions' fast tickets, where one session has none any more

fast-kept : (parts : List Part) (id : ℕ) (y : Part) → y.fast ≡ [] → (t : Ticket) → Contains (all_fast (set parts id y)) t → Contains (all_fast parts) t
fast-kept [] id y none t among = among
fast-kept (z ∷ zs) zero y none t among =
    Contains-append_right (map (ticket_by z.number) z.fast) (all_fast zs) t (subst (λ (ts : List SessionTicket). Contains (map (ticket_by y.number) ts ++ all_fast zs) t) none among)
fast-kept (z ∷ zs) (suc id) y none t among = elim (Contains-append_cases (map (ticket_by z.number) z.fast) (all_fast (set zs id y)) t among) [
  | inl here ↦ Contains-append_left (map (ticket_by z.number) z.fast) (all_fast zs) t here
  | inr later ↦ Contains-append_right (map (ticket_by z.number) z.fast) (all_fast zs) t (fast-kept zs id y none t later)
]

fast-own : (parts : List Part) (id : ℕ) (x : Part) → get_elem? parts id ≡ some x → (t : Ticket) → Contains (map (ticket_by x.number) x.fast) t → Contains (all_fast parts) t
fast-own [] id x at t among = absurd (some-ne-none x (sym at))
fast-own (z ∷ zs) zero x at t among =
    Contains-append_left (map (ticket_by z.number) z.fast) (all_fast zs) t (subst (λ (w : Part). Contains (map (ticket_by w.number) w.fast) t) (sym (some-injective z x at)) among)
fast-own (z ∷ zs) (suc id) x at t among = Contains-append_right (map (ticket_by z.number) z.fast) (all_fast zs) t (fast-own zs id x at t among)

fast-parted : (parts : List Part) (id : ℕ) (x y : Part) → get_elem? parts id ≡ some x → y.fast ≡ [] → (t : Ticket) → Contains (all_fast parts) t
    → Contains (all_fast (set parts id y)) t ⊎ Contains (map (ticket_by x.number) x.fast) t
fast-parted [] id x y at none t among = inl among
fast-parted (z ∷ zs) zero x y at none t among = elim (Contains-append_cases (map (ticket_by z.number) z.fast) (all_fast zs) t among) [
  | inl here ↦ inr (subst (λ (w : Part). Contains (map (ticket_by w.number) w.fast) t) (some-injective z x at) here)
  | inr later ↦ inl (subst (λ (ts : List SessionTicket). Contains (map (ticket_by y.number) ts ++ all_fast zs) t) (sym none) later)
]
fast-parted (z ∷ zs) (suc id) x y at none t among = elim (Contains-append_cases (map (ticket_by z.number) z.fast) (all_fast zs) t among) [
  | inl here ↦ inl (Contains-append_left (map (ticket_by z.number) z.fast) (all_fast (set zs id y)) t here)
  | inr later ↦ elim (fast-parted zs id x y at none t later) [
    | inl kept ↦ inl (Contains-append_right (map (ticket_by z.number) z.fast) (all_fast (set zs id y)) t kept)
    | inr own ↦ inr own
  ]
]

-- ---- to materialise

pub materialising_rests : MaterialisingRests
materialising_rests s r keys keys_are i key at id me seat weight h may =
    let place : ℕ = suc i in
    let gone : List Ticket = moved place me.0 in
    let w : View = (materialised place (word_at s place) me).0 in
    let n : ℕ = (word_at s place + (2 ^ 64 - weight)) % 2 ^ 64 in
    let s′ : State Slot View = after_word s place n id (materialised place (word_at s place) me) in
    let first = first_place s r i key (in_rule s r keys keys_are i key at) in
    let last = inside s r keys keys_are i key at in
    let some_number = some_session s r keys keys_are i key at id me.0 seat h may.recorded in
    let r′ : Rule (after_word s place n id (materialised place (word_at s place) me)) = materialised_rule (length s.homes) id place me some_number first last weight h may s r refl seat in
    let held_else : (q : ℕ) → q ≢ place → held_at q w.latches ≡ held_at q me.0.latches = λ q else. held_at-unchanged place (with_granted gone) (λ x. refl) q me.0.latches else in
    let away : (q : ℕ) → q ≢ place → own_at q w.fast ≡ own_at q me.0.fast = λ q else. kept_else place q me.0.fast else in
    let part_there = at_map (part_at (waits s) place) s.views id me.0 seat in
    let none : (part_at (waits s) place w).fast ≡ [] = gone_here place me.0.fast in (
      r′,
      λ a b told told′.
          let at_told = in_locks s r keys keys_are i key at told.0 told.1 in
          let old : BookView = (told.0 key).book in
          let book : BookView = granting_all gone (told.0 key).book in
          let was = (told.1.book_is i key at_told).taken id me.0 seat h may.recorded in
          let ruled = ruled_book s′ r′ place first last in
          let now = ruled.taken id w (set_here s.views id w (at_inside s.views id me.0 seat)) (with_granted gone h) (held_at-changed place (with_granted gone) (λ x. refl) me.0.latches h may.recorded) in
          let is : IsBookAt s′ place book = subst (IsBookAt s′ place) (sym now ∙ ap (granting_all gone) was) ruled in
          let fast_is = told.1.fast_are i key at_told in
          let fast_now = fast_then s r keys keys_are i key at id n me w seat refl refl held_else refl away place in
          let parts : List Part = map (part_at (waits s) place) s.views in
          let part : Part = part_at (waits s) place w in
          let alike : (t : Ticket) → (Contains (fast_at s′ place ++ (old.granted ++ gone)) t → Contains ((told.0 key).fast ++ old.granted) t) × (Contains ((told.0 key).fast ++ old.granted) t → Contains (fast_at s′ place ++ (old.granted ++ gone)) t) =
          λ t. (
            (λ among. elim (Contains-append_cases (fast_at s′ place) (old.granted ++ gone) t among) [
              | inl fast ↦ Contains-append_left (told.0 key).fast old.granted t
                  (subst (λ ts. Contains ts t) (sym fast_is) (fast-kept parts id part none t (subst (λ ts. Contains ts t) fast_now fast)))
              | inr listed ↦ elim (Contains-append_cases old.granted gone t listed) [
                | inl granted ↦ Contains-append_right (told.0 key).fast old.granted t granted
                | inr own ↦ Contains-append_left (told.0 key).fast old.granted t (subst (λ ts. Contains ts t) (sym fast_is) (fast-own parts id (part_at (waits s) place me.0) part_there t own))
              ]
            ]),
            λ among. elim (Contains-append_cases (told.0 key).fast old.granted t among) [
              | inl fast ↦ elim (fast-parted parts id (part_at (waits s) place me.0) part part_there none t (subst (λ ts. Contains ts t) fast_is fast)) [
                | inl kept ↦ Contains-append_left (fast_at s′ place) (old.granted ++ gone) t (subst (λ ts. Contains ts t) (sym fast_now) kept)
                | inr own ↦ Contains-append_right (fast_at s′ place) (old.granted ++ gone) t (Contains-append_right old.granted gone t own)
              ]
              | inr granted ↦ Contains-append_right (fast_at s′ place) (old.granted ++ gone) t (Contains-append_left old.granted gone t granted)
            ],
          ) in
          record {
            granted = same_by s r keys keys_are i key at id n me w seat refl refl held_else refl away r′ a b told told′ book is refl refl alike;
            waits = waits_stay s r keys keys_are i key at id n me w seat refl refl held_else refl away r′ a b told told′ book is refl refl;
            definitions = same_definitions told.0 told′.0 a b told.2 told′.2 (standing_stays s r keys keys_are i key at id n me w seat refl refl held_else refl away r′ a b told told′ book is refl refl);
          },
    )

-- ---- to read a word

pub reading_unlatched_rests : ReadingUnlatchedRests
reading_unlatched_rests s r place first last id me seat kind =
    met_rests s r id me (met_word_by kind place (word_at s place) me) seat refl refl refl refl refl place (first, last) (lock_word place) (omega arith, omega arith)
    (met_rule (length s.homes) id place me first last s r refl seat kind)

-- ---- who waits has no fast ticket

-- a fast ticket is that of some session
pub fast_owner : (f : ℕ → ℕ) (q : ℕ) (views : List View) (t : Ticket) → Contains (all_fast (map (part_at f q) views)) t
    → (j : ℕ) × (v : View) × (get_elem? views j ≡ some v) × (v.number ≡ t.session) × (v.fast ≢ [])
fast_owner f q [] t among = absurd (Contains-none t among)
fast_owner f q (v ∷ vs) t among = elim (Contains-append_cases (map (ticket_by v.number) (own_at q v.fast)) (all_fast (map (part_at f q) vs)) t among) [
  | inl mine ↦
      let from = Contains-map_from (ticket_by v.number) (own_at q v.fast) t mine in
      (zero, v, refl, ap (λ (u : Ticket). u.session) (sym from.2), λ none. Contains-none from.0 (subst (λ (ts : List SessionTicket). Contains (own_at q ts) from.0) none from.1))
  | inr later ↦ let rest = fast_owner f q vs t later in (suc rest.0, rest.1, rest.2, rest.3, rest.4)
]

pub waiters_have_no_fast_tickets : WaitersHaveNoFastTickets
waiters_have_no_fast_tickets s r system told key t among = elim (find_key told.1.keys key) [
  | inl at ↦
      let owner = fast_owner (waits s) (suc at.0) s.views t (subst (λ ts. Contains ts t) (told.1.fast_are at.0 key at.1) among) in
      let idle = asks_nothing owner.1.asks (λ a is. owner.4 ((r.views owner.0 owner.1 owner.2).0.unfast a is)) in
      subst (HasNoWait system) owner.3 (no_wait s r owner.0 (owner.1, []) owner.2 idle system told)
  | inr none ↦ absurd (Contains-none t (subst (λ (l : Lock). Contains l.fast t) (told.1.without_place key none) among))
]
