-- The place of a step has a key where its session knows one there, or where the book there is in use.
use Rattle.std.proofs.Common.{◌≡◌, ℕ, suc, ◌-◌, ◌<◌, List, Some, None, refl, sym, ap, ◌∙◌, subst, arith, Contains, Option, slice_get}
use Rattle.mdl_steps_laws.proofs.FirstLemmas.{Contains-none, HasPlace, IsUnused, KeyName, KnownKey, KnowsPlace, LatchRecord, Rule, Slot, State, Ticket, View, at_map, each_at, get_elem?, held_at, holder_at, key_at, some, ticket_of}
use Rattle.mdl_steps_laws.proofs.WaitAsks.{at_from_get}

key_here : (keys : List KeyName) (i : ℕ) (key : KeyName) → key_at keys (suc i) ≡ Some key → get_elem? keys i ≡ some key
key_here keys i key e = at_from_get keys i key ((let back : i ≡ suc i - 1 = omega arith in ap (slice_get keys) back) ∙ e)

module _ (s : State Slot View) (r : Rule s) (id : ℕ) (v : View) (seat : get_elem? s.views id ≡ some v) (i : ℕ) where
  -- the session knows a key there
  pub known_key : KnowsPlace v (suc i) → (key : KeyName) × (get_elem? r.keys i ≡ some key)
  known_key knows =
      let stands = each_at (λ (x : KnownKey). (0 < x.place) × (key_at r.keys x.place ≡ Some x.key)) v.known (r.views id v seat).1 knows.0 knows.1 knows.2 in
      (knows.1.key, key_here r.keys i knows.1.key (ap (key_at r.keys) (sym knows.3) ∙ stands.1))

  module _ (has : HasPlace s (suc i)) (h : LatchRecord) (holds : held_at (suc i) v.latches ≡ Some h) where
    pub recorded_book : h.book ≡ (r.places (suc i) has.0 has.1).book
    recorded_book = ((r.places (suc i) has.0 has.1).held id (holder_at (suc i) v) (at_map (holder_at (suc i)) s.views id v seat) h holds).book_is

    -- the book in the record of its latch is in use
    used_key : (IsUnused h.book → ⊥) → (key : KeyName) × (get_elem? r.keys i ≡ some key)
    used_key used = go (key_at r.keys (suc i)) refl
      where
        go : (o : Option KeyName) → key_at r.keys (suc i) ≡ o → (key : KeyName) × (get_elem? r.keys i ≡ some key)
        go (Some key) there = (key, key_here r.keys i key there)
        go None none =
            absurd (used (subst IsUnused (sym recorded_book) ((r.places (suc i) has.0 has.1).book_ok.named.vacant none).0))

    pub granted_key : (t : Ticket) → Contains h.book.granted t → (key : KeyName) × (get_elem? r.keys i ≡ some key)
    granted_key t among = used_key (λ unused. Contains-none t (subst (λ (ts : List Ticket). Contains ts t) unused.0 among))

    pub waiting_key : (session number : ℕ) (t : Ticket) → ticket_of session number h.book.waiting ≡ Some t → (key : KeyName) × (get_elem? r.keys i ≡ some key)
    waiting_key session number t found = used_key (λ unused. (let none : ticket_of session number h.book.waiting ≡ None = ap (ticket_of session number) unused.1 in absurd (cc)))
