-- The places that a session pins: the kinds of their locks, and whether tickets are there.
use Rattle.std.proofs.Common.{◌≡◌, ℕ, ◌<◌, ◌==◌, Bool, true, false, List, [], ◌∷◌, length, map, is_some, Option, Some, None, refl, sym, ap, ◌∙◌, arith, eqb-true}
use Rattle.mdl_calls.proofs.PinLemmas.{all-among}
use Rattle.mdl_shared.proofs.Common.{Held, Kind, KnownKey, SessionLocks, SessionTicket, and_parts, are_at_pins, are_pins_known, as_held, by_bool, has_pin, is_known, is_pinned, kind_known, kind_pinned, list_all, list_all-map, numbered, own_at}

-- ---- the kinds of their locks

-- a place whose key is known has a kind
pub known-some : (place : ℕ) (known : List KnownKey) → is_known place known ≡ true → is_some (kind_known place known) ≡ true
known-some place [] is = absurd (cc)
known-some place (k ∷ ks) is =
    by_bool (k.place == place)
    (λ hit. rw hit refl)
    (λ miss. rw miss (known-some place ks (rw miss at is)))

module _ (place : ℕ) (pins : List ℕ) (known : List KnownKey) where
  -- that of a pinned place is the one that is known there
  pub pinned-kind : {o : Option Kind} → has_pin place pins ≡ true → kind_known place known ≡ o → kind_pinned place pins known ≡ o
  pinned-kind pinned is = rw pinned is

  pub kind-pinned : {kind : Kind} → kind_pinned place pins known ≡ Some kind → (has_pin place pins ≡ true) × (kind_known place known ≡ Some kind)
  kind-pinned is = by_bool (has_pin place pins) (λ pinned. (pinned, rw pinned at is)) (λ none. let no = rw none at is in absurd (cc))

  -- each pinned place has one
  pub no-pin : are_pins_known known pins ≡ true → kind_pinned place pins known ≡ None → has_pin place pins ≡ false
  no-pin all none =
      by_bool (has_pin place pins)
      (λ pinned.
      let some = known-some place known (all-among (λ (p : ℕ). is_known p known) place pins all pinned) in
      let no = ap is_some (rw pinned at none) in
      let never : true ≡ false = sym some ∙ no in absurd (cc))
      (λ none. none)

-- ---- tickets at them

-- each ticket is at a pinned place
abbrev pub are_pinned : List ℕ → List SessionTicket → Bool
are_pinned pins tickets = list_all (λ (t : SessionTicket). has_pin t.place pins) tickets

-- as it is told
pub pinned-told : (own : SessionLocks) (tickets : List SessionTicket) → are_at_pins own (map as_held tickets) ≡ are_pinned own.pins tickets
pinned-told own tickets = list_all-map (λ (h : Held). is_pinned h.place own) as_held tickets

-- the ticket of a number is
pub numbered-pinned : (pins : List ℕ) (id : ℕ) (tickets : List SessionTicket) (t : SessionTicket) → are_pinned pins tickets ≡ true → numbered id tickets ≡ Some t → has_pin t.place pins ≡ true
numbered-pinned pins id [] t all its = absurd (cc)
numbered-pinned pins id (x ∷ xs) t all its =
    let parts = and_parts (has_pin x.place pins) (are_pinned pins xs) all in
    by_bool (x.number == id)
    (λ hit. let found = rw hit at its in let is : x ≡ t = cc in ap (λ (u : SessionTicket). has_pin u.place pins) (sym is) ∙ parts.0)
    (λ miss. numbered-pinned pins id xs t parts.1 (rw miss at its))

-- a place where some are is pinned
pub some-pinned : (pins : List ℕ) (place : ℕ) (tickets : List SessionTicket) → are_pinned pins tickets ≡ true → 0 < length (own_at place tickets) → has_pin place pins ≡ true
some-pinned pins place [] all some = absurd (omega (arith, some))
some-pinned pins place (x ∷ xs) all some =
    let parts = and_parts (has_pin x.place pins) (are_pinned pins xs) all in
    by_bool (x.place == place)
    (λ here. ap (λ (p : ℕ). has_pin p pins) (sym (eqb-true x.place place here)) ∙ parts.0)
    (λ there. some-pinned pins place xs parts.1 (rw there at some))
