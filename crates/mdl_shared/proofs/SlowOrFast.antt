-- Which of a session's tickets are slow, and which are fast.
use Rattle.std.proofs.Common.{◌≡◌, inl, inr, ℕ, true, List, Option, Some, None, refl, sym, ap, ◌∙◌}
use Rattle.mdl_key.specs.declared.mode.Mode.TheVariants as mode
use Rattle.mdl_key.specs.declared.namespace.Kind.TheVariants.{Scoped, Object}
use Rattle.mdl_shared.proofs.FirstLemmas.{IsMember, Kind, KnownKey, Lists, Member, Mode, SessionTicket, SessionView, fast-alone, held-either, increment_at, increment_of, kind_known, may_downgrade, none-numbered, numbered, option_and_then, tickets_seen}
use Rattle.mdl_shared.proofs.FastFacts.{counted-found}

-- ---- tickets that no word counts

-- a mode that no word counts is counted at no place
uncounted : (place : ℕ) (held : Mode) (known : List KnownKey) → ((kind : Kind) → increment_of kind held ≡ None) → increment_at place held known ≡ None
uncounted place held known never = by (kind_known place known)
  where
    by : (o : Option Kind) → option_and_then (λ kind. increment_of kind held) o ≡ None
    by None = refl
    by (Some kind) = never kind

-- X is such a mode
exclusive-uncounted : (kind : Kind) → increment_of kind mode.X ≡ None
exclusive-uncounted Scoped = refl
exclusive-uncounted Object = refl

-- so is each that may be brought down
pub weakened-uncounted : (held weaker : Mode) → may_downgrade held weaker ≡ true → (kind : Kind) → increment_of kind held ≡ None
weakened-uncounted mode.X weaker may kind = exclusive-uncounted kind
weakened-uncounted mode.SNW weaker may Scoped = refl
weakened-uncounted mode.SNW weaker may Object = refl
weakened-uncounted _ weaker may kind = absurd (cc)

-- ---- a session's ticket

module _ {s : SessionView} (is : IsMember s) (id : ℕ) (t : SessionTicket) where
  -- a fast one is none of the slow ones
  pub fast-only : numbered id s.me.0.fast ≡ Some t → numbered id s.me.0.slow ≡ None
  fast-only its = none-numbered id s.me.0.slow (fast-alone is id t its)

  -- one that isn't fast is slow
  pub slow-else : numbered id s.me.0.fast ≡ None → numbered id (tickets_seen s.me.0) ≡ Some t → numbered id s.me.0.slow ≡ Some t
  slow-else none its = elim (held-either is id t its) [
    | inl slow ↦ slow
    | inr fast ↦ let never : ◌≡◌ {A = Option SessionTicket} None (Some t) = sym none ∙ fast in absurd (cc)
  ]

-- one of a session's own list of the fast ones is one of its view, and there is none where that has none
pub fast-seen : (m : Member) (id : ℕ) (o : Option SessionTicket) → o ≡ numbered id m.tickets.fast → numbered id m.seat.me.0.fast ≡ o
fast-seen m id o found-so = ap (λ (l : Lists). numbered id l.fast) (sym m.lists) ∙ sym found-so

-- one that no word counts is slow
pub uncounted-slow : {s : SessionView} → IsMember s → (id : ℕ) (t : SessionTicket) → numbered id (tickets_seen s.me.0) ≡ Some t → ((kind : Kind) → increment_of kind t.mode ≡ None)
    → numbered id s.me.0.slow ≡ Some t
uncounted-slow {s} is id t its never = elim (held-either is id t its) [
  | inl slow ↦ slow
  | inr fast ↦ let counts = counted-found s.me.0.known id s.me.0.fast t fast is.plain in
      let none = uncounted t.place t.mode s.me.0.known never in
      absurd (cc)
]

-- so is an exclusive one
pub exclusive-slow : {s : SessionView} → IsMember s → (id : ℕ) (t : SessionTicket) → numbered id (tickets_seen s.me.0) ≡ Some t → t.mode ≡ mode.X → numbered id s.me.0.slow ≡ Some t
exclusive-slow is id t its exclusive = uncounted-slow is id t its (λ kind. ap (increment_of kind) exclusive ∙ exclusive-uncounted kind)
