-- Small systems in which an event of each kind happens.
use Rattle.std.proofs.Common.{◌≡◌, inl, inr, List, [], ◌∷◌, Option, refl, sym, ap, ◌∙◌, arith}
use Rattle.std.specs.Prelude.{Contains}
use Rattle.mdl_key.specs.declared.mode.Mode.{Mode}
use Rattle.mdl_key.specs.Keys.{KeyName}
use Rattle.mdl_system.specs.Systems.{Holding, Waiter, System, empty_system, Held, HasNoWait, IsLawful, IsGrantable}
use Rattle.mdl_system.specs.Events.{Event, Grant, Clone, BeginWait, GrantWaiter, SettleLost, EndGrantedWait, EndLostWait, Release, Upgrade, Merge, Downgrade, ChangeDefinition, Happens}
use Rattle.mdl_system.specs.PermittedEvents.{IsPermitted, IsPlausible}
use Rattle.mdl_system.proofs.LawfulLemmas.{empty-lawful}
use Rattle.mdl_system.proofs.NextSystems.{next, put, put-there}
use Rattle.mdl_system.proofs.OrderLemmas.{Contains-cons_cases, Contains-here, Contains-later, within}

none : {T : Type 0} (x : T) → Contains [] x → ⊥
none x among = let lt = among.1 in omega arith

one : {T : Type 0} (x y : T) → Contains (x ∷ []) y → y ≡ x
one x y among = elim (Contains-cons_cases x [] y among) [ inl later ↦ absurd (none y later) | inr e ↦ e ]

module _ (D : Type 0) where
  -- these tickets are granted, and nobody waits
  abbrev granting : List Holding → System D
  granting granted = record (empty_system {D = D}) { granted = granted }

  -- a ticket waits
  abbrev with_waiter : KeyName → Waiter → System D
  with_waiter key waiter = record (empty_system {D = D}) { waiting = put key (waiter ∷ []) (λ _. []) }

  held-there : (granted : List Holding) (t : Holding) → Contains granted t → Held (granting granted) t.session t
  held-there granted t among = (among, refl, λ wait p. absurd (none wait p))

  free-there : (granted : List Holding) (t : Holding) → HasNoWait (granting granted) t.session
  free-there granted t = ((λ key waiter p. absurd (none waiter p)), λ wait p. absurd (none wait p))

  lone-lawful : (t : Holding) → IsLawful (granting (t ∷ []))
  lone-lawful t x y p q same apart clash = apart (ap (λ (h : Holding). h.session) (one t x p ∙ sym (one t y q)))

  lone-grantable : (t : Holding) (mode : Mode) → IsGrantable (granting (t ∷ [])) t.session t.key mode
  lone-grantable t mode = ((λ held among same other clash. other (ap (λ (h : Holding). h.session) (one t held among))), λ waiter p. absurd (none waiter p))

  pair-lawful : (t u : Holding) → u.session ≡ t.session → IsLawful (granting (t ∷ u ∷ []))
  pair-lawful t u s x y p q same apart clash = apart (own x p ∙ sym (own y q))
    where
      own : (z : Holding) → Contains (t ∷ u ∷ []) z → z.session ≡ t.session
      own z among = elim (Contains-cons_cases t (u ∷ []) z among) [
        | inl later ↦ ap (λ (h : Holding). h.session) (one u z later) ∙ s
        | inr e ↦ ap (λ (h : Holding). h.session) e
      ]

  waits-there : (key : KeyName) (waiter : Waiter) → Contains ((with_waiter key waiter).waiting key) waiter
  waits-there key waiter = within _ _ waiter (sym (put-there key (waiter ∷ []) (λ _. []))) (Contains-here waiter [])

  waiter-grantable : (key : KeyName) (waiter : Waiter) → IsGrantable (with_waiter key waiter) waiter.ticket.session key waiter.ticket.mode
  waiter-grantable key waiter = (
    (λ held p. absurd (none held p)),
    λ other among apart behind.
        apart (ap (λ (w : Waiter). w.ticket.session) (one waiter other (within _ _ other (put-there key (waiter ∷ []) (λ _. [])) among))),
  )

module _ {C D : Type 0} (apply : KeyName → C → Option D → Option (Option D)) where
  -- an event that is permitted in a lawful system happens there
  happens-in : (event : Event C) (a : System D) → IsLawful a → IsPermitted apply event a → (a : System D) × (b : System D) × IsLawful a × Happens apply event a b
  happens-in event a lawful may = let to = next apply event a may in (a, to.0, lawful, to.1)

  pub possible : (event : Event C) → IsPlausible apply event → (a : System D) × (b : System D) × IsLawful a × Happens apply event a b
  possible (Grant t) is = happens-in (Grant t) (granting D []) (empty-lawful D)
      (free-there D [] t, (λ held p. absurd (none held p)), ((λ held p. absurd (none held p)), λ waiter p. absurd (none waiter p)))
  possible (Clone first second) is = happens-in (Clone first second) (granting D (first ∷ [])) (lone-lawful D first) (
    free-there D (first ∷ []) second,
    (λ held p _ n. is.1 (sym (ap (λ (h : Holding). h.number) (one first held p)) ∙ n)),
    (Contains-here first [], is.0, λ wait p. absurd (none wait p)),
    is.2,
    is.3,
  )
  possible (BeginWait key waiter) is = happens-in (BeginWait key waiter) (granting D []) (empty-lawful D)
      (((λ k w p. absurd (none w p)), λ wait p. absurd (none wait p)), (λ held p. absurd (none held p)), is)
  possible (GrantWaiter key waiter) is = happens-in (GrantWaiter key waiter) (with_waiter D key waiter) (empty-lawful D)
      (waits-there D key waiter, is, waiter-grantable D key waiter)
  possible (SettleLost key waiter how) is = happens-in (SettleLost key waiter how) (with_waiter D key waiter) (empty-lawful D)
      (waits-there D key waiter, is.0, is.1)
  possible (EndGrantedWait wait) is =
      happens-in (EndGrantedWait wait) (record (empty_system {D = D}) { unended = wait ∷ [] }) (empty-lawful D) (Contains-here wait [])
  possible (EndLostWait key waiter) is = happens-in (EndLostWait key waiter) (with_waiter D key waiter) (empty-lawful D) (waits-there D key waiter, is)
  possible (Release t) is = happens-in (Release t) (granting D (t ∷ [])) (lone-lawful D t) (held-there D (t ∷ []) t (Contains-here t []))
  possible (Upgrade t mode) is = happens-in (Upgrade t mode) (granting D (t ∷ [])) (lone-lawful D t)
      (free-there D (t ∷ []) t, held-there D (t ∷ []) t (Contains-here t []), lone-grantable D t mode)
  possible (Merge old new) is = happens-in (Merge old new) (granting D (old ∷ new ∷ [])) (pair-lawful D old new is.0) (
    free-there D (old ∷ new ∷ []) old,
    held-there D (old ∷ new ∷ []) old (Contains-here old (new ∷ [])),
    (Contains-later old (new ∷ []) new (Contains-here new []), is.0, λ wait p. absurd (none wait p)),
    is.1,
    is.2,
    is.3,
  )
  possible (Downgrade t mode) is = happens-in (Downgrade t mode) (granting D (t ∷ [])) (lone-lawful D t) (held-there D (t ∷ []) t (Contains-here t []), is)
  possible (ChangeDefinition t change) is = happens-in (ChangeDefinition t change) (granting D (t ∷ [])) (lone-lawful D t)
      (held-there D (t ∷ []) t (Contains-here t []), is.0, is.1)
