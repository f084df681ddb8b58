-- What the session of an event holds after it.
use Rattle.std.proofs.Common.{◌≡◌, ◌≢◌, ◌⊎◌, ◌↔◌, ℕ, inl, inr, Option, refl, sym, ap, subst, ◌∙◌}
use Rattle.std.specs.Prelude.{Contains}
use Rattle.mdl_key.specs.declared.mode.Mode.{Mode}
use Rattle.mdl_key.specs.Keys.{KeyName}
use Rattle.mdl_system.specs.Systems.{Holding, GrantedWait, System, Held}
use Rattle.mdl_system.specs.Events.{Event, Grant, Clone, BeginWait, GrantWaiter, SettleLost, EndGrantedWait, EndLostWait, Release, Upgrade, Merge, Downgrade, ChangeDefinition, Happens, SameMembers, Gains, Replaces, EndsGrantedWait, in_mode, session_of}
use Rattle.mdl_system.specs.NumberingLaws.{IsWellNumbered, IsHeldAfter}
use Rattle.mdl_system.proofs.Deciding.{nat_told}
use Rattle.mdl_system.proofs.NumberingLemmas.{leaves-held}

module _ {D : Type 0} (a b : System D) where
  -- a ticket of a session has no granted wait that isn't ended
  abbrev IsTakenUp : System D → ℕ → Holding → Type 0
  IsTakenUp system session ticket = (wait : GrantedWait) → Contains system.unended wait → wait.session ≡ session → wait.ticket ≢ ticket.number

  forth : SameMembers a.unended b.unended → (session : ℕ) (ticket : Holding) → IsTakenUp a session ticket → IsTakenUp b session ticket
  forth same session ticket up wait among = up wait ((same wait).0 among)

  back : SameMembers a.unended b.unended → (session : ℕ) (ticket : Holding) → IsTakenUp b session ticket → IsTakenUp a session ticket
  back same session ticket up wait among = up wait ((same wait).1 among)

  held-gained : (t : Holding) → Gains t a.granted b.granted → SameMembers a.unended b.unended → IsTakenUp a t.session t
      → (ticket : Holding) → Held b t.session ticket ↔ (Held a t.session ticket ⊎ (ticket ≡ t))
  held-gained t granted unended up ticket = (
    (λ held. elim ((granted ticket).0 held.0) [ inl old ↦ inl (old, held.1, back unended t.session ticket held.2) | inr e ↦ inr e ]),
    λ either. elim either [
      | inl held ↦ ((granted ticket).1 (inl held.0), held.1, forth unended t.session ticket held.2)
      | inr e ↦ subst (λ (x : Holding). Held b t.session x) (sym e) ((granted t).1 (inr refl), refl, forth unended t.session t up)
    ],
  )

  held-replaced : (t : Holding) (mode : Mode) → Held a t.session t → Replaces t (in_mode mode t) a.granted b.granted → SameMembers a.unended b.unended
      → (ticket : Holding) → Held b t.session ticket ↔ ((Held a t.session ticket × (ticket ≢ t)) ⊎ (ticket ≡ in_mode mode t))
  held-replaced t mode own granted unended ticket = (
    (λ held. elim ((granted ticket).0 held.0) [ inl old ↦ inl ((old.0, held.1, back unended t.session ticket held.2), old.1) | inr e ↦ inr e ]),
    λ either. elim either [
      | inl held ↦ ((granted ticket).1 (inl (held.0.0, held.1)), held.0.1, forth unended t.session ticket held.0.2)
      | inr e ↦ subst (λ (x : Holding). Held b t.session x) (sym e) ((granted (in_mode mode t)).1 (inr refl), refl, forth unended t.session t own.2)
    ],
  )

  held-ended : IsWellNumbered a → (wait : GrantedWait) → EndsGrantedWait wait a b → (ticket : Holding)
      → Held b wait.session ticket ↔ (Held a wait.session ticket ⊎ (Contains a.granted ticket × (ticket.session ≡ wait.session) × (ticket.number ≡ wait.ticket)))
  held-ended well wait step ticket = (
    (λ held. elim (nat_told ticket.number wait.ticket) [
      | inl e ↦ inr ((step.granted ticket).0 held.0, held.1, e)
      | inr other ↦ inl ((step.granted ticket).0 held.0, held.1, λ w among own n. other (sym n ∙ ap (λ (x : GrantedWait). x.ticket) (well.one_wait w wait among step.stands own)))
    ]),
    λ either. elim either [
      | inl held ↦ ((step.granted ticket).1 held.0, held.1, λ w among. held.2 w ((step.unended w).0 among).0)
      | inr is ↦ ((step.granted ticket).1 is.0, is.1, λ w among own _. ((step.unended w).0 among).1 (well.one_wait w wait ((step.unended w).0 among).0 step.stands own))
    ],
  )

module _ {C D : Type 0} (apply : KeyName → C → Option D → Option (Option D)) where
  pub held-after : (event : Event C) (a b : System D) → IsWellNumbered a → Happens apply event a b
      → (ticket : Holding) → Held b (session_of event) ticket ↔ IsHeldAfter event a ticket
  held-after (Grant t) a b well step = held-gained a b t step.granted step.rest.waits.unended (λ w among own _. step.free.1 w among own)
  held-after (Clone first second) a b well step = held-gained a b second step.granted step.rest.waits.unended (λ w among own _. step.free.1 w among own)
  held-after (BeginWait at new) a b well step = leaves-held apply (BeginWait at new) a b well step tt new.ticket.session
  held-after (GrantWaiter at gone) a b well step = leaves-held apply (GrantWaiter at gone) a b well step tt gone.ticket.session
  held-after (SettleLost at gone how) a b well step = leaves-held apply (SettleLost at gone how) a b well step tt gone.ticket.session
  held-after (EndGrantedWait wait) a b well step = held-ended a b well wait step
  held-after (EndLostWait at gone) a b well step = leaves-held apply (EndLostWait at gone) a b well step tt gone.ticket.session
  held-after (Release t) a b well step = λ ticket. (
    (λ held. ((((step.granted ticket).0 held.0).0, held.1, back a b step.rest.waits.unended t.session ticket held.2), ((step.granted ticket).0 held.0).1)),
    λ held. ((step.granted ticket).1 (held.0.0, held.1), held.0.1, forth a b step.rest.waits.unended t.session ticket held.0.2),
  )
  held-after (Upgrade t mode) a b well step = held-replaced a b t mode step.held step.granted step.rest.waits.unended
  held-after (Merge old new) a b well step = λ ticket. (
    (λ held. elim ((step.granted ticket).0 held.0) [
      | inl before ↦ inl ((before.0, held.1, back a b step.rest.waits.unended old.session ticket held.2), before.1, before.2)
      | inr e ↦ inr e
    ]),
    λ either. elim either [
      | inl held ↦ ((step.granted ticket).1 (inl (held.0.0, held.1, held.2)), held.0.1, forth a b step.rest.waits.unended old.session ticket held.0.2)
      | inr e ↦ subst (λ (x : Holding). Held b old.session x) (sym e)
          ((step.granted (in_mode new.mode old)).1 (inr refl), refl, forth a b step.rest.waits.unended old.session old step.old_held.2)
    ],
  )
  held-after (Downgrade t mode) a b well step = held-replaced a b t mode step.held step.granted step.rest.waits.unended
  held-after (ChangeDefinition t change) a b well step = leaves-held apply (ChangeDefinition t change) a b well step tt t.session
