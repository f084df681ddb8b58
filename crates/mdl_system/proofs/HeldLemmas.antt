-- What sessions hold, and what is defined, after an event.
use Rattle.std.proofs.Common.{◌≡◌, ◌≢◌, ◌⊎◌, ◌↔◌, ℕ, ◌+◌, Bool, true, ◌||◌, not, inl, inr, Option, refl, sym, ap, subst, ◌∙◌}
use Rattle.std.specs.Prelude.{IsTrue, Contains}
use Rattle.std.specs.List.{list_all}
use Rattle.mdl_key.specs.declared.namespace.Kind.{Kind}
use Rattle.mdl_key.specs.declared.namespace.Kind.TheVariants.{Scoped, Object}
use Rattle.mdl_key.specs.declared.mode.Mode.{Mode}
use Rattle.mdl_key.specs.declared.mode.Mode.TheVariants.{X}
use Rattle.mdl_key.specs.Words.{KeyName, clashes, Clashes, all_modes, is_mode_of}
use Rattle.mdl_key.proofs.MatrixLemmas.{each_mode}
use Rattle.mdl_system.specs.Systems.{Holding, GrantedWait, System, lock_kind, Held, IsLawful}
use Rattle.mdl_system.specs.Events.{Event, Grant, Clone, BeginWait, GrantWaiter, SettleLost, EndGrantedWait, EndLostWait, Release, Upgrade, Merge, Downgrade, ChangeDefinition, Happens, in_mode, granted_ticket, granted_wait, session_of}
use Rattle.mdl_system.proofs.Deciding.{key_told}
use Rattle.mdl_system.proofs.LawfulLemmas.{implied}
use Rattle.mdl_system.proofs.OrderLemmas.{gained-others, lost-others}

-- ---- held by another session

module _ {D : Type 0} (a b : System D) (session : ℕ) where
  -- the granted tickets and the granted waits of a session are the same
  abbrev pub GrantedSame : Type 0
  GrantedSame = (ticket : Holding) → ticket.session ≡ session → Contains b.granted ticket ↔ Contains a.granted ticket

  abbrev pub UnendedSame : Type 0
  UnendedSame = (wait : GrantedWait) → wait.session ≡ session → Contains b.unended wait ↔ Contains a.unended wait

  pub held-same : GrantedSame → UnendedSame → (ticket : Holding) → Held b session ticket ↔ Held a session ticket
  held-same granted unended ticket = (
    (λ held. ((granted ticket held.1).0 held.0, held.1, λ wait among own. held.2 wait ((unended wait own).1 among) own)),
    λ held. ((granted ticket held.1).1 held.0, held.1, λ wait among own. held.2 wait ((unended wait own).0 among) own),
  )

-- a ticket of one session is none of another
not_own : (t ticket : Holding) (session : ℕ) → session ≢ t.session → ticket.session ≡ session → ticket ≢ t
not_own t ticket session other own e = other (sym own ∙ ap (λ (x : Holding). x.session) e)

not_own_wait : (t wait : GrantedWait) (session : ℕ) → session ≢ t.session → wait.session ≡ session → wait ≢ t
not_own_wait t wait session other own e = other (sym own ∙ ap (λ (x : GrantedWait). x.session) e)

module _ {C D : Type 0} (apply : KeyName → C → Option D → Option (Option D)) where
  granted-same : (event : Event C) (a b : System D) → Happens apply event a b → (session : ℕ) → session ≢ session_of event → GrantedSame a b session
  granted-same (Grant t) a b step session other ticket own = gained-others t a.granted b.granted step.granted ticket (not_own t ticket session other own)
  granted-same (Clone first second) a b step session other ticket own = gained-others second a.granted b.granted step.granted ticket (not_own second ticket session other own)
  granted-same (BeginWait key waiter) a b step session other ticket own = step.granted ticket
  granted-same (GrantWaiter key waiter) a b step session other ticket own =
      gained-others (granted_ticket key waiter) a.granted b.granted step.granted ticket (not_own (granted_ticket key waiter) ticket session other own)
  granted-same (SettleLost key waiter how) a b step session other ticket own = step.granted ticket
  granted-same (EndGrantedWait wait) a b step session other ticket own = step.granted ticket
  granted-same (EndLostWait key waiter) a b step session other ticket own = step.granted ticket
  granted-same (Release t) a b step session other ticket own = lost-others t a.granted b.granted step.granted ticket (not_own t ticket session other own)
  granted-same (Upgrade t mode) a b step session other ticket own = (
    (λ among. elim ((step.granted ticket).0 among) [ inl before ↦ before.0 | inr e ↦ absurd (not_own (in_mode mode t) ticket session other own e) ]),
    λ among. (step.granted ticket).1 (inl (among, not_own t ticket session other own)),
  )
  granted-same (Merge old new) a b step session other ticket own = (
    (λ among. elim ((step.granted ticket).0 among) [ inl before ↦ before.0 | inr e ↦ absurd (not_own (in_mode new.mode old) ticket session other own e) ]),
    λ among. (step.granted ticket).1 (inl (among, not_own old ticket session other own, not_own new ticket session (λ e. other (e ∙ step.new_held.1)) own)),
  )
  granted-same (Downgrade t mode) a b step session other ticket own = (
    (λ among. elim ((step.granted ticket).0 among) [ inl before ↦ before.0 | inr e ↦ absurd (not_own (in_mode mode t) ticket session other own e) ]),
    λ among. (step.granted ticket).1 (inl (among, not_own t ticket session other own)),
  )
  granted-same (ChangeDefinition t change) a b step session other ticket own = step.granted ticket

  unended-same : (event : Event C) (a b : System D) → Happens apply event a b → (session : ℕ) → session ≢ session_of event → UnendedSame a b session
  unended-same (Grant t) a b step session other wait own = step.rest.waits.unended wait
  unended-same (Clone first second) a b step session other wait own = step.rest.waits.unended wait
  unended-same (BeginWait key waiter) a b step session other wait own = step.unended wait
  unended-same (GrantWaiter key waiter) a b step session other wait own =
      gained-others (granted_wait waiter) a.unended b.unended step.unended wait (not_own_wait (granted_wait waiter) wait session other own)
  unended-same (SettleLost key waiter how) a b step session other wait own = step.unended wait
  unended-same (EndGrantedWait ended) a b step session other wait own = lost-others ended a.unended b.unended step.unended wait (not_own_wait ended wait session other own)
  unended-same (EndLostWait key waiter) a b step session other wait own = step.unended wait
  unended-same (Release t) a b step session other wait own = step.rest.waits.unended wait
  unended-same (Upgrade t mode) a b step session other wait own = step.rest.waits.unended wait
  unended-same (Merge old new) a b step session other wait own = step.rest.waits.unended wait
  unended-same (Downgrade t mode) a b step session other wait own = step.rest.waits.unended wait
  unended-same (ChangeDefinition t change) a b step session other wait own = step.waits.unended wait

  pub others-hold : (event : Event C) (a b : System D) → Happens apply event a b → (session : ℕ) → session ≢ session_of event
      → (ticket : Holding) → Held b session ticket ↔ Held a session ticket
  others-hold event a b step session other = held-same a b session (granted-same event a b step session other) (unended-same event a b step session other)

  -- ---- definitions

  pub defined-exclusively : (event : Event C) (a b : System D) → Happens apply event a b → (key : KeyName)
      → (b.definitions key ≡ a.definitions key)
      ⊎ ((ticket : Holding) × Held a (session_of event) ticket × (ticket.key ≡ key) × (ticket.mode ≡ X) × ((b.definitions key).version ≡ (a.definitions key).version + 1))
  defined-exclusively (Grant t) a b step key = inl (step.rest.definitions key)
  defined-exclusively (Clone first second) a b step key = inl (step.rest.definitions key)
  defined-exclusively (BeginWait at waiter) a b step key = inl (step.definitions key)
  defined-exclusively (GrantWaiter at waiter) a b step key = inl (step.definitions key)
  defined-exclusively (SettleLost at waiter how) a b step key = inl (step.definitions key)
  defined-exclusively (EndGrantedWait wait) a b step key = inl (step.definitions key)
  defined-exclusively (EndLostWait at waiter) a b step key = inl (step.definitions key)
  defined-exclusively (Release t) a b step key = inl (step.rest.definitions key)
  defined-exclusively (Upgrade t mode) a b step key = inl (step.rest.definitions key)
  defined-exclusively (Merge old new) a b step key = inl (step.rest.definitions key)
  defined-exclusively (Downgrade t mode) a b step key = inl (step.rest.definitions key)
  defined-exclusively (ChangeDefinition t change) a b step key = elim (key_told t.key key) [
    | inl e ↦ inr (t, step.held, e, step.exclusive, subst (λ k. (b.definitions k).version ≡ (a.definitions k).version + 1) e step.counted)
    | inr other ↦ inl (step.elsewhere key (λ e. other (sym e)))
  ]

-- whether an exclusive wish clashes with a mode, if locks of the kind use it
abbrev shuts_out : Kind → Mode → Bool
shuts_out kind mode = not (is_mode_of kind mode) || clashes kind X mode

shuts_all_out : (kind : Kind) → list_all (shuts_out kind) all_modes ≡ true
shuts_all_out Scoped = refl
shuts_all_out Object = refl

pub exclusive-clash : (kind : Kind) (mode : Mode) → IsTrue (is_mode_of kind mode) → Clashes kind X mode
exclusive-clash kind mode = implied _ _ (each_mode (shuts_out kind) (shuts_all_out kind) mode)

module _ {C D : Type 0} (apply : KeyName → C → Option D → Option (Option D)) where
  pub stands-still : (event : Event C) (a b : System D) → IsLawful a → Happens apply event a b
      → (held : Holding) → Contains a.granted held → IsTrue (is_mode_of (lock_kind held.key) held.mode) → held.session ≢ session_of event
      → b.definitions held.key ≡ a.definitions held.key
  stands-still event a b lawful step held among fits other = elim (defined-exclusively apply event a b step held.key) [
    | inl same ↦ same
    | inr by ↦ absurd (lawful by.0 held by.1.0 among by.2 (λ e. other (sym e ∙ by.1.1))
        (subst (λ m. Clashes (lock_kind by.0.key) m held.mode) (sym by.3)
        (subst (λ k. Clashes (lock_kind k) X held.mode) (sym by.2) (exclusive-clash (lock_kind held.key) held.mode fits))))
  ]
