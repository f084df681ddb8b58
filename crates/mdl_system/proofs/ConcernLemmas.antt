-- What an event leaves of the waiters of a key.
use Rattle.std.proofs.Common.{◌≡◌, ◌≢◌, ◌⊎◌, ◌↔◌, ℕ, inl, inr, List, [], ◌∷◌, Option, refl, sym, ap, subst, ◌∙◌}
use Rattle.std.specs.Prelude.{Contains, All}
use Rattle.std.proofs.lemmas.List.Elements.{Contains-push_cases, All-head, All-tail}
use Rattle.mdl_key.specs.declared.mode.Mode.{Mode}
use Rattle.mdl_key.specs.Keys.{KeyName}
use Rattle.mdl_system.specs.Systems.{Unsettled, Holding, Waiter, System, IsGrantable, NoneForgottenAt, NoneForgotten}
use Rattle.mdl_system.specs.Events.{Event, Grant, Clone, BeginWait, GrantWaiter, SettleLost, EndGrantedWait, EndLostWait, Release, Upgrade, Merge, Downgrade, ChangeDefinition, Happens, Run, in_mode, granted_ticket}
use Rattle.mdl_system.specs.BlockingLaws.{FreesNothing, WaitsForCause, IsAbout, IsGrantAt}
use Rattle.mdl_system.proofs.BlockingLemmas.{at_any, more-blocks, step-blocks}
use Rattle.mdl_system.proofs.OrderLemmas.{within, gone-before, changed-before, gained-others, lost-others, replaced-others}

-- ---- who waits after an event

-- the event by which a ticket begins to wait
abbrev pub Begins : {C : Type 0} → Event C → KeyName → Waiter → Type 0
Begins (BeginWait at new) key waiter = (key ≡ at) × (waiter ≡ new)
Begins _ key waiter = ⊥

module _ {C D : Type 0} (apply : KeyName → C → Option D → Option (Option D)) where
  -- an unsettled waiter has waited before, or begins to
  pub waits-since : (event : Event C) (a b : System D) → Happens apply event a b → (key : KeyName) (waiter : Waiter) → Contains (b.waiting key) waiter
      → waiter.state ≡ Unsettled → Contains (a.waiting key) waiter ⊎ Begins event key waiter
  waits-since (Grant ticket) a b step key = λ waiter among unsettled. inl (within _ _ waiter (step.rest.waits.waiting key) among)
  waits-since (Clone first second) a b step key = λ waiter among unsettled. inl (within _ _ waiter (step.rest.waits.waiting key) among)
  waits-since (BeginWait at new) a b step key =
      at_any (λ k. (waiter : Waiter) → Contains (b.waiting k) waiter → waiter.state ≡ Unsettled → Contains (a.waiting k) waiter ⊎ ((k ≡ at) × (waiter ≡ new))) at key
      (λ waiter among unsettled. elim (Contains-push_cases (a.waiting at) new waiter (within _ _ waiter step.joins among)) [ inl before ↦ inl before | inr e ↦ inr (refl, sym e) ])
      (λ other waiter among unsettled. inl (within _ _ waiter (step.elsewhere key other) among))
  waits-since (GrantWaiter at gone) a b step key =
      at_any (λ k. (waiter : Waiter) → Contains (b.waiting k) waiter → waiter.state ≡ Unsettled → Contains (a.waiting k) waiter ⊎ ⊥) at key
      (λ waiter among unsettled. inl (gone-before gone (a.waiting at) (b.waiting at) step.leaves waiter among))
      (λ other waiter among unsettled. inl (within _ _ waiter (step.elsewhere key other) among))
  waits-since (SettleLost at gone how) a b step key =
      at_any (λ k. (waiter : Waiter) → Contains (b.waiting k) waiter → waiter.state ≡ Unsettled → Contains (a.waiting k) waiter ⊎ ⊥) at key
      (λ waiter among unsettled. elim (changed-before gone (record gone { state = how }) (a.waiting at) (b.waiting at) step.settled waiter among) [
        | inl before ↦ inl before
        | inr e ↦ absurd (step.lost (ap (λ (w : Waiter). w.state) (sym e) ∙ unsettled))
      ])
      (λ other waiter among unsettled. inl (within _ _ waiter (step.elsewhere key other) among))
  waits-since (EndGrantedWait wait) a b step key = λ waiter among unsettled. inl (within _ _ waiter (step.waiting key) among)
  waits-since (EndLostWait at gone) a b step key =
      at_any (λ k. (waiter : Waiter) → Contains (b.waiting k) waiter → waiter.state ≡ Unsettled → Contains (a.waiting k) waiter ⊎ ⊥) at key
      (λ waiter among unsettled. inl (gone-before gone (a.waiting at) (b.waiting at) step.leaves waiter among))
      (λ other waiter among unsettled. inl (within _ _ waiter (step.elsewhere key other) among))
  waits-since (Release ticket) a b step key = λ waiter among unsettled. inl (within _ _ waiter (step.rest.waits.waiting key) among)
  waits-since (Upgrade ticket mode) a b step key = λ waiter among unsettled. inl (within _ _ waiter (step.rest.waits.waiting key) among)
  waits-since (Merge old new) a b step key = λ waiter among unsettled. inl (within _ _ waiter (step.rest.waits.waiting key) among)
  waits-since (Downgrade ticket mode) a b step key = λ waiter among unsettled. inl (within _ _ waiter (step.rest.waits.waiting key) among)
  waits-since (ChangeDefinition ticket change) a b step key = λ waiter among unsettled. inl (within _ _ waiter (step.waits.waiting key) among)

  -- what begins to wait for cause isn't grantable
  begins-for_cause : (event : Event C) (a : System D) (key : KeyName) (waiter : Waiter) → WaitsForCause event a → Begins event key waiter
      → IsGrantable a waiter.ticket.session key waiter.ticket.mode → ⊥
  begins-for_cause (BeginWait at new) a key waiter cause begins grantable =
      cause (subst (λ k. IsGrantable a new.ticket.session k new.ticket.mode) begins.0
      (subst (λ (w : Waiter). IsGrantable a w.ticket.session key w.ticket.mode) begins.1 grantable))
  begins-for_cause _ a key waiter cause begins grantable = absurd begins

  pub step-forgets : (event : Event C) (a b : System D) → Happens apply event a b → FreesNothing event → WaitsForCause event a
      → (key : KeyName) → NoneForgottenAt a key → NoneForgottenAt b key
  step-forgets event a b step frees cause key none waiter among unsettled grantable =
      let before : IsGrantable a waiter.ticket.session key waiter.ticket.mode =
      more-blocks a b key (step-blocks apply event a b step frees key) waiter.ticket.session waiter.ticket.mode grantable in
      elim (waits-since event a b step key waiter among unsettled) [
        | inl waited ↦ none waiter waited unsettled before
        | inr begins ↦ begins-for_cause event a key waiter cause begins before
      ]

-- ---- other keys

-- a ticket of this key is none of another
not_there : (t held : Holding) (key : KeyName) → (t.key ≡ key → ⊥) → held.key ≡ key → held ≢ t
not_there t held key elsewhere same_key e = elsewhere (ap (λ (x : Holding). x.key) (sym e) ∙ same_key)

module _ {C D : Type 0} (apply : KeyName → C → Option D → Option (Option D)) where
  waiting-there : (event : Event C) (a b : System D) → Happens apply event a b → (key : KeyName) → (IsAbout event key → ⊥) → b.waiting key ≡ a.waiting key
  waiting-there (Grant ticket) a b step key elsewhere = step.rest.waits.waiting key
  waiting-there (Clone first second) a b step key elsewhere = step.rest.waits.waiting key
  waiting-there (BeginWait at new) a b step key elsewhere = step.elsewhere key (λ e. elsewhere (sym e))
  waiting-there (GrantWaiter at gone) a b step key elsewhere = step.elsewhere key (λ e. elsewhere (sym e))
  waiting-there (SettleLost at gone how) a b step key elsewhere = step.elsewhere key (λ e. elsewhere (sym e))
  waiting-there (EndGrantedWait wait) a b step key elsewhere = step.waiting key
  waiting-there (EndLostWait at gone) a b step key elsewhere = step.elsewhere key (λ e. elsewhere (sym e))
  waiting-there (Release ticket) a b step key elsewhere = step.rest.waits.waiting key
  waiting-there (Upgrade ticket mode) a b step key elsewhere = step.rest.waits.waiting key
  waiting-there (Merge old new) a b step key elsewhere = step.rest.waits.waiting key
  waiting-there (Downgrade ticket mode) a b step key elsewhere = step.rest.waits.waiting key
  waiting-there (ChangeDefinition ticket change) a b step key elsewhere = step.waits.waiting key

  granted-there : (event : Event C) (a b : System D) → Happens apply event a b → (key : KeyName) → (IsAbout event key → ⊥)
      → (held : Holding) → held.key ≡ key → Contains b.granted held ↔ Contains a.granted held
  granted-there (Grant ticket) a b step key elsewhere held here = gained-others ticket a.granted b.granted step.granted held (not_there ticket held key elsewhere here)
  granted-there (Clone first second) a b step key elsewhere held here = gained-others second a.granted b.granted step.granted held (not_there second held key elsewhere here)
  granted-there (BeginWait at new) a b step key elsewhere held here = step.granted held
  granted-there (GrantWaiter at gone) a b step key elsewhere held here =
      gained-others (granted_ticket at gone) a.granted b.granted step.granted held (not_there (granted_ticket at gone) held key elsewhere here)
  granted-there (SettleLost at gone how) a b step key elsewhere held here = step.granted held
  granted-there (EndGrantedWait wait) a b step key elsewhere held here = step.granted held
  granted-there (EndLostWait at gone) a b step key elsewhere held here = step.granted held
  granted-there (Release ticket) a b step key elsewhere held here = lost-others ticket a.granted b.granted step.granted held (not_there ticket held key elsewhere here)
  granted-there (Upgrade ticket mode) a b step key elsewhere held here =
      replaced-others ticket (in_mode mode ticket) a.granted b.granted step.granted held (not_there ticket held key elsewhere here) (not_there (in_mode mode ticket) held key elsewhere here)
  granted-there (Merge old new) a b step key elsewhere held here = (
    (λ among. elim ((step.granted held).0 among) [ inl before ↦ before.0 | inr e ↦ absurd (not_there (in_mode new.mode old) held key elsewhere here e) ]),
    λ among. (step.granted held).1 (inl (among, not_there old held key elsewhere here, not_there new held key (λ e. elsewhere (sym step.same_key ∙ e)) here)),
  )
  granted-there (Downgrade ticket mode) a b step key elsewhere held here =
      replaced-others ticket (in_mode mode ticket) a.granted b.granted step.granted held (not_there ticket held key elsewhere here) (not_there (in_mode mode ticket) held key elsewhere here)
  granted-there (ChangeDefinition ticket change) a b step key elsewhere held here = step.granted held

-- the same tickets there make the same grantable
grantable-same : {D : Type 0} (a b : System D) (key : KeyName) → b.waiting key ≡ a.waiting key
    → ((held : Holding) → held.key ≡ key → Contains b.granted held → Contains a.granted held)
    → (session : ℕ) (mode : Mode) → IsGrantable a session key mode → IsGrantable b session key mode
grantable-same a b key waiting granted session mode grantable =
    ((λ held among here. grantable.0 held (granted held here among) here), λ waiter among. grantable.1 waiter (within _ _ waiter waiting among))

module _ {C D : Type 0} (apply : KeyName → C → Option D → Option (Option D)) where
  pub step-concerns : (event : Event C) (a b : System D) → Happens apply event a b → (key : KeyName) → (IsAbout event key → ⊥)
      → (b.waiting key ≡ a.waiting key) × ((session : ℕ) (mode : Mode) → IsGrantable b session key mode ↔ IsGrantable a session key mode)
  step-concerns event a b step key elsewhere =
      let waiting = waiting-there apply event a b step key elsewhere in
      let granted = granted-there apply event a b step key elsewhere in (
        waiting,
        λ session mode. (
          grantable-same b a key (sym waiting) (λ held here. (granted held here).1) session mode,
          grantable-same a b key waiting (λ held here. (granted held here).0) session mode,
        ),
      )

  -- so none is forgotten at another key
  pub step-elsewhere : (event : Event C) (a b : System D) → Happens apply event a b → (key : KeyName) → (IsAbout event key → ⊥)
      → NoneForgottenAt a key → NoneForgottenAt b key
  step-elsewhere event a b step key elsewhere none waiter among unsettled grantable =
      let same = step-concerns event a b step key elsewhere in
      none waiter (within _ _ waiter same.0 among) unsettled ((same.1 waiter.ticket.session waiter.ticket.mode).0 grantable)

  -- a grant of a waiter of one key is about no other
  grants-elsewhere : (event : Event C) (at key : KeyName) → IsGrantAt at event → key ≢ at → IsAbout event key → ⊥
  grants-elsewhere (GrantWaiter here waiter) at key grants other about = other (sym about ∙ grants)
  grants-elsewhere _ at key grants other about = absurd grants

  run-elsewhere : (events : List (Event C)) (a b : System D) (at key : KeyName) → key ≢ at → All (IsGrantAt at) events → Run apply events a b
      → NoneForgottenAt a key → NoneForgottenAt b key
  run-elsewhere [] a b at key other grants run none = λ waiter among unsettled grantable.
      none waiter (within _ _ waiter (run.waits.waiting key) among) unsettled
      (grantable-same b a key (sym (run.waits.waiting key)) (λ held _. (run.granted held).1) waiter.ticket.session waiter.ticket.mode grantable)
  run-elsewhere (event ∷ events) a b at key other grants run none =
      run-elsewhere events run.0 b at key other (All-tail (IsGrantAt at) event events grants) run.2
      (step-elsewhere event a run.0 run.1 key (grants-elsewhere event at key (All-head (IsGrantAt at) event events grants) other) none)

  pub granting-there : (event : Event C) (events : List (Event C)) (a b c : System D) (key : KeyName)
      → ((other : KeyName) → IsAbout event other → other ≡ key) → Happens apply event a b → All (IsGrantAt key) events → Run apply events b c
      → NoneForgottenAt c key → NoneForgotten a → NoneForgotten c
  granting-there event events a b c key alone step grants run here none other =
      at_any (NoneForgottenAt c) key other here
      (λ elsewhere. run-elsewhere events b c key other elsewhere grants run
      (step-elsewhere event a b step other (λ about. elsewhere (alone other about)) (none other)))
