-- A lawful system stays lawful.
use Rattle.std.proofs.Common.{◌≡◌, ◌⊎◌, ℕ, Bool, true, false, ◌||◌, not, inl, inr, List, [], ◌∷◌, Option, refl, sym, subst, ◌∙◌}
use Rattle.std.specs.Prelude.{Contains}
use Rattle.std.specs.List.{list_all}
use Rattle.std.proofs.lemmas.List.Elements.{All-nil, All-cons, All-contains}
use Rattle.mdl_key.specs.declared.namespace.Kind.{Kind}
use Rattle.mdl_key.specs.declared.namespace.Kind.TheVariants.{Scoped, Object}
use Rattle.mdl_key.specs.declared.mode.Mode.{Mode}
use Rattle.mdl_key.specs.declared.mode.Mode.TheVariants.{SU, SNW, X}
use Rattle.mdl_key.specs.Words.{IsAtLeast, KeyName, clashes, Clashes, all_modes}
use Rattle.mdl_key.proofs.MatrixLemmas.{each_mode, clashes-symmetric}
use Rattle.mdl_system.specs.Systems.{Holding, System, empty_system, lock_kind, IsLawful, IsCompatible}
use Rattle.mdl_system.specs.Events.{Event, Grant, Clone, BeginWait, GrantWaiter, SettleLost, EndGrantedWait, EndLostWait, Release, Upgrade, Merge, Downgrade, ChangeDefinition, Happens, Run, in_mode, granted_ticket}
use Rattle.mdl_system.specs.Strength.{downgrades}

-- ---- modes

pub implied : (p q : Bool) → (not p || q) ≡ true → p ≡ true → q ≡ true
implied true q e h = e
implied false q e h = absurd (cc)

-- whatever clashes with the one clashes with the other
abbrev covers : Kind → Mode → Mode → Mode → Bool
covers kind a b held = not (clashes kind b held) || clashes kind a held

at_least-from_all : (kind : Kind) (a b : Mode) → list_all (covers kind a b) all_modes ≡ true → IsAtLeast kind a b
at_least-from_all kind a b all held = implied _ _ (each_mode (covers kind a b) all held)

exclusive-at_least : (kind : Kind) (b : Mode) → IsAtLeast kind X b
exclusive-at_least Scoped b = at_least-from_all Scoped X b (each_mode (λ m. list_all (covers Scoped X m) all_modes) refl b)
exclusive-at_least Object b = at_least-from_all Object X b (each_mode (λ m. list_all (covers Object X m) all_modes) refl b)

no_write-at_least : (kind : Kind) → IsAtLeast kind SNW SU
no_write-at_least Scoped = at_least-from_all Scoped SNW SU refl
no_write-at_least Object = at_least-from_all Object SNW SU refl

-- a mode is at least as strong as those to which it may be downgraded
pub downgrades-at_least : (kind : Kind) (from to : Mode) → Contains (downgrades from) to → IsAtLeast kind from to
downgrades-at_least kind X to among = exclusive-at_least kind to
downgrades-at_least kind SNW to among =
    All-contains (IsAtLeast kind SNW) (SU ∷ []) to (All-cons (IsAtLeast kind SNW) SU [] (no_write-at_least kind) (All-nil (IsAtLeast kind SNW))) among
downgrades-at_least kind _ to among = absurd (All-contains (λ (_ : Mode). ⊥) [] to (All-nil (λ (_ : Mode). ⊥)) among)

-- ---- lawful systems

-- a clash, from the other side
clash-turned : (j k : KeyName) (m n : Mode) → j ≡ k → Clashes (lock_kind j) m n → Clashes (lock_kind k) n m
clash-turned j k m n e clash = subst (λ key. Clashes (lock_kind key) n m) e (clashes-symmetric (lock_kind j) n m ∙ clash)

module _ {D : Type 0} (a : System D) (lawful : IsLawful a) where
  -- what a granted ticket is at least as strong as clashes with no ticket of another session
  pub compatible-from_weaker : (held : Holding) (mode : Mode) → Contains a.granted held → IsAtLeast (lock_kind held.key) held.mode mode
      → IsCompatible a held.session held.key mode
  compatible-from_weaker held mode among at_least x x_among same_key other clash =
      lawful held x among x_among (sym same_key) (λ e. other (sym e)) (at_least x.mode clash)

  -- said of a session and a key that are the same
  pub compatible-from_same : (held : Holding) (session : ℕ) (key : KeyName) (mode : Mode) → Contains a.granted held → held.session ≡ session → key ≡ held.key
      → IsAtLeast (lock_kind held.key) held.mode mode → IsCompatible a session key mode
  compatible-from_same held session key mode among s k at_least =
      subst (λ j. IsCompatible a session j mode) (sym k)
      (subst (λ n. IsCompatible a n held.key mode) s (compatible-from_weaker held mode among at_least))

  -- so a system whose tickets are all of this one is lawful
  pub lawful-fewer : (b : System D) → ((x : Holding) → Contains b.granted x → Contains a.granted x) → IsLawful b
  lawful-fewer b was one other p q = lawful one other (was one p) (was other q)

  -- and one that has one ticket more, or one in the place of others, where that is compatible
  pub lawful-gained : (b : System D) (t : Holding) → IsCompatible a t.session t.key t.mode
      → ((x : Holding) → Contains b.granted x → Contains a.granted x ⊎ (x ≡ t)) → IsLawful b
  lawful-gained b t compatible was one other p q same_key apart clash = go (was one p) (was other q)
    where
      go : Contains a.granted one ⊎ (one ≡ t) → Contains a.granted other ⊎ (other ≡ t) → ⊥
      go (inl u) (inl v) = lawful one other u v same_key apart clash
      go (inl u) (inr v) =
          let key : one.key ≡ t.key = cc in
          let turned : Clashes (lock_kind t.key) other.mode one.mode = clash-turned one.key t.key one.mode other.mode key clash in
          compatible one u key (λ e. apart (cc)) (subst (λ (x : Holding). Clashes (lock_kind t.key) x.mode one.mode) v turned)
      go (inr u) (inl v) =
          let key : other.key ≡ t.key = cc in
          let straight : Clashes (lock_kind t.key) one.mode other.mode = subst (λ k. Clashes (lock_kind k) one.mode other.mode) (same_key ∙ key) clash in
          compatible other v key (λ e. apart (cc)) (subst (λ (x : Holding). Clashes (lock_kind t.key) x.mode other.mode) u straight)
      go (inr u) (inr v) = apart (cc)

-- nobody holds anything that could clash
pub empty-lawful : (D : Type 0) → IsLawful (empty_system {D = D})
empty-lawful D one other among = absurd (All-contains (λ (_ : Holding). ⊥) [] one (All-nil (λ (_ : Holding). ⊥)) among)

-- ---- steps

module _ {C D : Type 0} (apply : KeyName → C → Option D → Option (Option D)) where
  pub step-lawful : (event : Event C) (a b : System D) → Happens apply event a b → IsLawful a → IsLawful b
  step-lawful (Grant ticket) a b step lawful = lawful-gained a lawful b ticket step.grantable.0 (λ x. (step.granted x).0)
  step-lawful (Clone first second) a b step lawful = lawful-gained a lawful b second
      (compatible-from_same a lawful first second.session second.key second.mode step.held.0 step.held.1 step.same_key step.at_least)
      (λ x. (step.granted x).0)
  step-lawful (BeginWait key waiter) a b step lawful = lawful-fewer a lawful b (λ x. (step.granted x).0)
  step-lawful (GrantWaiter key waiter) a b step lawful = lawful-gained a lawful b (granted_ticket key waiter) step.grantable.0 (λ x. (step.granted x).0)
  step-lawful (SettleLost key waiter how) a b step lawful = lawful-fewer a lawful b (λ x. (step.granted x).0)
  step-lawful (EndGrantedWait wait) a b step lawful = lawful-fewer a lawful b (λ x. (step.granted x).0)
  step-lawful (EndLostWait key waiter) a b step lawful = lawful-fewer a lawful b (λ x. (step.granted x).0)
  step-lawful (Release ticket) a b step lawful = lawful-fewer a lawful b (λ x among. ((step.granted x).0 among).0)
  step-lawful (Upgrade ticket mode) a b step lawful = lawful-gained a lawful b (in_mode mode ticket) step.grantable.0
      (λ x among. elim ((step.granted x).0 among) [ inl old ↦ inl (old.0) | inr new ↦ inr new ])
  step-lawful (Merge old new) a b step lawful = lawful-gained a lawful b (in_mode new.mode old)
      (compatible-from_same a lawful new old.session old.key new.mode step.new_held.0 step.new_held.1 (sym step.same_key) (λ _ clash. clash))
      (λ x among. elim ((step.granted x).0 among) [ inl other ↦ inl (other.0) | inr merged ↦ inr merged ])
  step-lawful (Downgrade ticket mode) a b step lawful = lawful-gained a lawful b (in_mode mode ticket)
      (compatible-from_weaker a lawful ticket mode step.held.0 (downgrades-at_least (lock_kind ticket.key) ticket.mode mode step.weaker))
      (λ x among. elim ((step.granted x).0 among) [ inl old ↦ inl (old.0) | inr new ↦ inr new ])
  step-lawful (ChangeDefinition ticket change) a b step lawful = lawful-fewer a lawful b (λ x. (step.granted x).0)

  pub run-lawful : (events : List (Event C)) (a b : System D) → Run apply events a b → IsLawful a → IsLawful b
  run-lawful [] a b run lawful = lawful-fewer a lawful b (λ x. (run.granted x).0)
  run-lawful (event ∷ events) a b run lawful = run-lawful events run.0 b run.2 (step-lawful event a run.0 run.1 lawful)
