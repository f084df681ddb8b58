-- Why calls on held tickets are refused, in the words of a lock space.
use Rattle.std.proofs.Common.{rules, ◌≡◌, ◌≢◌, ℕ, Bool, true, false, not, ◌==◌, ◌&&◌, ◌||◌, is_some, Option, Some, None, List, if◌then◌else◌, refl, sym, ap, subst, ◌∙◌, eq-eqb, eqb-true}
use Rattle.mdl_system.proofs.StrengthLemmas.{upgrade-raises}
use Rattle.mdl_shared.proofs.FirstLemmas.{AlreadyWaiting, Ask, BadMode, Downgrade, IsCause, Kind, Knowledge, KnownKey, Knows, MayDowngrade, MayNotDowngrade, MayNotUpgrade, MayUpgrade, Merge, Mergeable, Mode, NotHeld, NotUpgradable, OfHeld, SessionLocks, SessionTicket, SessionView, SpaceError, Upgrade_now, and_from, and_left, and_parts, and_right, as_held, can_have, can_merge, covers, data_of, downgrade_fault, false≢true, fit-known, holds, holds-told, is_fit, is_here, is_mode_of, is_obtrusive, is_waiting, kind-of_key, kind_known, kind_of, may_downgrade, may_merge_told, may_upgrade, merge_fault, no-asks, numbered, of-held, test-failed, test-passed, tickets_seen, upgrade_fault, waits-asks}

-- ---- tests

-- where one of both is false, and it isn't this one, it is the other
pub other-false : (x y : Bool) → (x && y) ≡ false → x ≡ true → y ≡ false
other-false true y e is = e
other-false false y e is = cc

-- neither fault
two-clear : (can waits : Bool) (one other : SpaceError) → (if not can then Some one else (if waits then Some other else None)) ≡ None → (can ≡ true) × (waits ≡ false)
two-clear true false one other e = (refl, refl)
two-clear true true one other e = cc
two-clear false waits one other e = cc

-- an upgrade is to an obtrusive mode
rises : (kind : Kind) (held mode : Mode) → may_upgrade held mode ≡ true → is_obtrusive kind mode ≡ true
rises kind held mode may = search rules

-- that of a ticket is to a mode that covers the ticket's own, unless its mode covers the other one
pub upgrade-covers : (mode : Mode) (known : List KnownKey) (asks : Option Ask) (t : SessionTicket) → upgrade_fault mode known asks (Some t) ≡ None → covers t.mode mode ≡ false → covers mode t.mode ≡ true
upgrade-covers mode known asks t e short =
    (upgrade-raises t.mode mode (may (kind_known t.place known) (two-clear (can_have mode t (kind_known t.place known)) (is_some asks) NotUpgradable AlreadyWaiting e).0)).0
  where
    may : (k : Option Kind) → can_have mode t k ≡ true → may_upgrade t.mode mode ≡ true
    may None can = cc
    may (Some kind) can =
        let parts = and_parts (covers t.mode mode || may_upgrade t.mode mode) (is_mode_of kind mode) can in
        ap (λ b. b || may_upgrade t.mode mode) (sym short) ∙ parts.0

-- and to one of its lock's kind
pub upgrade-kind : (mode : Mode) (known : List KnownKey) (asks : Option Ask) (o : Option SessionTicket) (t : SessionTicket) → o ≡ Some t → upgrade_fault mode known asks o ≡ None
    → covers t.mode mode ≡ false → (kind : Kind) × (kind_known t.place known ≡ Some kind) × (is_mode_of kind mode ≡ true) × (is_obtrusive kind mode ≡ true) × (asks ≡ None)
upgrade-kind mode known asks o t its e short =
    by (kind_known t.place known) refl clear.0
  where
    clear : (can_have mode t (kind_known t.place known) ≡ true) × (is_some asks ≡ false)
    clear = two-clear (can_have mode t (kind_known t.place known)) (is_some asks) NotUpgradable AlreadyWaiting (sym (ap (upgrade_fault mode known asks) its) ∙ e)

    by : (k : Option Kind) → kind_known t.place known ≡ k → can_have mode t k ≡ true
        → (kind : Kind) × (kind_known t.place known ≡ Some kind) × (is_mode_of kind mode ≡ true) × (is_obtrusive kind mode ≡ true) × (asks ≡ None)
    by None is can = cc
    by (Some kind) is can =
        let parts = and_parts (covers t.mode mode || may_upgrade t.mode mode) (is_mode_of kind mode) can in
        (kind, is, parts.1, rises kind t.mode mode (ap (λ b. b || may_upgrade t.mode mode) (sym short) ∙ parts.0), no-asks asks 0 (waits-asks asks 0 ∙ clear.1))

-- whether two tickets may be merged, as they are told
merge-told : (kept gone : SessionTicket) → may_merge_told (as_held kept) (as_held gone) ≡ can_merge kept gone
merge-told kept gone = and-same (not (kept.number == gone.number)) (kept.place == gone.place) (covers gone.mode kept.mode)
  where
    and-same : (x y z : Bool) → (x && y && z) ≡ (x && (y && z))
    and-same true y z = refl
    and-same false y z = refl

-- ---- why they are refused

-- a ticket that is downgraded may be, and the mode fits its lock
pub downgrade-passed : (mode : Mode) (known : List KnownKey) (o : Option SessionTicket) (t : SessionTicket) → o ≡ Some t → downgrade_fault o mode known ≡ None
    → (may_downgrade t.mode mode ≡ true) × (is_fit t.place mode known ≡ true)
downgrade-passed mode known o t its e =
    and_parts (may_downgrade t.mode mode) (is_fit t.place mode known)
    (test-passed (may_downgrade t.mode mode && is_fit t.place mode known) NotUpgradable (sym (ap (λ x. downgrade_fault x mode known) its) ∙ e))

-- tickets that are merged are two, of one place, and the mode of the one that goes covers that of the other
pub merge-passed : (kept gone : SessionTicket) (asks : Option Ask) → merge_fault (Some kept) (Some gone) asks ≡ None
    → (kept.number ≢ gone.number) × (kept.place ≡ gone.place) × (covers gone.mode kept.mode ≡ true)
merge-passed kept gone asks e = by (is_some asks) e
  where
    by : (waits : Bool) → (if waits then Some AlreadyWaiting else (if can_merge kept gone then None else Some BadMode)) ≡ None
        → (kept.number ≢ gone.number) × (kept.place ≡ gone.place) × (covers gone.mode kept.mode ≡ true)
    by true e = cc
    by false e =
        let may = test-passed (can_merge kept gone) BadMode e in
        let parts = and_parts (not (kept.number == gone.number)) (kept.place == gone.place && covers gone.mode kept.mode) may in
        let rest = and_parts (kept.place == gone.place) (covers gone.mode kept.mode) parts.1 in
        (λ same. false≢true (ap not (sym (eq-eqb kept.number gone.number same)) ∙ parts.0), eqb-true kept.place gone.place rest.0, rest.1)

-- without a wait of the session
pub merge-idle : (kept gone : SessionTicket) (asks : Option Ask) → merge_fault (Some kept) (Some gone) asks ≡ None → asks ≡ None
merge-idle kept gone None e = refl
merge-idle kept gone (Some a) e = cc

-- so they are at one place
pub merge-here : (kept gone : SessionTicket) (asks : Option Ask) → merge_fault (Some kept) (Some gone) asks ≡ None → is_here kept.place gone ≡ true
merge-here kept gone asks e = eq-eqb gone.place kept.place (sym (merge-passed kept gone asks e).1)

module _ (m : SessionView) where
  abbrev pub knows : Knowledge
  knows = Knows (data_of m) m.me.0.number

  abbrev pub own : SessionLocks
  own = (data_of m).own

  -- a downgrade
  pub downgrade-clear : (id : ℕ) (mode : Mode) (t : SessionTicket) → numbered id (tickets_seen m.me.0) ≡ Some t → downgrade_fault (numbered id (tickets_seen m.me.0)) mode m.me.0.known ≡ None
      → OfHeld id own (MayDowngrade knows mode)
  downgrade-clear id mode t its e =
      let may = downgrade-passed mode m.me.0.known (numbered id (tickets_seen m.me.0)) t its e in
      of-held id (tickets_seen m.me.0) t (MayDowngrade knows mode) its (may.0, fit-known t.place mode m.me.0.known true may.1)

  pub downgrade-cause : (who id : ℕ) (mode : Mode) (why : SpaceError) (o : Option SessionTicket) → numbered id (tickets_seen m.me.0) ≡ o → downgrade_fault o mode m.me.0.known ≡ Some why
      → IsCause knows (Downgrade who id mode) why own
  downgrade-cause who id mode why None its e =
      let is : why ≡ NotHeld = cc in
      subst (λ w. IsCause knows (Downgrade who id mode) w own) (sym is) (holds-told id (tickets_seen m.me.0) false (ap is_some its))
  downgrade-cause who id mode why (Some t) its e =
      let b = test-failed (may_downgrade t.mode mode && is_fit t.place mode m.me.0.known) NotUpgradable why e in
      subst (λ w. IsCause knows (Downgrade who id mode) w own) (sym b.1)
      (of-held id (tickets_seen m.me.0) t (MayNotDowngrade knows mode) its (λ may.
      fit-known t.place mode m.me.0.known false (other-false (may_downgrade t.mode mode) (is_fit t.place mode m.me.0.known) b.0 may)))

  -- an upgrade
  may-have : (mode : Mode) (t : SessionTicket) → can_have mode t (kind_known t.place m.me.0.known) ≡ true → MayUpgrade knows mode (as_held t)
  may-have mode t can = (
    some-kind (kind_known t.place m.me.0.known) can,
    λ key is. (and_parts (covers t.mode mode || may_upgrade t.mode mode) (is_mode_of (kind_of key.namespace) mode)
        (subst (λ o. can_have mode t o ≡ true) (kind-of_key t.place m.me.0.known key is) can)).1,
  )
    where
      some-kind : (o : Option Kind) → can_have mode t o ≡ true → (covers t.mode mode || may_upgrade t.mode mode) ≡ true
      some-kind None e = cc
      some-kind (Some kind) e = (and_parts (covers t.mode mode || may_upgrade t.mode mode) (is_mode_of kind mode) e).0

  may-not_have : (mode : Mode) (t : SessionTicket) → can_have mode t (kind_known t.place m.me.0.known) ≡ false → MayNotUpgrade knows mode (as_held t)
  may-not_have mode t can = λ may key is.
      other-false (covers t.mode mode || may_upgrade t.mode mode) (is_mode_of (kind_of key.namespace) mode)
      (subst (λ o. can_have mode t o ≡ false) (kind-of_key t.place m.me.0.known key is) can) may

  pub upgrade-clear : (id : ℕ) (mode : Mode) (t : SessionTicket) → numbered id (tickets_seen m.me.0) ≡ Some t → upgrade_fault mode m.me.0.known m.me.0.asks (Some t) ≡ None
      → (is_waiting own ≡ false) × OfHeld id own (MayUpgrade knows mode)
  upgrade-clear id mode t its e =
      let parts = two-clear (can_have mode t (kind_known t.place m.me.0.known)) (is_some m.me.0.asks) NotUpgradable AlreadyWaiting e in (
        waits-asks m.me.0.asks m.me.0.waits ∙ parts.1,
        of-held id (tickets_seen m.me.0) t (MayUpgrade knows mode) its (may-have mode t parts.0),
      )

  pub upgrade-cause : (who id : ℕ) (mode : Mode) (why : SpaceError) (o : Option SessionTicket) → numbered id (tickets_seen m.me.0) ≡ o
      → upgrade_fault mode m.me.0.known m.me.0.asks o ≡ Some why → IsCause knows (Upgrade_now who id mode) why own
  upgrade-cause who id mode why None its e =
      let is : why ≡ NotHeld = cc in
      subst (λ w. IsCause knows (Upgrade_now who id mode) w own) (sym is) (holds-told id (tickets_seen m.me.0) false (ap is_some its))
  upgrade-cause who id mode why (Some t) its e = by (can_have mode t (kind_known t.place m.me.0.known)) refl (is_some m.me.0.asks) refl e
    where
      by : (can : Bool) → can_have mode t (kind_known t.place m.me.0.known) ≡ can → (waits : Bool) → is_some m.me.0.asks ≡ waits
          → (if not can then Some NotUpgradable else (if waits then Some AlreadyWaiting else None)) ≡ Some why → IsCause knows (Upgrade_now who id mode) why own
      by false can waits asks e =
          let is : why ≡ NotUpgradable = cc in
          subst (λ w. IsCause knows (Upgrade_now who id mode) w own) (sym is) (of-held id (tickets_seen m.me.0) t (MayNotUpgrade knows mode) its (may-not_have mode t can))
      by true can true asks e =
          let is : why ≡ AlreadyWaiting = cc in
          subst (λ w. IsCause knows (Upgrade_now who id mode) w own) (sym is)
          (waits-asks m.me.0.asks m.me.0.waits ∙ asks, of-held id (tickets_seen m.me.0) t (MayUpgrade knows mode) its (may-have mode t can))
      by true can false asks e = cc

  -- a merge
  mergeable : (old new : ℕ) (kept gone : SessionTicket) (b : Bool) → numbered old (tickets_seen m.me.0) ≡ Some kept → numbered new (tickets_seen m.me.0) ≡ Some gone
      → can_merge kept gone ≡ b → Mergeable b old new own
  mergeable old new kept gone b one other may =
      of-held old (tickets_seen m.me.0) kept (λ k. OfHeld new own (λ g. may_merge_told k g ≡ b)) one
      (of-held new (tickets_seen m.me.0) gone (λ g. may_merge_told (as_held kept) g ≡ b) other (merge-told kept gone ∙ may))

  pub merge-clear : (old new : ℕ) (kept gone : SessionTicket) → numbered old (tickets_seen m.me.0) ≡ Some kept → numbered new (tickets_seen m.me.0) ≡ Some gone
      → merge_fault (Some kept) (Some gone) m.me.0.asks ≡ None → (is_waiting own ≡ false) × Mergeable true old new own
  merge-clear old new kept gone one other e = by (is_some m.me.0.asks) refl e
    where
      by : (waits : Bool) → is_some m.me.0.asks ≡ waits → (if waits then Some AlreadyWaiting else (if can_merge kept gone then None else Some BadMode)) ≡ None
          → (is_waiting own ≡ false) × Mergeable true old new own
      by true asks e = cc
      by false asks e = (waits-asks m.me.0.asks m.me.0.waits ∙ asks, mergeable old new kept gone true one other (test-passed (can_merge kept gone) BadMode e))

  pub merge-cause : (who old new : ℕ) (why : SpaceError) (o p : Option SessionTicket) → numbered old (tickets_seen m.me.0) ≡ o → numbered new (tickets_seen m.me.0) ≡ p
      → merge_fault o p m.me.0.asks ≡ Some why → IsCause knows (Merge who old new) why own
  merge-cause who old new why None p one other e =
      let is : why ≡ NotHeld = cc in
      subst (λ w. IsCause knows (Merge who old new) w own) (sym is) (and_left _ (holds new own) (holds-told old (tickets_seen m.me.0) false (ap is_some one)))
  merge-cause who old new why (Some kept) None one other e =
      let is : why ≡ NotHeld = cc in
      subst (λ w. IsCause knows (Merge who old new) w own) (sym is) (and_right (holds old own) _ (holds-told new (tickets_seen m.me.0) false (ap is_some other)))
  merge-cause who old new why (Some kept) (Some gone) one other e = by (is_some m.me.0.asks) refl e
    where
      by : (waits : Bool) → is_some m.me.0.asks ≡ waits → (if waits then Some AlreadyWaiting else (if can_merge kept gone then None else Some BadMode)) ≡ Some why
          → IsCause knows (Merge who old new) why own
      by true asks e =
          let is : why ≡ AlreadyWaiting = cc in
          subst (λ w. IsCause knows (Merge who old new) w own) (sym is)
          (and_from _ _ (holds-told old (tickets_seen m.me.0) true (ap is_some one)) (holds-told new (tickets_seen m.me.0) true (ap is_some other)), waits-asks m.me.0.asks m.me.0.waits ∙ asks)
      by false asks e =
          let b = test-failed (can_merge kept gone) BadMode why e in
          subst (λ w. IsCause knows (Merge who old new) w own) (sym b.1)
          (waits-asks m.me.0.asks m.me.0.waits ∙ asks, mergeable old new kept gone false one other b.0)
