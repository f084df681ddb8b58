-- The first cause that stands against a call is answered.
use Rattle.std.proofs.Common.{◌≡◌, ◌≢◌, ℕ, ◌-◌, ◌^◌, Bool, true, false, not, List, [], ◌∷◌, is_some, inl, inr, nat_le, Option, Some, None, option_map, if◌then◌else◌, drop, refl, ap, ◌∙◌}
use Rattle.std.proofs.lemmas.Bool.{le-leb}
use Rattle.std.proofs.lemmas.Bool.Decides.{leb_tells}
use Rattle.mdl_key.specs.declared.mode.Mode.{Mode}
use Rattle.mdl_key.specs.declared.mode.Mode.TheVariants.{X}
use Rattle.mdl_key.specs.Words.{same_mode}
use Rattle.mdl_defs.specs.declared.change.Change.{Change}
use Rattle.mdl_defs.specs.declared.change_error.ChangeError.{ChangeError}
use Rattle.mdl_defs.specs.declared.change_error.ChangeError.TheVariants as why_not
use Rattle.mdl_defs.specs.declared.def_error.DefError.{DefError}
use Rattle.mdl_defs.specs.Changes.{change_fault}
use Rattle.mdl_calls.specs.declared.answers.Held.{Held}
use Rattle.mdl_calls.specs.declared.space_error.SpaceError.{SpaceError}
use Rattle.mdl_calls.specs.declared.space_error.SpaceError.TheVariants.{NoPlace, NotHeld, NotUpgradable, NotExclusive, AlreadyWaiting, BadMode, InUse, VersionFull, CounterFull, Full, Def, WrongKind}
use Rattle.mdl_calls.specs.Words.{Answer, Refused, Done, Would_wait, may_merge}
use Rattle.mdl_core.specs.CoreCalls.{is_needed, unpin_causes, refused_or, first_cause, request_causes, clone_causes, held_ticket, upgrade_causes, upgraded_if_free, is_lower, downgrading_of, merge_causes, merging_of, queued_unless_full, granted_unless_full, is_counted_out, is_full, redefining_fault, redefined_unless, redefining_of}
use Rattle.mdl_core.specs.Changes.{folding, serving}
use Rattle.mdl_core.specs.Cores.{Core, seat_at, standing_at, has_pin, is_free_for, unpinning}
use Rattle.mdl_core.specs.declared.pending.Pending.{Pending}
use Rattle.mdl_core.specs.RefusalLaws.{IsIdle, is_mode_at, serves_for, is_upgradable, suits_place, MayChangeThere, RefusesWishesInOrder, RefusesUnpinsInOrder, RefusesClonesInOrder, RefusesNewModesInOrder, RefusesMergesInOrder, RefusesChangesInOrder}
use Rattle.mdl_core.specs.SessionLaws.{HasWait, Needs, HasNoNumber, HasNoRoom, HasNoVersion}
use Rattle.mdl_core.proofs.CallCases.{not-exclusive}
use Rattle.mdl_core.proofs.NeededPlaces.{needs-told, needs-from}

-- a cause that stands is answered, and one that doesn't is passed over
module _ (core : Core) (end : Answer × Core) where
  answered : (cause : Bool) (refusal : SpaceError) (later : List (Bool × SpaceError)) → cause ≡ true
      → refused_or (first_cause ((cause, refusal) ∷ later)) core end ≡ (Refused refusal, core)
  answered true refusal later stands = refl
  answered false refusal later stands = cc

  passed : (cause : Bool) (refusal : SpaceError) (later : List (Bool × SpaceError)) → cause ≡ false
      → refused_or (first_cause ((cause, refusal) ∷ later)) core end ≡ refused_or (first_cause later) core end
  passed true refusal later none = cc
  passed false refusal later none = refl

-- what the tests of a call say
taken : {A : Type 0} (test : Bool) (x y : A) → test ≡ true → (if test then x else y) ≡ x
taken true x y met = refl
taken false x y met = cc

passed_by : {A : Type 0} (test : Bool) (x y : A) → test ≡ false → (if test then x else y) ≡ y
passed_by true x y unmet = cc
passed_by false x y unmet = refl

counted-out : (core : Core) (who : ℕ) → HasNoNumber core who → is_counted_out who core ≡ true
counted-out core who none = le-leb _ _ none

not-counted_out : (core : Core) (who : ℕ) → (HasNoNumber core who → ⊥) → is_counted_out who core ≡ false
not-counted_out core who some = elim (leb_tells (2 ^ 60 - 1) (seat_at who core).last_ticket) [
  | inl none ↦ absurd (some none.1)
  | inr few ↦ few.0
]

-- ---- a lock is asked for

-- so many causes are passed over, and this would come of it if it weren't refused
abbrev pub wished : ℕ → Core → ℕ → ℕ → Mode → Answer × Core → Answer × Core
wished past core who place mode end = refused_or (first_cause (drop past (request_causes who place mode core))) core end

module _ (core : Core) (who place : ℕ) (mode : Mode) (end : Answer × Core) where
  no-place : has_pin who place core ≡ false → wished 0 core who place mode end ≡ (Refused NoPlace, core)
  no-place absent = answered core end (not (has_pin who place core)) NoPlace (drop 1 (request_causes who place mode core)) (ap not absent)

  past-place : has_pin who place core ≡ true → wished 0 core who place mode end ≡ wished 1 core who place mode end
  past-place there = passed core end (not (has_pin who place core)) NoPlace (drop 1 (request_causes who place mode core)) (ap not there)

  wish-waiting : has_pin who place core ≡ true → (wait : Pending) → HasWait core who wait
      → wished 0 core who place mode end ≡ (Refused AlreadyWaiting, core)
  wish-waiting there wait waits =
      past-place there ∙ answered core end (is_some (seat_at who core).wait) AlreadyWaiting (drop 2 (request_causes who place mode core)) (ap is_some waits)

  past-wait : has_pin who place core ≡ true → IsIdle core who → wished 0 core who place mode end ≡ wished 2 core who place mode end
  past-wait there idle =
      past-place there ∙ passed core end (is_some (seat_at who core).wait) AlreadyWaiting (drop 2 (request_causes who place mode core)) (ap is_some idle)

  bad-mode : has_pin who place core ≡ true → IsIdle core who → is_mode_at place mode core ≡ false
      → wished 0 core who place mode end ≡ (Refused BadMode, core)
  bad-mode there idle bad =
      past-wait there idle ∙ answered core end (not (is_mode_at place mode core)) BadMode (drop 3 (request_causes who place mode core)) (ap not bad)

  no-number : has_pin who place core ≡ true → IsIdle core who → is_mode_at place mode core ≡ true → HasNoNumber core who
      → wished 0 core who place mode end ≡ (Refused CounterFull, core)
  no-number there idle fits none =
      past-wait there idle ∙ passed core end (not (is_mode_at place mode core)) BadMode (drop 3 (request_causes who place mode core)) (ap not fits)
      ∙ answered core end (is_counted_out who core) CounterFull [] (counted-out core who none)

-- each call that asks for a lock
pub refuses-wishes_in_order : RefusesWishesInOrder
refuses-wishes_in_order core who place mode call asks = elim asks [
  | inl now ↦ rw now (no-place core who place mode tried, wish-waiting core who place mode tried, bad-mode core who place mode tried, no-number core who place mode tried)
  | inr later ↦ rw later (no-place core who place mode begun, wish-waiting core who place mode begun, bad-mode core who place mode begun, no-number core who place mode begun)
]
  where
    tried : Answer × Core
    tried = if not (is_free_for who place mode core) then (Would_wait, core) else granted_unless_full who place mode core

    begun : Answer × Core
    begun = if not (is_free_for who place mode core) then queued_unless_full who place mode core else granted_unless_full who place mode core

-- ---- a pin is given up

module _ (core : Core) (who place : ℕ) where
  -- it is, if so many causes are passed over and no other stands
  abbrev unpinned : ℕ → Answer × Core
  unpinned past = refused_or (first_cause (drop past (unpin_causes who place core))) core (Done, unpinning who place core)

  past-pin : has_pin who place core ≡ true → unpinned 0 ≡ unpinned 1
  past-pin pin = passed core (Done, unpinning who place core) (not (has_pin who place core)) NoPlace (drop 1 (unpin_causes who place core)) (ap not pin)

  not-needed : (needed : Bool) → is_needed who place core ≡ needed → (Needs core who place → ⊥) → is_needed who place core ≡ false
  not-needed true e none = absurd (none (needs-told core who place e))
  not-needed false e none = e

pub refuses-unpins_in_order : RefusesUnpinsInOrder
refuses-unpins_in_order core who place = (
  (λ none. answered core (Done, unpinning who place core) (not (has_pin who place core)) NoPlace (drop 1 (unpin_causes who place core)) (ap not none)),
  (λ pin needs. past-pin core who place pin
      ∙ answered core (Done, unpinning who place core) (is_needed who place core) InUse [] (needs-from core who place needs)),
  λ pin none. past-pin core who place pin
      ∙ passed core (Done, unpinning who place core) (is_needed who place core) InUse [] (not-needed core who place (is_needed who place core) refl none),
)

-- ---- a second ticket is asked for

-- so many causes are passed over, and else it is granted where there is room
abbrev pub copied : ℕ → Core → ℕ → Mode → Held → Answer × Core
copied past core who mode ticket =
    refused_or (first_cause (drop past (clone_causes who mode ticket core))) core (granted_unless_full who ticket.place mode core)

module _ (core : Core) (who id : ℕ) (mode : Mode) (ticket : Held) where
  clone-waiting : (wait : Pending) → HasWait core who wait → copied 0 core who mode ticket ≡ (Refused AlreadyWaiting, core)
  clone-waiting wait waits =
      answered core (granted_unless_full who ticket.place mode core) (is_some (seat_at who core).wait) AlreadyWaiting (drop 1 (clone_causes who mode ticket core)) (ap is_some waits)

  clone-idle : IsIdle core who → copied 0 core who mode ticket ≡ copied 1 core who mode ticket
  clone-idle idle =
      passed core (granted_unless_full who ticket.place mode core) (is_some (seat_at who core).wait) AlreadyWaiting (drop 1 (clone_causes who mode ticket core)) (ap is_some idle)

  clone-unfit : IsIdle core who → serves_for ticket mode core ≡ false → copied 0 core who mode ticket ≡ (Refused BadMode, core)
  clone-unfit idle unfit =
      clone-idle idle ∙ answered core (granted_unless_full who ticket.place mode core) (not (serves_for ticket mode core)) BadMode (drop 2 (clone_causes who mode ticket core)) (ap not unfit)

  clone-fit : IsIdle core who → serves_for ticket mode core ≡ true → copied 0 core who mode ticket ≡ copied 2 core who mode ticket
  clone-fit idle fits =
      clone-idle idle ∙ passed core (granted_unless_full who ticket.place mode core) (not (serves_for ticket mode core)) BadMode (drop 2 (clone_causes who mode ticket core)) (ap not fits)

  clone-no_number : IsIdle core who → serves_for ticket mode core ≡ true → HasNoNumber core who → copied 0 core who mode ticket ≡ (Refused CounterFull, core)
  clone-no_number idle fits none =
      clone-fit idle fits ∙ answered core (granted_unless_full who ticket.place mode core) (is_counted_out who core) CounterFull [] (counted-out core who none)

  clone-no_room : IsIdle core who → serves_for ticket mode core ≡ true → (HasNoNumber core who → ⊥) → HasNoRoom core ticket.place
      → copied 0 core who mode ticket ≡ (Refused Full, core)
  clone-no_room idle fits some full =
      clone-fit idle fits ∙ passed core (granted_unless_full who ticket.place mode core) (is_counted_out who core) CounterFull [] (not-counted_out core who some)
      ∙ taken (is_full ticket.place core) _ _ (le-leb _ _ full)

pub refuses-clones_in_order : RefusesClonesInOrder
refuses-clones_in_order core who id mode = (
  λ none. rw none refl,
  λ ticket held. rw held (clone-waiting core who id mode ticket, clone-unfit core who id mode ticket, clone-no_number core who id mode ticket, clone-no_room core who id mode ticket),
)

-- ---- another mode is asked for

-- so many causes are passed over, and else the ticket is upgraded where that can be
abbrev pub raised : ℕ → Core → ℕ → Mode → Held → Answer × Core
raised past core who mode ticket = refused_or (first_cause (drop past (upgrade_causes who mode ticket core))) core (upgraded_if_free who mode ticket core)

module _ (core : Core) (who : ℕ) (mode : Mode) (ticket : Held) where
  raise-unfit : is_upgradable ticket mode core ≡ false → raised 0 core who mode ticket ≡ (Refused NotUpgradable, core)
  raise-unfit unfit =
      answered core (upgraded_if_free who mode ticket core) (not (is_upgradable ticket mode core)) NotUpgradable (drop 1 (upgrade_causes who mode ticket core)) (ap not unfit)

  raise-waiting : is_upgradable ticket mode core ≡ true → (wait : Pending) → HasWait core who wait → raised 0 core who mode ticket ≡ (Refused AlreadyWaiting, core)
  raise-waiting fits wait waits =
      passed core (upgraded_if_free who mode ticket core) (not (is_upgradable ticket mode core)) NotUpgradable (drop 1 (upgrade_causes who mode ticket core)) (ap not fits)
      ∙ answered core (upgraded_if_free who mode ticket core) (is_some (seat_at who core).wait) AlreadyWaiting [] (ap is_some waits)

  lower-unfit : is_lower mode ticket core ≡ false → downgrading_of who mode (Some ticket) core ≡ (Refused NotUpgradable, core)
  lower-unfit unfit = taken (not (is_lower mode ticket core)) _ _ (ap not unfit)

  lower-done : is_lower mode ticket core ≡ true → (downgrading_of who mode (Some ticket) core).0 ≡ Done
  lower-done fits = ap (λ (x : Answer × Core). x.0) (passed_by (not (is_lower mode ticket core)) _ _ (ap not fits))

pub refuses-new_modes_in_order : RefusesNewModesInOrder
refuses-new_modes_in_order core who id mode = (
  λ none. rw none (refl, refl),
  λ ticket held. rw held (raise-unfit core who mode ticket, raise-waiting core who mode ticket, lower-unfit core who mode ticket, lower-done core who mode ticket),
)

-- ---- two tickets are to become one

module _ (core : Core) (who : ℕ) (kept gone : Held) where
  abbrev merged : Answer × Core
  merged = (Done, serving kept.place (folding who kept gone core))

  merge-waiting : (wait : Pending) → HasWait core who wait → merging_of who (Some kept) (Some gone) core ≡ (Refused AlreadyWaiting, core)
  merge-waiting wait waits = answered core merged (is_some (seat_at who core).wait) AlreadyWaiting (drop 1 (merge_causes who kept gone core)) (ap is_some waits)

  merge-idle : IsIdle core who → merging_of who (Some kept) (Some gone) core ≡ refused_or (first_cause (drop 1 (merge_causes who kept gone core))) core merged
  merge-idle idle = passed core merged (is_some (seat_at who core).wait) AlreadyWaiting (drop 1 (merge_causes who kept gone core)) (ap is_some idle)

  merge-unfit : IsIdle core who → may_merge kept gone ≡ false → merging_of who (Some kept) (Some gone) core ≡ (Refused BadMode, core)
  merge-unfit idle unfit = merge-idle idle ∙ answered core merged (not (may_merge kept gone)) BadMode [] (ap not unfit)

  merge-done : IsIdle core who → may_merge kept gone ≡ true → (merging_of who (Some kept) (Some gone) core).0 ≡ Done
  merge-done idle fits = ap (λ (x : Answer × Core). x.0) (merge-idle idle ∙ passed core merged (not (may_merge kept gone)) BadMode [] (ap not fits))

lacking : (core : Core) (who : ℕ) (kept : Option Held) → merging_of who kept None core ≡ (Refused NotHeld, core)
lacking core who None = refl
lacking core who (Some kept) = refl

pub refuses-merges_in_order : RefusesMergesInOrder
refuses-merges_in_order core who old new = (
  λ none. rw none refl,
  λ none. ap (λ o. merging_of who (held_ticket who old core) o core) none ∙ lacking core who (held_ticket who old core),
  λ kept gone one other. rw (one, other) (merge-waiting core who kept gone, merge-unfit core who kept gone, merge-done core who kept gone),
)

-- ---- a change of a definition is asked for

module _ (core : Core) (change : Change) (ticket : Held) where
  abbrev changed : Answer × Core
  changed = redefining_of (Some ticket) change core

  -- as it is answered for this cause, or none
  abbrev for_cause : Option ChangeError → Answer × Core
  for_cause why = redefined_unless why ticket.place change core

  change-shared : ticket.mode ≢ X → changed ≡ (Refused NotExclusive, core)
  change-shared shared = taken (not (same_mode ticket.mode X)) _ _ (ap not (not-exclusive ticket.mode shared))

  change-exclusive : ticket.mode ≡ X → changed ≡ for_cause (redefining_fault ticket.place change core)
  change-exclusive exclusive = passed_by (not (same_mode ticket.mode X)) _ _ (ap (λ mode. not (same_mode mode X)) exclusive)

  change-no_version : ticket.mode ≡ X → HasNoVersion core ticket.place → changed ≡ (Refused VersionFull, core)
  change-no_version exclusive none =
      change-exclusive exclusive ∙ ap for_cause (taken (nat_le 1000000 (standing_at ticket.place core).version) (Some why_not.VersionFull) _ (le-leb _ _ none))

  change-version : MayChangeThere core ticket
      → redefining_fault ticket.place change core ≡ (if not (suits_place ticket.place change core) then Some why_not.WrongKind
      else option_map why_not.Def (change_fault (standing_at ticket.place core).definition change))
  change-version may = elim (leb_tells 1000000 (standing_at ticket.place core).version) [
    | inl none ↦ absurd (may.1 none.1)
    | inr few ↦ passed_by (nat_le 1000000 (standing_at ticket.place core).version) (Some why_not.VersionFull) _ few.0
  ]

  change-unfit : MayChangeThere core ticket → suits_place ticket.place change core ≡ false → changed ≡ (Refused WrongKind, core)
  change-unfit may unfit =
      change-exclusive may.0 ∙ ap for_cause (change-version may ∙ taken (not (suits_place ticket.place change core)) _ _ (ap not unfit))

  change-fault : MayChangeThere core ticket → suits_place ticket.place change core ≡ true
      → (why : DefError) → change_fault (standing_at ticket.place core).definition change ≡ Some why → changed ≡ (Refused (Def why), core)
  change-fault may fits why is =
      change-exclusive may.0
      ∙ ap for_cause (change-version may ∙ passed_by (not (suits_place ticket.place change core)) _ _ (ap not fits) ∙ ap (option_map why_not.Def) is)

pub refuses-changes_in_order : RefusesChangesInOrder
refuses-changes_in_order core who id change = (
  λ none. rw none refl,
  λ ticket held. rw held (change-shared core change ticket, change-no_version core change ticket, change-unfit core change ticket, change-fault core change ticket),
)
