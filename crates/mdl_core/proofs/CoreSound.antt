-- Each call of the lock space of one thread is an event of the system, and keeps the space sound; so does all that is asked of it.
use Rattle.std.proofs.Common.{◌≡◌, ◌⊎◌, ℕ, zero, suc, ◌+◌, Bool, true, false, inl, inr, List, [], ◌∷◌, ◌++◌, length, None, refl, sym, ap, subst, ◌∙◌, arith}
use Rattle.std.specs.Prelude.{flat_map, replicate}
use Rattle.std.proofs.lemmas.Bool.{false≢true}
use Rattle.std.proofs.lemmas.List.{append-nil}
use Rattle.std.proofs.lemmas.List.Concat.{flat_map-append}
use Rattle.mdl_key.specs.declared.mode.Mode.{Mode}
use Rattle.mdl_key.specs.Words.{KeyName, IsAtLeast, is_mode_of}
use Rattle.mdl_defs.specs.declared.change.Change.{Change as Redefinition}
use Rattle.mdl_defs.specs.declared.definition.Definition.{Definition}
use Rattle.mdl_book.specs.Books.{empty_book}
use Rattle.mdl_calls.specs.declared.answers.Held.{Held}
use Rattle.mdl_calls.specs.Words.{Answer, Granted, Would_wait, Waits, Call, Try_now, Begin_wait, with_place}
use Rattle.mdl_system.specs.Words.{IsAbout, FreesNothing, Event, Grant, Happens, SameSystem, GrantsNew, System, empty_system, IsGrantable, IsLawful, NoneForgotten, lock_kind, may_upgrade, may_downgrade}
use Rattle.mdl_core.specs.ChangeEvents.{IsChangeEvent}
use Rattle.mdl_core.specs.Changes.{Change, Gain, Lose, Queue, Admit, Settle, Leave, Take_up, Alter, Fold, Redefine, May, after_change, opening}
use Rattle.mdl_core.specs.CoreJoins.{Joins}
use Rattle.mdl_core.specs.CoreLaws.{is_change, IsEventOf, CallsAreEvents, CallsKeepSound, GrantsWhatIsGrantable, GrantsInOrder, CallsLeadByEvents, Joined}
use Rattle.mdl_core.specs.Cores.{Core, empty_core, seat_at, key_at, has_key, index_of, placing_at}
use Rattle.mdl_core.specs.CoreSystems.{applies, system_of, granted_in, unended_from}
use Rattle.mdl_core.specs.Seats.{empty_seat}
use Rattle.mdl_core.specs.Ties.{in_book_of, IsTied, IsSoundCore, AllMayStand}
use Rattle.mdl_core.proofs.CallLaws.{joins-comes}
use Rattle.mdl_core.proofs.ChangesHappen.{change-happens}
use Rattle.mdl_core.proofs.ChangeTies.{tied-changing, stands-changing}
use Rattle.mdl_core.proofs.CoreServing.{serves}
use Rattle.mdl_core.proofs.KnownPlaces.{new-keyed, placed-keyed}
use Rattle.mdl_core.proofs.PinnedSeats.{repinning, system-repinning, tied-repinning, may-pin}
use Rattle.mdl_core.proofs.SparedSeats.{keys-changed}
use Rattle.mdl_core.proofs.TiedOpening.{tied-empty, stands-empty, opened, stands-opened, system-opened}
use Rattle.mdl_core.proofs.TiedPlacing.{placed, stands-placed, system-placed}
use Rattle.mdl_core.proofs.Ways.{Way, Stay, Repin, Open, Replace, Settle_wait, Make, makes_room, served_if, space_by, IsMade, Made}
use Rattle.mdl_system.proofs.ConcernLemmas.{step-forgets, granting-there}
use Rattle.mdl_system.proofs.LawfulLemmas.{empty-lawful, step-lawful, run-lawful}
use Rattle.mdl_system.proofs.StrengthLemmas.{covers-at_least, upgrade-raises}
use Rattle.mdl_system.proofs.RunLemmas.{same_system, Leads, leads-run, leads-then}

-- ---- the event of a change

-- an event is of this key alone, and where no room is made, nothing goes by it
abbrev IsOf : KeyName → Bool → Event Redefinition → Type 0
IsOf key room event = ((other : KeyName) → IsAbout event other → other ≡ key) × (room ≡ false → FreesNothing event)

-- so is the event of a change, of its place's key
change-of : (a : Core) (who place : ℕ) (change : Change) (event : Event Redefinition) → IsTied a → May who place change a → IsChangeEvent who place change a event
    → IsOf (key_at place a) (makes_room change) event
change-of a who place change event tied may = by change may
  where
    told : (room : Bool) (other : Event Redefinition) → event ≡ other → IsOf (key_at place a) room other → IsOf (key_at place a) room event
    told room other is h = subst (IsOf (key_at place a) room) (sym is) h

    -- an upgrade is to a mode that is at least as strong
    stronger : (ticket : Held) (mode : Mode) → May who place (Alter ticket mode) a → may_upgrade ticket.mode mode ≡ true
        → IsAtLeast (lock_kind (key_at ticket.place a)) mode ticket.mode
    stronger ticket mode m up =
        let key : has_key ticket.place a ≡ true = subst (λ p. has_key p a ≡ true) (sym m.allows.1) m.key in
        covers-at_least (lock_kind (key_at ticket.place a)) mode ticket.mode
        (subst (λ p. is_mode_of (lock_kind (key_at p a)) mode ≡ true) (sym m.allows.1) m.allows.2)
        (tied.granted_by ticket.place key (in_book_of who ticket) ((tied.granted who ticket m.session key).1 (inl m.allows.0))).1
        (upgrade-raises ticket.mode mode up).0

    by : (c : Change) → May who place c a → IsChangeEvent who place c a event → IsOf (key_at place a) (makes_room c) event
    by (Gain mode) m (inl is) = told false _ is.0 ((λ k e. sym e), λ _. tt)
    by (Gain mode) m (inr is) = told false _ is.4 ((λ k e. sym e), λ _. tt)
    by (Lose ticket) m is = told true _ is ((λ k e. sym e ∙ ap (λ p. key_at p a) m.allows.1), λ e. cc)
    by (Queue mode) m is = told false _ is ((λ k e. sym e), λ _. tt)
    by (Admit ticket) m is = told false _ is.0 ((λ k e. sym e), λ _. tt)
    by (Settle how) m is = told false _ is.2 ((λ k e. sym e), λ _. tt)
    by (Leave wait) m is = told true _ is.0 ((λ k e. sym e), λ e. cc)
    by (Take_up wait) m is = told false _ is ((λ k e. absurd e), λ _. tt)
    by (Alter ticket mode) m (inl is) = told (may_downgrade ticket.mode mode) _ is.0 ((λ k e. sym e ∙ ap (λ p. key_at p a) m.allows.1), λ _. stronger ticket mode m is.2)
    by (Alter ticket mode) m (inr is) =
        told (may_downgrade ticket.mode mode) _ is.0 ((λ k e. sym e ∙ ap (λ p. key_at p a) m.allows.1), λ e. absurd (false≢true (sym e ∙ is.1)))
    by (Fold old new) m is = told true _ is ((λ k e. sym e ∙ ap (λ p. key_at p a) m.allows.3), λ e. cc)
    by (Redefine ticket change) m is = told false _ is ((λ k e. sym e ∙ ap (λ p. key_at p a) m.allows.1), λ _. tt)

-- a new place is nothing to the system
opening-same : (core : Core) (key : KeyName) → IsTied core → index_of key core.books ≡ None → system_of core ≡ system_of (opening key core)
opening-same core key tied none = λ i. record {
  granted = granted i;
  waiting = λ k. sym ((system-opened key core tied none).waits.waiting k) i;
  unended = unended_from 1 core.seats;
  definitions = λ k. sym ((system-opened key core tied none).definitions k) i;
}
  where
    granted : flat_map granted_in core.books ≡ flat_map granted_in (core.books ++ empty_book key ∷ [])
    granted = sym (flat_map-append granted_in core.books (empty_book key ∷ []) ∙ append-nil (flat_map granted_in core.books))

-- ---- a call

-- what a call with this answer has led to: it changed nothing, or it was an event, and then waiters were granted
record Follows (a : Core) (call : Call) (answer : Answer) (b : Core) : Type 0 where
  sound : IsSoundCore b
  leads : (events : List (Event Redefinition)) × Leads applies events (system_of a) (system_of b)
  how : ((is_change a call answer ≡ false) × SameSystem (system_of a) (system_of b))
      ⊎ ((event : Event Redefinition) × (grants : List (Event Redefinition)) × (between : System Definition) × (key : KeyName)
      × IsEventOf a call answer event × ((other : KeyName) → IsAbout event other → other ≡ key)
      × Happens applies event (system_of a) between × GrantsInOrder applies key grants between (system_of b))

module _ (a : Core) (call : Call) (answer : Answer) (sound : IsSoundCore a) where
  -- nothing has changed in the system
  follows-calm : (b : Core) → IsTied b → AllMayStand b → system_of a ≡ system_of b → is_change a call answer ≡ false → Follows a call answer b
  follows-calm b tied stand same calm = record {
    sound = record { tied = tied; standing = stand; lawful = subst IsLawful same sound.lawful; none_forgotten = subst NoneForgotten same sound.none_forgotten };
    leads = ([], same);
    how = inl (calm, subst (SameSystem (system_of a)) same (same_system (system_of a)));
  }

  -- a change was made, and where it made room waiters were granted
  follows-made : (who place : ℕ) (change : Change) → IsMade a call answer who place change
      → Follows a call answer (served_if (makes_room change) place (after_change who place change a))
  follows-made who place change made = by (makes_room change) refl
    where
      mid : Core
      mid = after_change who place change a

      tied : IsTied mid
      tied = tied-changing a who place change sound.tied made.may

      stand : AllMayStand mid
      stand = stands-changing a who place change sound.tied made.may sound.standing

      happens : Happens applies made.event (system_of a) (system_of mid)
      happens = change-happens a who place change made.event sound.tied made.may made.change_is

      is : IsOf (key_at place a) (makes_room change) made.event
      is = change-of a who place change made.event sound.tied made.may made.change_is

      key : (has_key place mid ≡ true) × (key_at place mid ≡ key_at place a)
      key = keys-changed a who place change made.may place made.may.key

      lawful : IsLawful (system_of mid)
      lawful = step-lawful applies made.event (system_of a) (system_of mid) happens sound.lawful

      by : (room : Bool) → makes_room change ≡ room → Follows a call answer (served_if room place mid)
      by false e = record {
        sound = record {
          tied = tied;
          standing = stand;
          lawful = lawful;
          none_forgotten = λ other.
              step-forgets applies made.event (system_of a) (system_of mid) happens (is.1 e) made.cause other (sound.none_forgotten other);
        };
        leads = (made.event ∷ [], (system_of mid, happens, refl));
        how = inr (made.event, [], system_of mid, key_at place a, made.call_is, is.0, happens, same_system (system_of mid));
      }
      by true e =
          let served = serves mid place tied key.0 in
          let after = served_if true place mid in
          let run = leads-run applies served.events (system_of mid) (system_of after) served.leads in
          let about : (other : KeyName) → IsAbout made.event other → other ≡ key_at place mid = λ other e. is.0 other e ∙ sym key.1 in
          record {
            sound = record {
              tied = served.tied;
              standing = served.standing stand;
              lawful = run-lawful applies served.events (system_of mid) (system_of after) run lawful;
              none_forgotten = granting-there applies made.event served.events (system_of a) (system_of mid) (system_of after) (key_at place mid) about
                  happens served.grants run served.none_forgotten sound.none_forgotten;
            };
            leads = (made.event ∷ served.events, (system_of mid, happens, served.leads));
            how = inr (made.event, served.events, system_of mid, key_at place mid, made.call_is, about, happens, served.in_order);
          }

  -- any way
  follows-way : (way : Way) → Made a call answer way → Follows a call answer (space_by way a)
  follows-way Stay made = follows-calm a sound.tied sound.standing refl made.is_way
  follows-way (Repin who pins) made =
      follows-calm (repinning who pins a) (tied-repinning a who pins made.is_way.0.session sound.tied made.is_way.1) sound.standing
      (sym (system-repinning a who pins made.is_way.0.session)) made.is_way.0.calm
  follows-way (Open who key) made =
      let place = length a.books + 1 in
      let session = made.is_way.0.session in
      let pins = with_place place (seat_at who a).pins in
      let tied = opened key a sound.tied made.is_way.1 in
      follows-calm (repinning who pins (opening key a))
      (tied-repinning (opening key a) who pins session tied (may-pin (opening key a) who place tied session (new-keyed a key).0))
      (stands-opened key a sound.tied made.is_way.1 sound.standing)
      (opening-same a key sound.tied made.is_way.1 ∙ sym (system-repinning (opening key a) who pins session)) made.is_way.0.calm
  follows-way (Replace who place key) made =
      let session = made.is_way.0.session in
      let pins = with_place place (seat_at who a).pins in
      let has = made.is_way.2 in
      let unused = made.is_way.3 in
      let tied = placed a place key sound.tied has unused made.is_way.1 in
      follows-calm (repinning who pins (placing_at place key a))
      (tied-repinning (placing_at place key a) who pins session tied (may-pin (placing_at place key a) who place tied session (placed-keyed a place key has).0))
      (stands-placed a place key sound.tied has unused made.is_way.1 sound.standing)
      (system-placed a place key sound.tied has unused made.is_way.1 sound.standing ∙ sym (system-repinning (placing_at place key a) who pins session))
      made.is_way.0.calm
  follows-way (Settle_wait who place how) made = follows-made who place (Settle how) made.is_way
  follows-way (Make who place change) made = follows-made who place change made.is_way.0

-- any call
calls-follow : (a b : Core) (call : Call) (answer : Answer) → IsSoundCore a → Joins a call answer b → Follows a call answer b
calls-follow a b call answer sound joins =
    let h = joins-comes a b call answer sound.tied joins in
    subst (Follows a call answer) h.leads (follows-way a call answer sound h.way h.is)

pub calls_are-events : CallsAreEvents
calls_are-events a b call answer sound joins = (calls-follow a b call answer sound joins).how

pub calls_keep-sound : CallsKeepSound
calls_keep-sound a b call answer sound joins = (calls-follow a b call answer sound joins).sound

-- ---- what is granted at once

-- a call that changes something has happened as its event
happened : (a b : Core) (call : Call) (answer : Answer) → is_change a call answer ≡ true → IsSoundCore a → Joins a call answer b
    → (event : Event Redefinition) × (between : System Definition) × IsEventOf a call answer event × Happens applies event (system_of a) between
happened a b call answer changes sound joins = elim (calls_are-events a b call answer sound joins) [
  | inl calm ↦ (let e = sym changes ∙ calm.0 in cc)
  | inr h ↦ (h.0, h.2, h.4, h.6)
]

pub grants-grantable : GrantsWhatIsGrantable
grants-grantable a b who place mode = (
  (λ id joins. grantable id (happened a b (Try_now who place mode) (Granted id) refl joins.0.1 joins)),
  (λ joins. (joins-comes a b (Try_now who place mode) Would_wait joins.0.1.tied joins).is.so),
  (λ id joins. grantable id (happened a b (Begin_wait who place mode) (Granted id) refl joins.0.1 joins)),
  λ number joins. (joins-comes a b (Begin_wait who place mode) (Waits number) joins.0.1.tied joins).is.so,
)
  where
    grantable : (id : ℕ) → (event : Event Redefinition) × (between : System Definition)
        × (event ≡ Grant (record { session = who; number = id; key = key_at place a; mode = mode })) × Happens applies event (system_of a) between
        → IsGrantable (system_of a) who (key_at place a) mode
    grantable id (event, between, is, happens) =
        let grants : GrantsNew (record { session = who; number = id; key = key_at place a; mode = mode }) (system_of a) between =
        subst (λ e. Happens applies e (system_of a) between) is happens in
        grants.grantable

-- ---- the empty space

none_unended : (n who : ℕ) → unended_from who (replicate n empty_seat) ≡ []
none_unended zero who = refl
none_unended (suc n) who = none_unended n (who + 1)

-- it is the empty system
empty-same : (places sessions : ℕ) → empty_system {D = Definition} ≡ system_of (empty_core places sessions)
empty-same places sessions = λ i. record {
  granted = [];
  waiting = λ _. [];
  unended = sym (none_unended sessions 1) i;
  definitions = λ _. record { version = 0; definition = None };
}

pub empty-sound : (places sessions : ℕ) → IsSoundCore (empty_core places sessions)
empty-sound places sessions = record {
  tied = tied-empty places sessions;
  standing = stands-empty places sessions;
  lawful = subst IsLawful (empty-same places sessions) (empty-lawful Definition);
  none_forgotten = λ key waiter among _ _. let lt = among.1 in absurd (omega arith);
}

-- ---- whole lists of calls

-- what is so after each call
abbrev IsReached : Core → Type 0
IsReached core = IsSoundCore core × ((events : List (Event Redefinition)) × Leads applies events empty_system (system_of core))

-- one call after another
all-reached : (calls : List (Call × Answer)) (a b : Core) → IsReached a → Joined calls a b → IsReached b
all-reached [] a b reached same = subst IsReached same reached
all-reached ((call, answer) ∷ calls) a b (sound, (events, early)) (between, joins, rest) =
    let h = calls-follow a between call answer sound joins in
    all-reached calls between b
    (h.sound, (events ++ h.leads.0, leads-then applies events h.leads.0 empty_system (system_of a) (system_of between) early h.leads.1)) rest

pub calls_lead-by_events : CallsLeadByEvents
calls_lead-by_events places sessions calls b joined =
    let h = all-reached calls (empty_core places sessions) b (empty-sound places sessions, ([], empty-same places sessions)) joined in
    ((h.1.0, leads-run applies h.1.0 empty_system (system_of b) h.1.1), h.0.lawful, h.0.none_forgotten)
