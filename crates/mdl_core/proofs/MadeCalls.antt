-- What comes of each call of the space of one thread, by its causes.
use Rattle.std.proofs.Common.{◌≡◌, ◌≢◌, ◌↔◌, ℕ, ◌+◌, ◌<◌, ◌≤◌, Bool, true, false, not, ◌&&◌, ◌||◌, ◌==◌, nat_le, length, drop, Option, Some, None, MatchOption, Contains, IfSome, is_some, option_map, if◌then◌else◌, refl, sym, ap, subst, ◌∙◌, arith, inl, inr, eqb-true}
use Rattle.std.specs.Prelude.{AllPairs}
use Rattle.std.proofs.lemmas.Bool.{and_parts, and_cases, false≢true}
use Rattle.std.proofs.lemmas.Bool.Decides.{nat_tests}
use Rattle.mdl_book.specs.Books.{lock_kind, redefining}
use Rattle.mdl_key.specs.declared.mode.Mode.{Mode}
use Rattle.mdl_key.specs.declared.mode.Mode.TheVariants.{X}
use Rattle.mdl_key.specs.Words.{KeyName, kind_of, is_mode_of, same_mode}
use Rattle.mdl_defs.specs.declared.change.Change.{Change as Redefinition}
use Rattle.mdl_defs.specs.declared.def_error.DefError.{DefError}
use Rattle.mdl_defs.specs.declared.def_error.DefError.TheVariants as fault
use Rattle.mdl_defs.proofs.VersionedDefinitionLemmas.{fault-cases}
use Rattle.mdl_calls.specs.CallSpec.{MayAsk}
use Rattle.mdl_calls.specs.declared.answers.Held.{Held}
use Rattle.mdl_calls.specs.declared.answers.Settled.{Settled}
use Rattle.mdl_calls.specs.declared.answers.Settled.TheVariants as settled_as
use Rattle.mdl_calls.specs.declared.answers.TimedOut.TheVariants.{Already}
use Rattle.mdl_calls.specs.declared.space_error.SpaceError.{SpaceError}
use Rattle.mdl_calls.specs.declared.space_error.SpaceError.TheVariants.{NoPlace, NotHeld, NotUpgradable, NotExclusive, AlreadyWaiting, BadMode, InUse, VersionFull, NoWait, Unsettled as Not_settled, CounterFull, Full, Def, WrongKind}
use Rattle.mdl_calls.specs.Words.{Answer, Refused, Granted, Is_settled, Done, Timed_out, Lost, Changed, Upgraded, is_answer_of, Call, Resolve, Try_now, Begin_wait, Search, Poll_wait, Settle_timeout, End_wait, Wait_of, Kill, Release, Clone_ticket, Upgrade_now, Merge, Downgrade, Read_definition, Read_kept, Change_definition, Key_of, Tables_of, List_held, Unpin, caller, OfHeld, IsFit, IsUnfit, IsUnknown, MayClone, MayNotClone, MayUpgrade, MayNotUpgrade, MayDowngrade, MayNotDowngrade, Mergeable, may_merge, IsCause, IsExplained, SessionLocks, Numbers, is_number, is_waiting, wait_number, own_after, winning, cloning as cloning_own, holds, giving_up, with_place, without_place, Draws, IsEndOf, IsToldOf, cause_of}
use Rattle.mdl_calls.specs.SessionLocks.{changing as changing_own, merging as merging_own, upgraded}
use Rattle.mdl_core.specs.declared.pending.Pending.{Pending}
use Rattle.mdl_core.specs.ChangeEvents.{holding_of, ticket_of_wait, IsChangeEvent}
use Rattle.mdl_core.specs.Changes.{Change, Gain, Lose, Queue, Leave, Take_up, Alter, Fold, Redefine, Allows, May, next_ticket, losing, ending_lost, altering, opening, serving}
use Rattle.mdl_core.specs.CoreCalls.{outcome, refused_or, first_cause, placing, replacing, unpin_causes, request_causes, clone_causes, cloning_of, upgrade_causes, upgraded_if_free, upgrading_of, is_lower, downgrading_of, merge_causes, merging_of, held_ticket, releasing_of, poll_answer, polling_of, timing_out_at, timing_out_of, ending_at, ending_of, wait_at, is_open_wait, victim_at, searching_of, reading_of, redefining_fault, redefined_unless, redefining_of}
use Rattle.mdl_core.specs.CoreJoins.{locks_at, numbers_at, Knows}
use Rattle.mdl_core.specs.CoreLaws.{is_weaker, is_change, IsEventOf}
use Rattle.mdl_core.specs.Cores.{Core, book_at, seat_at, key_at, standing_at, has_key, has_pin, has_session, index_of, is_free_for, is_in_use, booking, placing_at, unpinning, unused_place}
use Rattle.mdl_core.specs.CoreSystems.{system_of, system_waiter, wait_state_of}
use Rattle.mdl_system.specs.Words.{WaitsForCause, Event, Grant, Clone, BeginWait, SettleLost, EndGrantedWait, EndLostWait, Release as Give_up, Upgrade as Raise, Merge as Unite, Downgrade as Lower, ChangeDefinition, covers, may_upgrade, may_downgrade, Unsettled, IsGrantable}
use Rattle.mdl_core.specs.Seats.{SeatView, without_ticket, with_ticket_in, locks_of_seat, numbers_of_seat, with_settled_wait, with_ticket_of}
use Rattle.mdl_core.specs.SessionLaws.{MeetsLimit}
use Rattle.mdl_core.specs.Ties.{IsTied, HasRisingNumbers, in_book_of}
use Rattle.mdl_core.proofs.CallCases.{Through, test_cases, option_cases, not_false, not_true, exclusive-is, cause_cases}
use Rattle.mdl_core.proofs.ChangeSeats.{merged_place}
use Rattle.mdl_core.proofs.CoreGranted.{free-grantable}
use Rattle.mdl_core.proofs.CoreReads.{found, seated-same, seat-kept, ticket-key}
use Rattle.mdl_core.proofs.CoreServing.{found-first}
use Rattle.mdl_core.proofs.KnownPlaces.{unplaced, known-pinning, new-keyed, placed-keyed, wait_pinned}
use Rattle.mdl_core.proofs.NeededPlaces.{needs-told, needs-from}
use Rattle.mdl_core.proofs.PairLemmas.{below, map-agree, map-same, pairs-from_rising, same-number}
use Rattle.mdl_core.proofs.PinnedSeats.{may-pin, may-unpin}
use Rattle.mdl_core.proofs.SparedSeats.{HasSettled, settled_at, settled-once, none_settled, not_settled, as_wait, is_end}
use Rattle.mdl_core.proofs.UnusedPlaces.{unused-none, unused-some}
use Rattle.mdl_core.proofs.VictimLemmas.{victim-waits}
use Rattle.mdl_core.proofs.Ways.{HasAtOnce, HasNotAtOnce, Way, Stay, Repin, Open, Replace, Settle_wait, Make, served_if, space_by, seat_by, IsSo, ServesCaller, Comes}
use Rattle.mdl_system.proofs.StrengthLemmas.{covers-at_least, upgrade-raises}

-- ---- tests

-- what a test of numbers says
at_least : (m n : ℕ) → nat_le m n ≡ true → m ≤ n
at_least m n e = grind (arith, nat_tests)

-- where it is said that there is none, there is none
none_there : {T : Type 0} (value : Option T) → is_some value ≡ false → value ≡ None
none_there None e = refl
none_there (Some x) e = cc

-- a session waits where its seat has a wait
waiting-same : (seat : SeatView) → is_waiting (locks_of_seat seat) ≡ is_some seat.wait
waiting-same seat = elim seat.wait as (λ o. is_waiting (locks_of_seat (record seat { wait = o })) ≡ is_some o) [ None ↦ refl | Some wait ↦ refl ]

-- the number of a wait, as its session has it
pub number-same : (seat : SeatView) → option_map (λ (wait : Pending). wait.number) seat.wait ≡ wait_number (locks_of_seat seat)
number-same seat = elim seat.wait as (λ o. option_map (λ (wait : Pending). wait.number) o ≡ wait_number (locks_of_seat (record seat { wait = o }))) [
  | None ↦ refl
  | Some wait ↦ refl
]

-- the ticket that is waited for was given the last number
last-waits : (seat : SeatView) (wait : Pending) → HasRisingNumbers seat → seat.wait ≡ Some wait → wait.id ≡ seat.last_ticket
last-waits seat wait numbers its =
    let h = subst
    (λ (o : Option Pending). MatchOption o (Unit {0}) (λ (w : Pending).
    (w.id ≡ seat.last_ticket) × (w.number ≤ seat.last_wait) × ((ticket : Held) → Contains seat.held ticket → ticket.id < w.id)))
    its numbers.wait in
    h.0

-- the wait that a kill finds
pub killed_wait : (a : Core) (target number : ℕ) → is_open_wait number (wait_at target a) ≡ true
    → (wait : Pending) × (has_session target a ≡ true) × ((seat_at target a).wait ≡ Some wait) × (wait.number ≡ number) × (wait.settled ≡ None)
killed_wait a target number = go (has_session target a) refl
  where
    at : (o : Option Pending) → is_open_wait number o ≡ true → (wait : Pending) × (o ≡ Some wait) × (wait.number ≡ number) × (wait.settled ≡ None)
    at None e = cc
    at (Some wait) e = let both = and_parts (wait.number == number) (not (is_some wait.settled)) e in (wait, refl, eqb-true _ _ both.0, none_there wait.settled (not_true _ both.1))

    go : (b : Bool) → has_session target a ≡ b → is_open_wait number (if b then (seat_at target a).wait else None) ≡ true
        → (wait : Pending) × (has_session target a ≡ true) × ((seat_at target a).wait ≡ Some wait) × (wait.number ≡ number) × (wait.settled ≡ None)
    go true is e = let h = at (seat_at target a).wait e in (h.0, is, h.1, h.2, h.3)
    go false is e = cc

-- of two answers, one of which is yes
or-right : (p q : Bool) → (p || q) ≡ true → p ≡ false → q ≡ true
or-right true q one other = cc
or-right false q one other = one

-- ---- one ticket in another mode

-- the held ticket of a number gets a mode, and the others stay
module _ (seat : SeatView) (rising : AllPairs below seat.held) (id : ℕ) (ticket : Held) (held : Contains seat.held ticket) (its : ticket.id ≡ id) (f : Mode → Mode) where
  -- it alone has that number
  that-one : (t : Held) → Contains seat.held t → is_number id t ≡ true → t ≡ ticket
  that-one t among e = same-number seat.held rising t ticket among held (eqb-true _ _ e ∙ sym its)

  -- the mode that it has already
  own-kept : f ticket.mode ≡ ticket.mode → changing_own id f (locks_of_seat seat) ≡ locks_of_seat seat
  own-kept stays = λ i. record (locks_of_seat seat) { held = map-same _ seat.held (λ t among. by t among (is_number id t) refl) i }
    where
      by : (t : Held) → Contains seat.held t → (b : Bool) → is_number id t ≡ b → (if b then record t { mode = f t.mode } else t) ≡ t
      by t among true e =
          let same = that-one t among e in
          let mode : f t.mode ≡ t.mode = ap (λ (h : Held). f h.mode) same ∙ stays ∙ sym (ap (λ (h : Held). h.mode) same) in
          λ i. record t { mode = mode i }
      by t among false e = refl

  -- another
  own-changed : (mode : Mode) → f ticket.mode ≡ mode → locks_of_seat (with_ticket_in ticket.id mode seat) ≡ changing_own id f (locks_of_seat seat)
  own-changed mode is =
      ap (λ n. locks_of_seat (with_ticket_in n mode seat)) its
      ∙ (λ i. record (locks_of_seat seat) { held = map-agree _ _ seat.held (λ t among. by t among (is_number id t) refl) i })
    where
      by : (t : Held) → Contains seat.held t → (b : Bool) → is_number id t ≡ b
          → (if b then record t { mode = mode } else t) ≡ (if b then record t { mode = f t.mode } else t)
      by t among true e =
          let now : mode ≡ f t.mode = sym is ∙ ap (λ (h : Held). f h.mode) (sym (that-one t among e)) in
          λ i. record t { mode = now i }
      by t among false e = refl

-- a refusal is an answer of the caller's call, and changes nothing
refusal-plain : (a : Core) (call : Call) (who : ℕ) (refusal : SpaceError) → caller call ≡ Some who
    → (is_answer_of call (Refused refusal) ≡ true) × (is_change a call (Refused refusal) ≡ false)
    × ((own : SessionLocks) → own ≡ own_after call (Refused refusal) own) × ((numbers : Numbers) → Draws call (Refused refusal) numbers numbers)
refusal-plain a (Wait_of _) who refusal made = cc
refusal-plain a (Kill _ _) who refusal made = cc
refusal-plain a _ who refusal made = (refl, refl, (λ own. refl), λ numbers. refl)

module _ (a : Core) where
  -- ---- what a session knows, and has

  module _ (who : ℕ) where
    -- whether it waits
    waits_so : (answer : Bool) → is_some (seat_at who a).wait ≡ answer → is_waiting (locks_at a who) ≡ answer
    waits_so answer e = waiting-same (seat_at who a) ∙ e

    -- whether a mode is of the kind of the key that it knows at a place
    fit : (place : ℕ) (mode : Mode) → is_mode_of (lock_kind (book_at place a)) mode ≡ true → IsFit (Knows a who) place mode
    fit place mode e key knows = subst (λ (k : KeyName). is_mode_of (kind_of k.namespace) mode ≡ true) knows.1 e

    unfit : (place : ℕ) (mode : Mode) → is_mode_of (lock_kind (book_at place a)) mode ≡ false → IsUnfit (Knows a who) place mode
    unfit place mode e key knows = subst (λ (k : KeyName). is_mode_of (kind_of k.namespace) mode ≡ false) knows.1 e

    -- it knows no key where there is none
    unknown : (place : ℕ) → has_key place a ≡ false → IsUnknown (Knows a who) place
    unknown place e key knows = let f = knows.0 in cc

    -- a ticket that it holds
    of_held : (id : ℕ) (ticket : Held) (P : Held → Type 0) → held_ticket who id a ≡ Some ticket → P ticket → OfHeld id (locks_at a who) P
    of_held id ticket P e p = subst (λ (o : Option Held). MatchOption o ⊥ P) (sym e) p

    in_hand : (id : ℕ) (ticket : Held) → held_ticket who id a ≡ Some ticket → Contains (seat_at who a).held ticket × (ticket.id ≡ id)
    in_hand id ticket e = let h = found-first (is_number id) (seat_at who a).held ticket e in (h.0, eqb-true _ _ h.1)

    -- one that can't serve for a second one
    not_clonable : (mode : Mode) (ticket : Held) → (covers ticket.mode mode && is_mode_of (lock_kind (book_at ticket.place a)) mode) ≡ false
        → MayNotClone (Knows a who) mode ticket
    not_clonable mode ticket cannot covered = elim (and_cases (covers ticket.mode mode) (is_mode_of (lock_kind (book_at ticket.place a)) mode) cannot) [
      | inl uncovered ↦ (let e = uncovered in cc)
      | inr e ↦ unfit ticket.place mode e
    ]

    -- nor have another mode
    not_upgradable : (mode : Mode) (ticket : Held)
        → ((covers ticket.mode mode || may_upgrade ticket.mode mode) && is_mode_of (lock_kind (book_at ticket.place a)) mode) ≡ false
        → MayNotUpgrade (Knows a who) mode ticket
    not_upgradable mode ticket cannot able =
        elim (and_cases (covers ticket.mode mode || may_upgrade ticket.mode mode) (is_mode_of (lock_kind (book_at ticket.place a)) mode) cannot) [
          | inl unable ↦ absurd (false≢true (sym unable ∙ able))
          | inr e ↦ unfit ticket.place mode e
        ]

    not_downgradable : (mode : Mode) (ticket : Held) → is_lower mode ticket a ≡ false → MayNotDowngrade (Knows a who) mode ticket
    not_downgradable mode ticket cannot able =
        elim (and_cases (may_downgrade ticket.mode mode) (is_mode_of (lock_kind (book_at ticket.place a)) mode) cannot) [
          | inl unable ↦ absurd (false≢true (sym unable ∙ able))
          | inr e ↦ unfit ticket.place mode e
        ]

    -- by its wait
    idle_so : (seat_at who a).wait ≡ None → (is_waiting (locks_at a who) ≡ false) × ((how : Settled) → HasSettled (seat_at who a) how → ⊥)
    idle_so none = (waits_so false (ap is_some none), λ how has. none_settled (seat_at who a) how none has)

    module _ (wait : Pending) (its : (seat_at who a).wait ≡ Some wait) where
      waiting_so : is_waiting (locks_at a who) ≡ true
      waiting_so = waits_so true (ap is_some its)

      not_so : wait.settled ≡ None → (how : Settled) → HasSettled (seat_at who a) how → ⊥
      not_so free how has = not_settled (seat_at who a) wait how its free has

      same_settled : (one other : Settled) → wait.settled ≡ Some one → HasSettled (seat_at who a) other → one ≡ other
      same_settled one other settled has = settled-once (seat_at who a) wait one other its settled has

  -- ---- what comes of them

  abbrev F : Call → Answer × Core → Type 0
  F = Comes a

  -- what a call does to its caller, and tells it
  tells : {call : Call} {answer : Answer} {way : Way} {who : ℕ} → locks_of_seat (seat_by way who a) ≡ own_after call answer (locks_at a who)
      → Draws call answer (numbers_at a who) (numbers_of_seat (seat_by way who a)) → IsExplained (Knows a who) call answer (locks_at a who)
      → ((how : Settled) → HasSettled (seat_at who a) how → IsToldOf how call answer) → ServesCaller a call answer way who
  tells own draws explained agrees = record { own = own; draws = draws; explained = explained; agrees = agrees }

  -- by a test that the call makes
  tested : {call : Call} {test : Bool} {x y : Answer × Core} → (test ≡ true → F call x) → (test ≡ false → F call y) → F call (if test then x else y)
  tested {call} {test} {x} {y} met unmet = test_cases (F call) test x y met unmet

  -- answered, and nothing changes
  stays : {call : Call} {answer : Answer} → is_answer_of call answer ≡ true → is_change a call answer ≡ false → IsSo a call answer a
      → IfSome (caller call) (ServesCaller a call answer Stay) → F call (answer, a)
  stays fits calm so caller = record { way = Stay; is = record { fits = fits; is_way = calm; so = so; caller = caller }; leads = refl }

  -- refused by this cause
  pub refused : {call : Call} (who : ℕ) (refusal : SpaceError) → caller call ≡ Some who → IsCause (Knows a who) call refusal (locks_at a who)
      → ((how : Settled) → HasSettled (seat_at who a) how → IsToldOf how call (Refused refusal)) → MeetsLimit a call refusal → F call (Refused refusal, a)
  refused {call} who refusal mine cause agrees limit =
      let plain = refusal-plain a call who refusal mine in
      stays plain.0 plain.1 limit
      (subst (λ o. IfSome o (ServesCaller a call (Refused refusal) Stay)) (sym mine) (tells (plain.2 (locks_at a who)) (plain.3 (numbers_at a who)) cause agrees))

  -- a change may be made where the session pins the place, at the place of a ticket that it holds, and at that of its wait
  may-at : {change : Change} (who place : ℕ) → IsTied a → has_session who a ≡ true → has_pin who place a ≡ true
      → Allows who place change (seat_at who a) (book_at place a) → May who place change a
  may-at who place tied is pin allows = record { session = is; key = tied.pinned who place is pin; pin = pin; allows = allows }

  may-at_ticket : {change : Change} (who : ℕ) (ticket : Held) → IsTied a → has_session who a ≡ true → Contains (seat_at who a).held ticket
      → Allows who ticket.place change (seat_at who a) (book_at ticket.place a) → May who ticket.place change a
  may-at_ticket who ticket tied is mine allows = may-at who ticket.place tied is (tied.placed who ticket is (inl (inl mine))) allows

  may-at_wait : {change : Change} (who : ℕ) (wait : Pending) → IsTied a → has_session who a ≡ true → (seat_at who a).wait ≡ Some wait
      → Allows who wait.place change (seat_at who a) (book_at wait.place a) → May who wait.place change a
  may-at_wait who wait tied is its allows = may-at who wait.place tied is (wait_pinned a who wait tied is its) allows

  -- the caller makes a change
  makes : {call : Call} {answer : Answer} (who place : ℕ) (change : Change) → May who place change a → (event : Event Redefinition)
      → IsChangeEvent who place change a event × IsEventOf a call answer event × WaitsForCause event (system_of a)
      → (caller call ≡ Some who) × (is_end change ≡ true → call ≡ End_wait who) → is_answer_of call answer ≡ true
      → IsSo a call answer (space_by (Make who place change) a) → IfSome (caller call) (ServesCaller a call answer (Make who place change))
      → F call (answer, space_by (Make who place change) a)
  makes who place change may event is mine fits so caller = record {
    way = Make who place change;
    is = record {
      fits = fits;
      is_way = (record { may = may; event = event; change_is = is.0; call_is = is.1; cause = is.2 }, mine.0, mine.1);
      so = so;
      caller = caller;
    };
    leads = refl;
  }

  -- a wait is lost, and is settled so then
  loses : {call : Call} {answer : Answer} (who : ℕ) (how : Settled) (wait : Pending) → IsTied a → has_session who a ≡ true
      → (seat_at who a).wait ≡ Some wait → wait.settled ≡ None → how ≢ settled_as.Granted
      → IsEventOf a call answer (SettleLost (key_at wait.place a) (system_waiter (ticket_of_wait who wait) (Some wait)) (wait_state_of (Some how)))
      → is_answer_of call answer ≡ true → (HasSettled (seat_at who (losing who how a)) how → IsSo a call answer (losing who how a))
      → IfSome (caller call) (ServesCaller a call answer (Settle_wait who wait.place how)) → F call (answer, losing who how a)
  loses who how wait tied is its free other call_is fits so caller = record {
    way = Settle_wait who wait.place how;
    is = record {
      fits = fits;
      is_way = record {
        may = may-at_wait who wait tied is its ((wait, its, free, refl), other);
        event = SettleLost (key_at wait.place a) (system_waiter (ticket_of_wait who wait) (Some wait)) (wait_state_of (Some how));
        change_is = (wait, its, refl);
        call_is = call_is;
        cause = tt;
      };
      so = so (subst (λ s. HasSettled s how) (sym (seated-same a who (with_settled_wait how (seat_at who a)) is))
          (settled_at (with_settled_wait how (seat_at who a)) (record wait { settled = Some how }) how
          (ap (λ (o : Option Pending). option_map (λ (w : Pending). record w { settled = Some how }) o) its) refl));
      caller = caller;
    };
    leads = refl;
  }

  module _ (tied : IsTied a) where
    -- a lock that may be asked for, and is free or not
    record IsAskable (who place : ℕ) (mode : Mode) : Type 0 where
      may : May who place (Gain mode) a
      clear : MayAsk place mode (Knows a who) (locks_at a who)
      free : is_free_for who place mode a ≡ true → IsGrantable (system_of a) who (key_at place a) mode
      busy : not (is_free_for who place mode a) ≡ true → IsGrantable (system_of a) who (key_at place a) mode → ⊥

    -- it is asked for by a call that is refused as trying is
    asked : {call : Call} {outcome : Answer × Core} (who place : ℕ) (mode : Mode) → has_session who a ≡ true
        → ((refusal : SpaceError) → IsCause (Knows a who) (Try_now who place mode) refusal (locks_at a who) → MeetsLimit a (Try_now who place mode) refusal
        → F call (Refused refusal, a))
        → (IsAskable who place mode → F call outcome) → F call (refused_or (first_cause (request_causes who place mode a)) a outcome)
    asked {call} {outcome} who place mode is refuse other =
        cause_cases (F call) a outcome (request_causes who place mode a)
        ((λ e. refuse NoPlace (not_true _ e) (not_true _ e)), λ e. by (not_false _ e))
      where
        by : has_pin who place a ≡ true → Through (F call) a outcome (drop 1 (request_causes who place mode a))
        by pin = (
          (λ e. refuse AlreadyWaiting (pin, waits_so who true e) tt),
          λ idle. (
            (λ e. refuse BadMode (pin, waits_so who false idle, unfit who place mode (not_true _ e)) tt),
            λ fits. (
              (λ e. refuse CounterFull (clear idle fits) (at_least _ _ e)),
              λ _. other (record {
                may = may-at who place tied is pin (none_there _ idle, not_false _ fits);
                clear = clear idle fits;
                free = free.0;
                busy = λ e grantable. (let f = free.1 grantable in let g = not_true _ e in cc);
              }),
            ),
          ),
        )
          where
            clear : is_some (seat_at who a).wait ≡ false → not (is_mode_of (lock_kind (book_at place a)) mode) ≡ false
                → MayAsk place mode (Knows a who) (locks_at a who)
            clear idle fits = (pin, waits_so who false idle, fit who place mode (not_false _ fits))

            free : (is_free_for who place mode a ≡ true) ↔ IsGrantable (system_of a) who (key_at place a) mode
            free = free-grantable a who place mode tied (tied.pinned who place is pin)

    -- each call
    pub made : (call : Call) → IfSome (caller call) (λ who. has_session who a ≡ true) → F call (outcome call a)
    made (Resolve who key) is =
        option_cases (λ o. F (Resolve who key) (placing who key o a)) (index_of key a.books)
        (λ none. tested (λ full. option_cases (λ o. F (Resolve who key) (replacing who key o a)) (unused_place a)
        (λ used. refused who NoPlace refl (λ place knows. unplaced a place key none (knows.0, knows.1)) (λ _ _. tt)
        ((at_least a.places (length a.books) full, unused-none a used), λ place key_there same. unplaced a place key none (key_there, same)))
        (λ place unused. replaces place none (unused-some a place unused)))
        (λ _. record {
          way = Open who key;
          is = record {
            fits = refl;
            is_way = (record { calm = refl; session = is; mine = refl }, none);
            so = (let keyed = new-keyed a key in known-pinning (opening key a) who (length a.books + 1) key is keyed.0 keyed.1);
            caller = tells refl refl tt (λ _ _. tt);
          };
          leads = refl;
        }))
        (λ index e. record {
          way = Repin who (with_place (index + 1) (seat_at who a).pins);
          is = record {
            fits = refl;
            is_way = (record { calm = refl; session = is; mine = refl }, may-pin a who (index + 1) tied is (found a key index e).0);
            so = (let at = found a key index e in known-pinning a who (index + 1) key is at.0 at.1);
            caller = tells refl refl tt (λ _ _. tt);
          };
          leads = refl;
        })
      where
        -- a place that isn't in use gets the key
        replaces : (place : ℕ) → index_of key a.books ≡ None
            → (has_key place a ≡ true) × (is_in_use place a ≡ false) × ((other : ℕ) → has_key other a ≡ true → is_in_use other a ≡ false → place ≤ other)
            → F (Resolve who key) (replacing who key (Some place) a)
        replaces place none unused = record {
          way = Replace who place key;
          is = record {
            fits = refl;
            is_way = (record { calm = refl; session = is; mine = refl }, none, unused.0, unused.1);
            so = (let keyed = placed-keyed a place key unused.0 in known-pinning (placing_at place key a) who place key is keyed.0 keyed.1);
            caller = tells refl refl tt (λ _ _. tt);
          };
          leads = refl;
        }
    made (Try_now who place mode) is =
        asked who place mode is (λ refusal cause limit. refused who refusal refl cause (λ _ _. tt) limit)
        (λ ask. tested (λ busy. stays refl refl (ask.busy busy) (tells refl refl ask.clear (λ _ _. tt)))
        (λ free. tested (λ full. refused who Full refl ask.clear (λ _ _. tt) (at_least _ _ full))
        (λ _. makes who place (Gain mode) ask.may (Grant (record { session = who; number = _; key = key_at place a; mode = mode }))
        (inl (refl, ask.free (not_false _ free)), refl, tt) (refl, λ e. cc) refl tt (tells refl (refl, refl) ask.clear (λ _ _. tt)))))
    made (Begin_wait who place mode) is =
        asked who place mode is refuse
        (λ ask. tested (λ busy. tested (λ full. refused who Full refl ask.clear (λ _ _. tt) (at_least _ _ full))
        (λ _. makes who place (Queue mode) (may-at who place tied is ask.may.pin ask.may.allows)
        (BeginWait (key_at place a) (record { ticket = next_ticket who mode a; wait = (seat_at who a).last_wait + 1; state = Unsettled }))
        (refl, (_, refl), ask.busy busy) (refl, λ e. cc) refl (ask.busy busy) (tells refl (refl, refl) ask.clear (λ _ _. tt))))
        (λ free. tested (λ full. refused who Full refl ask.clear (λ _ _. tt) (at_least _ _ full))
        (λ _. makes who place (Gain mode) ask.may (Grant (record { session = who; number = _; key = key_at place a; mode = mode }))
        (inl (refl, ask.free (not_false _ free)), refl, tt) (refl, λ e. cc) refl tt (tells refl (refl, refl) ask.clear (λ _ _. tt)))))
      where
        refuse : (refusal : SpaceError) → IsCause (Knows a who) (Try_now who place mode) refusal (locks_at a who) → MeetsLimit a (Try_now who place mode) refusal
            → F (Begin_wait who place mode) (Refused refusal, a)
        refuse NoPlace cause limit = refused who NoPlace refl cause (λ _ _. tt) limit
        refuse _ cause limit = refused who _ refl cause (λ _ _. tt) limit
    made (Search who) is =
        option_cases (λ o. F (Search who) (searching_of o a)) (victim_at who a)
        (λ none. stays refl refl tt (tells refl refl tt (λ _ _. tt)))
        (λ victim e. (let h = victim-waits a who victim tied e in
        loses victim settled_as.Victim h.0 tied h.1 h.2 h.3 (λ x. cc)
        (_, _, refl, refl) refl (λ lost. lost) (tells refl refl tt (λ _ _. tt))))
    made (Poll_wait who) is =
        option_cases (λ o. F (Poll_wait who) (polling_of o a)) (seat_at who a).wait
        (λ none. (let idle = idle_so who none in refused who NoWait refl idle.0 (λ how has. absurd (idle.1 how has)) tt))
        (λ wait its. option_cases (λ s. F (Poll_wait who) (poll_answer s, a)) wait.settled
        (λ free. stays refl refl tt (tells refl refl (waiting_so who wait its) (λ how has. absurd (not_so who wait its free how has))))
        (λ how settled. stays refl refl (settled_at (seat_at who a) wait how its settled)
        (tells refl refl (waiting_so who wait its) (λ other has. ap (λ h. Is_settled h) (same_settled who wait its how other settled has)))))
    made (Settle_timeout who) is =
        option_cases (λ o. F (Settle_timeout who) (timing_out_of who o a)) (seat_at who a).wait
        (λ none. (let idle = idle_so who none in refused who NoWait refl idle.0 (λ how has. absurd (idle.1 how has)) tt))
        (λ wait its. option_cases (λ s. F (Settle_timeout who) (timing_out_at who s a)) wait.settled
        (λ free. loses who settled_as.Timeout wait tied is its free (λ x. cc)
        (_, _, refl, refl) refl (λ lost. lost) (tells refl refl (waiting_so who wait its) (λ how has. absurd (not_so who wait its free how has))))
        (λ how settled. stays refl refl (settled_at (seat_at who a) wait how its settled)
        (tells refl refl (waiting_so who wait its) (λ other has. ap (λ h. Timed_out (Already h)) (same_settled who wait its how other settled has)))))
    made (End_wait who) is =
        option_cases (λ o. F (End_wait who) (ending_of who o a)) (seat_at who a).wait
        (λ none. (let idle = idle_so who none in refused who NoWait refl idle.0 (λ how has. absurd (idle.1 how has)) tt))
        (λ wait its. at wait its wait.settled refl)
      where
        left : (wait : Pending) → (seat_at who a).wait ≡ Some wait → (how : Settled) → wait.settled ≡ Some how → how ≢ settled_as.Granted
            → is_answer_of (End_wait who) (Lost how) ≡ true → IsEndOf how (Lost how) → F (End_wait who) (Lost how, serving wait.place (ending_lost who wait a))
        left wait its how settled other fits end =
            makes who wait.place (Leave wait)
            (may-at_wait who wait tied is its (its, (λ e. other (let f = sym settled ∙ e in cc)), refl))
            (EndLostWait (key_at wait.place a) (system_waiter (ticket_of_wait who wait) (Some wait)))
            ((refl, λ e. (let f = sym settled ∙ e in cc)), (_, _, refl, ap wait_state_of settled, refl), tt) (refl, λ e. refl) fits tt
            (tells refl refl (waiting_so who wait its) (λ h has. subst (λ g. IsEndOf g (Lost how)) (same_settled who wait its how h settled has) end))

        at : (wait : Pending) → (seat_at who a).wait ≡ Some wait → (s : Option Settled) → wait.settled ≡ s → F (End_wait who) (ending_at who wait s a)
        at wait its None free = refused who Not_settled refl (waiting_so who wait its) (λ how has. absurd (not_so who wait its free how has)) tt
        at wait its (Some settled_as.Granted) won =
            makes who wait.place (Take_up wait)
            (may-at_wait who wait tied is its (its, won, refl))
            (EndGrantedWait (record { session = who; wait = wait.number; ticket = wait.id })) (refl, (wait.number, refl), tt) (refl, λ e. refl) refl tt
            (tells (subst (λ (o : Option Pending). locks_of_seat (with_ticket_of wait (seat_at who a)) ≡ winning wait.id (option_map as_wait o) (locks_at a who)) (sym its) refl)
            (last-waits (seat_at who a) wait (tied.numbered who is) its, refl) (waiting_so who wait its)
            (λ h has. subst (λ g. IsEndOf g (Granted wait.id)) (same_settled who wait its settled_as.Granted h won has) (wait.id, refl)))
        at wait its (Some settled_as.Victim) e = left wait its settled_as.Victim e (λ x. cc) refl refl
        at wait its (Some settled_as.Timeout) e = left wait its settled_as.Timeout e (λ x. cc) refl refl
        at wait its (Some settled_as.Killed) e = left wait its settled_as.Killed e (λ x. cc) refl refl
    made (Wait_of target) is = stays refl refl refl tt
    made (Kill target number) is =
        tested (λ e. (let h = killed_wait a target number e in
        loses target settled_as.Killed h.0 tied h.1 h.2 h.4 (λ x. cc)
        (_, _, refl, h.3, refl) refl (λ lost. (sym (number-same (seat_at target a)) ∙ ap (option_map (λ (x : Pending). x.number)) h.2 ∙ ap Some h.3, lost)) tt))
        (λ shut. stays refl refl (shut, refl) tt)
    made (Release who id) is =
        option_cases (λ o. F (Release who id) (releasing_of who o a)) (held_ticket who id a)
        (λ none. refused who NotHeld refl (ap is_some none) (λ _ _. tt) tt)
        (λ ticket e. (let mine = in_hand who id ticket e in
        makes who ticket.place (Lose ticket)
        (may-at_ticket who ticket tied is mine.0 (mine.0, refl)) (Give_up (holding_of who ticket a))
        (refl, (_, refl, mine.1, refl), tt) (refl, λ f. cc) refl tt (tells (ap (λ n. giving_up n (locks_at a who)) mine.1) refl (ap is_some e) (λ _ _. tt))))
    made (Clone_ticket who id mode) is =
        option_cases (λ o. F (Clone_ticket who id mode) (cloning_of who mode o a)) (held_ticket who id a)
        (λ none. refused who NotHeld refl (ap is_some none) (λ _ _. tt) tt)
        (λ ticket e. cause_cases (F (Clone_ticket who id mode)) a _ (clone_causes who mode ticket a) (
          (λ f. refused who AlreadyWaiting refl (ap is_some e, waits_so who true f) (λ _ _. tt) tt),
          λ idle. (
            (λ f. refused who BadMode refl (waits_so who false idle, of_held who id ticket (MayNotClone (Knows a who) mode) e (not_clonable who mode ticket (not_true _ f))) (λ _ _. tt) tt),
            λ may. (
                let able = and_parts (covers ticket.mode mode) (is_mode_of (lock_kind (book_at ticket.place a)) mode) (not_false _ may) in
                let clear : (is_waiting (locks_at a who) ≡ false) × OfHeld id (locks_at a who) (MayClone (Knows a who) mode) =
                (waits_so who false idle, of_held who id ticket (MayClone (Knows a who) mode) e (able.0, fit who ticket.place mode able.1)) in
                let mine = in_hand who id ticket e in
                let key = ticket-key a who ticket tied is (inl (inl mine.0)) in
                let legal = (tied.granted_by ticket.place key (in_book_of who ticket) ((tied.granted who ticket is key).1 (inl mine.0))).1 in (
                  (λ f. refused who CounterFull refl clear (λ _ _. tt) (at_least _ _ f)),
                  λ _. tested (λ full. refused who Full refl clear (λ _ _. tt) (ticket, e, at_least _ _ full))
                      (λ _. makes who ticket.place (Gain mode) (may-at_ticket who ticket tied is mine.0 (none_there _ idle, able.1))
                      (Clone (holding_of who ticket a) (record { session = who; number = _; key = key_at ticket.place a; mode = mode }))
                      (inr (ticket, mine.0, refl, covers-at_least (lock_kind (book_at ticket.place a)) ticket.mode mode legal able.1 able.0, refl), (_, refl, mine.1, refl), tt)
                      (refl, λ f. cc) refl tt
                      (tells (ap (λ o. cloning_own ((seat_at who a).last_ticket + 1) mode o (locks_at a who)) (sym e)) (refl, refl) clear (λ _ _. tt))),
                )),
          ),
        ))
    made (Upgrade_now who id mode) is =
        option_cases (λ o. F (Upgrade_now who id mode) (upgrading_of who mode o a)) (held_ticket who id a)
        (λ none. refused who NotHeld refl (ap is_some none) (λ _ _. tt) tt)
        (λ ticket e. cause_cases (F (Upgrade_now who id mode)) a _ (upgrade_causes who mode ticket a) (
          (λ f. refused who NotUpgradable refl (of_held who id ticket (MayNotUpgrade (Knows a who) mode) e (not_upgradable who mode ticket (not_true _ f))) (λ _ _. tt) tt),
          λ may. (
              let able = and_parts (covers ticket.mode mode || may_upgrade ticket.mode mode) (is_mode_of (lock_kind (book_at ticket.place a)) mode) (not_false _ may) in
              let clear : OfHeld id (locks_at a who) (MayUpgrade (Knows a who) mode) =
              of_held who id ticket (MayUpgrade (Knows a who) mode) e (able.0, fit who ticket.place mode able.1) in (
                (λ f. refused who AlreadyWaiting refl (waits_so who true f, clear) (λ _ _. tt) tt),
                λ idle. under ticket e idle able.0 able.1 clear,
              )),
        ))
      where
        under : (ticket : Held) → held_ticket who id a ≡ Some ticket → is_some (seat_at who a).wait ≡ false
            → (covers ticket.mode mode || may_upgrade ticket.mode mode) ≡ true → is_mode_of (lock_kind (book_at ticket.place a)) mode ≡ true
            → OfHeld id (locks_at a who) (MayUpgrade (Knows a who) mode) → F (Upgrade_now who id mode) (upgraded_if_free who mode ticket a)
        under ticket e idle able fits may =
            let mine = in_hand who id ticket e in
            let clear : (is_waiting (locks_at a who) ≡ false) × OfHeld id (locks_at a who) (MayUpgrade (Knows a who) mode) = (waits_so who false idle, may) in
            let rising = pairs-from_rising (seat_at who a).held (tied.numbered who is).rising in
            let key = ticket-key a who ticket tied is (inl (inl mine.0)) in
            let free = free-grantable a who ticket.place mode tied key in
            tested
            (λ strong. stays refl (ap (is_weaker mode) e ∙ ap not strong) (of_held who id ticket (HasAtOnce a who mode) e (inl strong))
            (tells (sym (own-kept (seat_at who a) rising id ticket mine.0 mine.1 (upgraded mode) (ap (λ b. if b then ticket.mode else mode) strong))) refl clear (λ _ _. tt)))
            (λ weak. tested (λ busy. stays refl refl
            (of_held who id ticket (HasNotAtOnce a who mode) e (weak, λ grantable. false≢true (sym (not_true _ busy) ∙ free.1 grantable))) (tells refl refl clear (λ _ _. tt)))
            (λ may_have. (let up = or-right _ _ able weak in
            subst (λ room. F (Upgrade_now who id mode) (Upgraded, served_if room ticket.place (altering who ticket mode a))) (upgrade-raises ticket.mode mode up).1
            (makes who ticket.place (Alter ticket mode) (may-at_ticket who ticket tied is mine.0 (mine.0, refl, fits)) (Raise (holding_of who ticket a) mode)
            (inl (refl, none_there _ idle, up, free.0 (not_false _ may_have)), (_, refl, mine.1, refl), tt) (refl, λ f. cc) refl
            (of_held who id ticket (HasAtOnce a who mode) e (inr (free.0 (not_false _ may_have))))
            (tells (own-changed (seat_at who a) rising id ticket mine.0 mine.1 (upgraded mode) mode (ap (λ b. if b then ticket.mode else mode) weak)) refl clear (λ _ _. tt))))))
    made (Merge who old new) is =
        option_cases (λ o. F (Merge who old new) (merging_of who o (held_ticket who new a) a)) (held_ticket who old a)
        (λ none. refused who NotHeld refl (ap (λ (o : Option Held). is_some o && holds new (locks_at a who)) none) (λ _ _. tt) tt)
        (λ kept e. option_cases (λ o. F (Merge who old new) (merging_of who (Some kept) o a)) (held_ticket who new a)
        (λ none. refused who NotHeld refl (λ i. is_some (e i) && is_some (none i)) (λ _ _. tt) tt)
        (λ gone g. cause_cases (F (Merge who old new)) a _ (merge_causes who kept gone a) (
          (λ f. refused who AlreadyWaiting refl ((λ i. is_some (e i) && is_some (g i)), waits_so who true f) (λ _ _. tt) tt),
          λ idle. (
            (λ f. refused who BadMode refl (waits_so who false idle, both kept gone e g false (not_true _ f)) (λ _ _. tt) tt),
            λ may. (
                let mine = in_hand who old kept e in
                let other = in_hand who new gone g in
                let fits = not_false _ may in
                makes who kept.place (Fold kept gone)
                (may-at_ticket who kept tied is mine.0 (none_there _ idle, mine.0, other.0, refl, sym (merged_place kept gone fits), fits))
                (Unite (holding_of who kept a) (holding_of who gone a)) (refl, (_, _, refl, mine.1, refl, other.1, refl), tt) (refl, λ f. cc) refl tt
                (tells (own-merged kept gone mine.1 other.1 ∙ ap (λ o. merging_own old new o (locks_at a who)) (sym g)) refl
                (waits_so who false idle, both kept gone e g true fits) (λ _ _. tt))),
          ),
        )))
      where
        both : (kept gone : Held) → held_ticket who old a ≡ Some kept → held_ticket who new a ≡ Some gone → (answer : Bool) → may_merge kept gone ≡ answer
            → Mergeable answer old new (locks_at a who)
        both kept gone e g answer is = of_held who old kept (λ k. OfHeld new (locks_at a who) (λ h. may_merge k h ≡ answer)) e
            (of_held who new gone (λ h. may_merge kept h ≡ answer) g is)

        own-merged : (kept gone : Held) → kept.id ≡ old → gone.id ≡ new
            → locks_of_seat (with_ticket_in kept.id gone.mode (without_ticket gone.id (seat_at who a))) ≡ changing_own old (λ _. gone.mode) (giving_up new (locks_at a who))
        own-merged kept gone one other = λ i. changing_own (one i) (λ _. gone.mode) (giving_up (other i) (locks_at a who))
    made (Downgrade who id mode) is =
        option_cases (λ o. F (Downgrade who id mode) (downgrading_of who mode o a)) (held_ticket who id a)
        (λ none. refused who NotHeld refl (ap is_some none) (λ _ _. tt) tt)
        (λ ticket e. tested
        (λ f. refused who NotUpgradable refl (of_held who id ticket (MayNotDowngrade (Knows a who) mode) e (not_downgradable who mode ticket (not_true _ f))) (λ _ _. tt) tt)
        (λ f. (let able = and_parts (may_downgrade ticket.mode mode) (is_mode_of (lock_kind (book_at ticket.place a)) mode) (not_false _ f) in
        let mine = in_hand who id ticket e in
        subst (λ room. F (Downgrade who id mode) (Done, served_if room ticket.place (altering who ticket mode a))) able.0
        (makes who ticket.place (Alter ticket mode)
        (may-at_ticket who ticket tied is mine.0 (mine.0, refl, able.1)) (Lower (holding_of who ticket a) mode)
        (inr (refl, able.0), (_, refl, mine.1, refl), tt) (refl, λ g. cc) refl tt
        (tells (ap (λ n. changing_own n (λ _. mode) (locks_at a who)) mine.1) refl
        (of_held who id ticket (MayDowngrade (Knows a who) mode) e (able.0, fit who ticket.place mode able.1)) (λ _ _. tt))))))
    made (Read_definition who id) is =
        option_cases (λ o. F (Read_definition who id) (reading_of o a)) (held_ticket who id a)
        (λ none. refused who NotHeld refl (ap is_some none) (λ _ _. tt) tt)
        (λ ticket e. stays refl refl tt (tells refl refl (ap is_some e) (λ _ _. tt)))
    made (Read_kept who id) is =
        option_cases (λ o. F (Read_kept who id) (reading_of o a)) (held_ticket who id a)
        (λ none. refused who NotHeld refl (ap is_some none) (λ _ _. tt) tt)
        (λ ticket e. stays refl refl tt (tells refl refl (ap is_some e) (λ _ _. tt)))
    made (Change_definition who id change) is =
        option_cases (λ o. F (Change_definition who id change) (redefining_of o change a)) (held_ticket who id a)
        (λ none. refused who NotHeld refl (ap is_some none) (λ _ _. tt) tt)
        (λ ticket e. tested
        (λ other. refused who NotExclusive refl (of_held who id ticket (λ t. same_mode t.mode X ≡ false) e (not_true _ other)) (λ _ _. tt) tt)
        (λ exclusive. under_x ticket e (not_false _ exclusive)))
      where
        -- memory isn't wanting for what stands
        own_cause : (why : DefError) → why ≢ fault.OutOfMemory → OfHeld id (locks_at a who) (λ t. same_mode t.mode X ≡ true)
            → IsCause (Knows a who) (Change_definition who id change) (Def why) (locks_at a who)
        own_cause fault.OutOfMemory apart clear = absurd (apart refl)
        own_cause _ apart clear = clear

        under_x : (ticket : Held) → held_ticket who id a ≡ Some ticket → same_mode ticket.mode X ≡ true
            → F (Change_definition who id change) (redefined_unless (redefining_fault ticket.place change a) ticket.place change a)
        under_x ticket e exclusive =
            let mine = in_hand who id ticket e in
            let clear = of_held who id ticket (λ t. same_mode t.mode X ≡ true) e exclusive in
            option_cases (λ o. F (Change_definition who id change) (redefined_unless o ticket.place change a)) (redefining_fault ticket.place change a)
            (λ free. subst (λ b. F (Change_definition who id change) (Changed ((standing_at ticket.place a).version + 1), b))
            (ap (booking ticket.place (redefining change (book_at ticket.place a))) (seat-kept a who))
            (makes who ticket.place (Redefine ticket change)
            (may-at_ticket who ticket tied is mine.0 (mine.0, refl, exclusive-is ticket.mode exclusive, free)) (ChangeDefinition (holding_of who ticket a) change)
            (refl, (_, refl, mine.1, refl), tt) (refl, λ f. cc) refl tt (tells refl refl clear (λ _ _. tt))))
            (λ why faulted. fault-cases (λ w. F (Change_definition who id change) (Refused (cause_of w), a))
            (key_at ticket.place a).namespace change (standing_at ticket.place a)
            (λ full. refused who VersionFull refl clear (λ _ _. tt) (ticket, e, at_least _ _ full))
            (refused who WrongKind refl clear (λ _ _. tt) tt)
            (λ one apart. refused who (Def one) refl (own_cause one apart clear) (λ _ _. tt) tt)
            why faulted)
    made (Key_of who place) is =
        tested (λ absent. refused who NoPlace refl (unknown who place (not_true _ absent)) (λ _ _. tt) (not_true _ absent))
        (λ there. stays refl refl (not_false _ there, refl) (tells refl refl tt (λ _ _. tt)))
    made (Tables_of who schema) is = stays refl refl (refl, refl) (tells refl refl tt (λ _ _. tt))
    made (List_held who) is = stays refl refl refl (tells refl refl tt (λ _ _. tt))
    made (Unpin who place) is =
        cause_cases (F (Unpin who place)) a (Done, unpinning who place a) (unpin_causes who place a) (
          (λ e. refused who NoPlace refl (not_true _ e) (λ _ _. tt) (not_true _ e)),
          λ pin. (
            (λ needed. refused who InUse refl (not_false _ pin) (λ _ _. tt) (needs-told a who place needed)),
            λ free. record {
              way = Repin who (without_place place (seat_at who a).pins);
              is = record {
                fits = refl;
                is_way = (record { calm = refl; session = is; mine = refl }, may-unpin a who place tied is free);
                so = tt;
                caller = tells refl refl (
                  not_false _ pin,
                  (λ holds. false≢true (sym free ∙ needs-from a who place (inl holds))),
                  λ awaits. false≢true (sym free ∙ needs-from a who place (inr awaits)),
                ) (λ _ _. tt);
              };
              leads = refl;
            },
          ),
        )
