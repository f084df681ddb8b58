-- What a session has after a call: tickets of rising numbers, and its tickets and wait at places that it pins.
use Rattle.std.proofs.Common.{◌≡◌, ℕ, ◌+◌, Bool, true, false, not, nat_lt, List, [], ◌∷◌, ◌++◌, map, filter, is_some, Option, Some, None, MatchOption, if◌then◌else◌, refl, sym, ap, subst, ◌∙◌, lt-ltb, arith}
use Rattle.mdl_calls.proofs.PinLemmas.{KeepsPins}
use Rattle.mdl_calls.specs.Effects.{Pins}
use Rattle.mdl_session_laws.proofs.FirstLemmas.{Answer, At_place, Begin_wait, Call, Clone_ticket, Done, Downgrade, Draws, DrawsTicket, DrawsWait, End_wait, Granted, Held, IsExplained, IsRising, KeyName, Knowledge, Lost, MayClone, Merge, Mode, Numbers, Release, Resolve, SessionLocks, Try_now, Unpin, Upgrade_now, Upgraded, Waits, all-changed, all-fewer, all-last, are_below, below-up, changing, cloning, ending, effect_of, ends_wait, first_free, gaining, giving_up, is_number, is_waiting, merging, own_after, rising-changed, rising-fewer, rising-last, ticket_held, upgraded, waiting, winning}

-- ---- a ticket that gets another mode

-- it, where it has this number
abbrev in_mode : ℕ → (Mode → Mode) → Held → Held
in_mode id change t = if is_number id t then record t { mode = change t.mode } else t

-- it keeps its number
keeps-number : (id : ℕ) (change : Mode → Mode) (t : Held) → (in_mode id change t).id ≡ t.id
keeps-number id change t = elim (is_number id t) as (λ b. (if b then record t { mode = change t.mode } else t).id ≡ t.id) [ true ↦ refl | false ↦ refl ]

-- ---- pins

-- what must hold for a call not to be refused lets the session pin the places of its tickets and of its wait
pub keeps-pins : (knows : Knowledge) (call : Call) (answer : Answer) (own : SessionLocks) → IsExplained knows call answer own → KeepsPins (effect_of call answer) own
keeps-pins knows (Try_now who place mode) (Granted id) own clear = clear.0
keeps-pins knows (Begin_wait who place mode) (Granted id) own clear = clear.0
keeps-pins knows (Begin_wait who place mode) (Waits number) own clear = clear.0
keeps-pins knows (End_wait who) (Granted id) own clear = tt
keeps-pins knows (End_wait who) (Lost how) own clear = tt
keeps-pins knows (Release who id) Done own clear = tt
keeps-pins knows (Clone_ticket who id mode) (Granted copy) own clear = tt
keeps-pins knows (Upgrade_now who id mode) Upgraded own clear = tt
keeps-pins knows (Merge who old new) Done own clear = tt
keeps-pins knows (Downgrade who id mode) Done own clear = tt
keeps-pins knows (Resolve who key) (At_place place) own clear = tt
keeps-pins knows (Unpin who place) Done own clear = (clear.1, clear.2)
keeps-pins knows _ _ own clear = tt

-- only a place that was resolved is pinned
pub pins-by : (call : Call) (answer : Answer) (place : ℕ) → effect_of call answer ≡ Pins place
    → (who : ℕ) × (key : KeyName) × (call ≡ Resolve who key) × (answer ≡ At_place place)
pins-by (Resolve who key) (At_place at) place pins = let same : at ≡ place = cc in (who, key, refl, ap (λ p. At_place p) same)
pins-by (Try_now who place mode) (Granted id) at pins = cc
pins-by (Begin_wait who place mode) (Granted id) at pins = cc
pins-by (Begin_wait who place mode) (Waits number) at pins = cc
pins-by (End_wait who) (Granted id) at pins = cc
pins-by (End_wait who) (Lost how) at pins = cc
pins-by (Release who id) Done at pins = cc
pins-by (Clone_ticket who id mode) (Granted copy) at pins = cc
pins-by (Upgrade_now who id mode) Upgraded at pins = cc
pins-by (Merge who old new) Done at pins = cc
pins-by (Downgrade who id mode) Done at pins = cc
pins-by (Unpin who place) Done at pins = cc
pins-by _ _ at pins = cc

-- ---- numbers

-- held tickets have rising numbers, and the first free one is above them
abbrev Counts : SessionLocks → Numbers → Type 0
Counts own numbers = IsRising own × (are_below (first_free (is_waiting own) numbers) own.held ≡ true)

-- whether it waits or not, the next number is above them
below-next : (own : SessionLocks) (numbers : Numbers) → Counts own numbers → are_below (numbers.last_ticket + 1) own.held ≡ true
below-next own numbers counts = by (is_waiting own) counts.1
  where
    by : (b : Bool) → are_below (first_free b numbers) own.held ≡ true → are_below (numbers.last_ticket + 1) own.held ≡ true
    by false below = below
    by true below = below-up numbers.last_ticket (numbers.last_ticket + 1) (lt-ltb numbers.last_ticket (numbers.last_ticket + 1) (omega arith)) own.held below

below-last : (held : List Held) (t : Held) → are_below t.id held ≡ true → are_below (t.id + 1) (held ++ t ∷ []) ≡ true
below-last held t below =
    let next = lt-ltb t.id (t.id + 1) (omega arith) in
    all-last (λ other. nat_lt other.id (t.id + 1)) held t (below-up t.id (t.id + 1) next held below) next

-- one more, of the next number, where it doesn't wait
counts-gaining : (own : SessionLocks) (id place : ℕ) (mode : Mode) (before after : Numbers) → is_waiting own ≡ false → Counts own before → DrawsTicket id before after
    → Counts (gaining id place mode own) after
counts-gaining own id place mode before after idle counts draws = (
  rising-last own.held t counts.0 below,
  subst (λ b. are_below (first_free b after) (own.held ++ t ∷ []) ≡ true) (sym idle)
      (subst (λ (n : ℕ). are_below (n + 1) (own.held ++ t ∷ []) ≡ true) (draws.0 ∙ sym (ap (λ (n : Numbers). n.last_ticket) draws.1)) (below-last own.held t below)),
)
  where
    t : Held
    t = record { id = id; place = place; mode = mode }

    below : are_below id own.held ≡ true
    below = subst (λ n. are_below n own.held ≡ true) (sym draws.0) (below-next own before counts)

-- those that are left, where it waits or not as before and gives no number
counts-fewer : (own : SessionLocks) (keep : Held → Bool) (before after : Numbers) → Counts own before → after ≡ before → Counts (record own { held = filter keep own.held }) after
counts-fewer own keep before after counts e = (
  rising-fewer keep own.held counts.0,
  subst (λ n. are_below (first_free (is_waiting own) n) (filter keep own.held) ≡ true) (sym e)
      (all-fewer (λ other. nat_lt other.id (first_free (is_waiting own) before)) keep own.held counts.1),
)

-- and those that get another mode
counts-changed : (own : SessionLocks) (id : ℕ) (change : Mode → Mode) (before after : Numbers) → Counts own before → after ≡ before → Counts (changing id change own) after
counts-changed own id change before after counts e = (
  rising-changed (in_mode id change) (keeps-number id change) own.held counts.0,
  subst (λ n. are_below (first_free (is_waiting own) n) (map (in_mode id change) own.held) ≡ true) (sym e)
      (all-changed (λ other. nat_lt other.id (first_free (is_waiting own) before)) (in_mode id change)
      (λ t. ap (λ n. nat_lt n (first_free (is_waiting own) before)) (keeps-number id change t)) own.held counts.1),
)

-- nothing at all
counts-same : (own : SessionLocks) (before after : Numbers) → Counts own before → after ≡ before → Counts own after
counts-same own before after counts e = subst (Counts own) (sym e) counts

-- without the wait
counts-ending : (own : SessionLocks) (before after : Numbers) → Counts own before → after ≡ before → Counts (ending own) after
counts-ending own before after counts e = subst (Counts (ending own)) (sym e) (counts.0, below-next own before counts)

-- with the ticket that was waited for
counts-winning : (own : SessionLocks) (id : ℕ) (before after : Numbers) → is_waiting own ≡ true → Counts own before → (id ≡ before.last_ticket) × (after ≡ before)
    → Counts (winning id own.wait own) after
counts-winning own id before after waits counts draws =
    elim own.wait as (λ o. is_some o ≡ true → are_below (first_free (is_some o) before) own.held ≡ true → Counts (winning id o own) after) [
      | None ↦ λ e below. cc
      | Some wait ↦ λ e below. (
          let mine : are_below id own.held ≡ true = subst (λ n. are_below n own.held ≡ true) (sym draws.0) below in
          let t : Held = record { id = id; place = wait.place; mode = wait.mode } in (
            rising-last own.held t counts.0 mine,
            subst (λ (n : ℕ). are_below (n + 1) (own.held ++ t ∷ []) ≡ true) (draws.0 ∙ sym (ap (λ (n : Numbers). n.last_ticket) draws.1)) (below-last own.held t mine),
          ))
    ] waits counts.1

-- with a wait, of the next number
counts-waiting : (own : SessionLocks) (number place : ℕ) (mode : Mode) (before after : Numbers) → is_waiting own ≡ false → Counts own before → DrawsWait number before after
    → Counts (waiting number place mode own) after
counts-waiting own number place mode before after idle counts draws = (
  counts.0,
  subst (λ (n : ℕ). are_below n own.held ≡ true) (sym (ap (λ (n : Numbers). n.last_ticket) draws.1)) (below-next own before counts),
)

-- whatever a call leaves
pub counts-after : (knows : Knowledge) (call : Call) (answer : Answer) (own : SessionLocks) (before after : Numbers) → Counts own before
    → Draws call answer before after → IsExplained knows call answer own → Counts (own_after call answer own) after
counts-after knows (Try_now who place mode) (Granted id) own before after counts draws clear = counts-gaining own id place mode before after clear.1 counts draws
counts-after knows (Begin_wait who place mode) (Granted id) own before after counts draws clear = counts-gaining own id place mode before after clear.1 counts draws
counts-after knows (Begin_wait who place mode) (Waits number) own before after counts draws clear = counts-waiting own number place mode before after clear.1 counts draws
counts-after knows (End_wait who) (Granted id) own before after counts draws clear = counts-winning own id before after clear counts draws
counts-after knows (End_wait who) (Lost how) own before after counts draws clear = counts-ending own before after counts draws
counts-after knows (Release who id) Done own before after counts draws clear = counts-fewer own (λ ticket. not (is_number id ticket)) before after counts draws
counts-after knows (Clone_ticket who id mode) (Granted copy) own before after counts draws clear = by (ticket_held id own) clear.1
  where
    by : (o : Option Held) → MatchOption o ⊥ (MayClone knows mode) → Counts (cloning copy mode o own) after
    by None none = absurd none
    by (Some t) may = counts-gaining own copy t.place mode before after clear.0 counts draws
counts-after knows (Upgrade_now who id mode) Upgraded own before after counts draws clear = counts-changed own id (upgraded mode) before after counts draws
counts-after knows (Merge who old new) Done own before after counts draws clear = by (ticket_held new own)
  where
    by : (o : Option Held) → Counts (merging old new o own) after
    by None = counts-same own before after counts draws
    by (Some t) =
        counts-changed (giving_up new own) old (λ _. t.mode) before after
        (counts-fewer own (λ ticket. not (is_number new ticket)) before before counts refl) draws
counts-after knows (Downgrade who id mode) Done own before after counts draws clear = counts-changed own id (λ _. mode) before after counts draws
counts-after knows (Resolve who key) (At_place place) own before after counts draws clear = counts-same own before after counts draws
counts-after knows (Unpin who place) Done own before after counts draws clear = counts-same own before after counts draws
counts-after knows _ _ own before after counts draws clear = counts-same own before after counts draws

-- ---- the wait

-- a wait goes on unless it is ended
pub waits-on : (call : Call) (answer : Answer) (own : SessionLocks) → ends_wait call answer ≡ false → is_waiting own ≡ true → is_waiting (own_after call answer own) ≡ true
waits-on (Try_now who place mode) (Granted id) own on waits = waits
waits-on (Begin_wait who place mode) (Granted id) own on waits = waits
waits-on (Begin_wait who place mode) (Waits number) own on waits = refl
waits-on (End_wait who) (Granted id) own on waits = cc
waits-on (End_wait who) (Lost how) own on waits = cc
waits-on (Release who id) Done own on waits = waits
waits-on (Clone_ticket who id mode) (Granted copy) own on waits =
    elim (ticket_held id own) as (λ o. is_waiting (cloning copy mode o own) ≡ true) [ None ↦ waits | Some t ↦ waits ]
waits-on (Upgrade_now who id mode) Upgraded own on waits = waits
waits-on (Merge who old new) Done own on waits =
    elim (ticket_held new own) as (λ o. is_waiting (merging old new o own) ≡ true) [ None ↦ waits | Some t ↦ waits ]
waits-on (Downgrade who id mode) Done own on waits = waits
waits-on (Resolve who key) (At_place place) own on waits = waits
waits-on (Unpin who place) Done own on waits = waits
waits-on _ _ own on waits = waits
