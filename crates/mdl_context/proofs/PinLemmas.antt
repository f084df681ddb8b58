-- What a session pins, as calls are made for its context.
use Rattle.std.proofs.Common.{◌≡◌, ℕ, true, false, List, Some, None, ap, ◌∙◌}
use Rattle.std.specs.Prelude.{◌==◌, Bool}
use Rattle.std.specs.List.{list_any}
use Rattle.mdl_calls.specs.Words.{Answer, At_place, Begin_wait, Call, Clone_ticket, Done, Downgrade, End_wait, Granted, Lost, Merge, Release, Resolve, Try_now, Unpin, Upgrade_now, Upgraded, Waits, SessionLocks, cloning, is_pinned, own_after, ticket_held, winning}
use Rattle.mdl_calls.specs.SessionLocks.{merging}
use Rattle.mdl_calls.proofs.PinLemmas.{pinned-still}

-- whether a call gives up a pin
abbrev pub unpins : Call → Bool
unpins (Unpin who place) = true
unpins _ = false

-- what is pinned at first is pinned afterwards
abbrev pub PinsStay : SessionLocks → SessionLocks → Type 0
PinsStay before after = (place : ℕ) → is_pinned place before ≡ true → is_pinned place after ≡ true

-- where the same places are pinned
pub pins-same : (before after : SessionLocks) → after.pins ≡ before.pins → PinsStay before after
pins-same before after same place pinned = ap (λ (pins : List ℕ). list_any (λ pin. pin == place) pins) same ∙ pinned

-- each call but `unpin` leaves what is pinned
pub pins-rest : (call : Call) (answer : Answer) (own : SessionLocks) → unpins call ≡ false → PinsStay own (own_after call answer own)
pins-rest (Resolve who key) (At_place added) own stays place pinned = pinned-still place added own pinned
pins-rest (Unpin who gone) Done own stays place pinned = cc
pins-rest (Try_now who at mode) (Granted id) own stays place pinned = pinned
pins-rest (Begin_wait who at mode) (Granted id) own stays place pinned = pinned
pins-rest (Begin_wait who at mode) (Waits number) own stays place pinned = pinned
pins-rest (End_wait who) (Granted id) own stays place pinned =
    elim own.wait as (λ o. is_pinned place (winning id o own) ≡ true) [ None ↦ pinned | Some wait ↦ pinned ]
pins-rest (End_wait who) (Lost how) own stays place pinned = pinned
pins-rest (Release who id) Done own stays place pinned = pinned
pins-rest (Clone_ticket who id mode) (Granted copy) own stays place pinned =
    elim (ticket_held id own) as (λ o. is_pinned place (cloning copy mode o own) ≡ true) [ None ↦ pinned | Some t ↦ pinned ]
pins-rest (Merge who old new) Done own stays place pinned =
    elim (ticket_held new own) as (λ o. is_pinned place (merging old new o own) ≡ true) [ None ↦ pinned | Some t ↦ pinned ]
pins-rest (Upgrade_now who id mode) Upgraded own stays place pinned = pinned
pins-rest (Downgrade who id mode) Done own stays place pinned = pinned
pins-rest _ _ own stays place pinned = pinned
