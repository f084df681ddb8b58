-- Which places a session pins after a call, by the call and its answer.
use Rattle.std.proofs.Common.{◌≡◌, ℕ, true, List, Some, refl, sym, ◌∙◌}
use Rattle.mdl_calls.specs.AllCalls.{spec_of}
use Rattle.mdl_calls.specs.Words.{Answer, Done, At_place, Granted, Upgraded, Call, Resolve, Try_now, Begin_wait, End_wait, Release, Clone_ticket, Upgrade_now, Merge, Downgrade, Unpin, SessionLocks, caller, own_after}
use Rattle.mdl_calls.proofs.PinLemmas.{is_among, pins_by, pins-after, with-keeps, without-keeps}
use Rattle.mdl_core.specs.Determined.{pins_after}

-- a call's effect on pins is what its answer says of them
effect-pins : (call : Call) (answer : Answer) (pins : List ℕ) → pins_by ((spec_of call).effect answer) pins ≡ pins_after call answer pins
effect-pins (Resolve who key) (At_place place) pins = refl
effect-pins (Unpin who place) Done pins = refl
effect-pins (Try_now who place mode) (Granted id) pins = refl
effect-pins (Begin_wait who place mode) (Granted id) pins = refl
effect-pins (End_wait who) (Granted id) pins = refl
effect-pins (Release who id) Done pins = refl
effect-pins (Clone_ticket who id mode) (Granted copy) pins = refl
effect-pins (Upgrade_now who id mode) Upgraded pins = refl
effect-pins (Merge who old new) Done pins = refl
effect-pins (Downgrade who id mode) Done pins = refl
effect-pins _ _ pins = refl

pub pins-follow : (call : Call) (answer : Answer) (own : SessionLocks) → (own_after call answer own).pins ≡ pins_after call answer own.pins
pins-follow call answer own = pins-after ((spec_of call).effect answer) own ∙ effect-pins call answer own.pins

-- a pin stays until it is given up
pub pin-stays : (call : Call) (answer : Answer) (who place : ℕ) (pins : List ℕ) → caller call ≡ Some who → (call ≡ Unpin who place → answer ≡ Done → ⊥)
    → is_among place pins ≡ true → is_among place (pins_after call answer pins) ≡ true
pin-stays (Resolve w key) (At_place other) who place pins mine stays among = with-keeps place other pins among
pin-stays (Unpin w other) Done who place pins mine stays among =
    let own : w ≡ who = cc in
    without-keeps place other pins (λ same. stays (λ i. Unpin (own i) (sym same i)) refl) among
pin-stays _ _ who place pins mine stays among = among
