-- The space goes on to speak for both sessions.
use Rattle.std.proofs.Common.{arith}
use Rattle.mdl_key.specs.declared.mode.Mode.TheVariants.{SR, X}
use Rattle.mdl_calls.specs.Words.{Resolve, Unpin, Try_now, Begin_wait, Release, End_wait}
use Rattle.mdl_core.proofs.CallLaws.{core-keeps}
use Rattle.mdl_core.proofs.CoreSound.{calls_keep-sound}
use Rattle.mdl_space_trials.proofs.examples.space.a_change_waits_in_a_space.Goals as goal

pub resolve-requires : goal.resolve-requires
resolve-requires g c = c.in_ok-space.ensures.speaks 1 (omega arith) (omega arith)

pub resolve-requires-2 : goal.resolve-requires-2
resolve-requires-2 g c =
    let new = c.in_ok-space.ensures.speaks 2 (omega arith) (omega arith) in
    core-keeps calls_keep-sound _ _ (Resolve 1 c.in_ok-orders.orders) _ 2 new c.resolve.ensures

pub try_now-requires : goal.try_now-requires
try_now-requires g c =
    let new = c.in_ok-space.ensures.speaks 1 (omega arith) (omega arith) in
    let found = core-keeps calls_keep-sound _ _ (Resolve 1 c.in_ok-orders.orders) _ 1 new c.resolve.ensures in
    core-keeps calls_keep-sound _ _ (Resolve 2 c.in_ok-orders.orders) _ 1 found c.resolve-2.ensures

pub begin_wait-requires : goal.begin_wait-requires
begin_wait-requires g c =
    let new = c.in_ok-space.ensures.speaks 2 (omega arith) (omega arith) in
    let found = core-keeps calls_keep-sound _ _ (Resolve 1 c.in_ok-orders.orders) _ 2 new c.resolve.ensures in
    let pinned = core-keeps calls_keep-sound _ _ (Resolve 2 c.in_ok-orders.orders) _ 2 found c.resolve-2.ensures in
    core-keeps calls_keep-sound _ _ (Try_now 1 1 SR) _ 2 pinned c.try_now.ensures

pub release-requires : goal.release-requires
release-requires g c =
    let new = c.in_ok-space.ensures.speaks 1 (omega arith) (omega arith) in
    let found = core-keeps calls_keep-sound _ _ (Resolve 1 c.in_ok-orders.orders) _ 1 new c.resolve.ensures in
    let pinned = core-keeps calls_keep-sound _ _ (Resolve 2 c.in_ok-orders.orders) _ 1 found c.resolve-2.ensures in
    let read = core-keeps calls_keep-sound _ _ (Try_now 1 1 SR) _ 1 pinned c.try_now.ensures in
    core-keeps calls_keep-sound _ _ (Begin_wait 2 1 X) _ 1 read c.begin_wait.ensures

pub end_wait-requires : goal.end_wait-requires
end_wait-requires g c =
    let new = c.in_ok-space.ensures.speaks 2 (omega arith) (omega arith) in
    let found = core-keeps calls_keep-sound _ _ (Resolve 1 c.in_ok-orders.orders) _ 2 new c.resolve.ensures in
    let pinned = core-keeps calls_keep-sound _ _ (Resolve 2 c.in_ok-orders.orders) _ 2 found c.resolve-2.ensures in
    let read = core-keeps calls_keep-sound _ _ (Try_now 1 1 SR) _ 2 pinned c.try_now.ensures in
    let waits = core-keeps calls_keep-sound _ _ (Begin_wait 2 1 X) _ 2 read c.begin_wait.ensures in
    core-keeps calls_keep-sound _ _ (Release 1 1) _ 2 waits c.release.ensures

pub unpin-requires : goal.unpin-requires
unpin-requires g c =
    let new = c.in_ok-space.ensures.speaks 1 (omega arith) (omega arith) in
    let found = core-keeps calls_keep-sound _ _ (Resolve 1 c.in_ok-orders.orders) _ 1 new c.resolve.ensures in
    let pinned = core-keeps calls_keep-sound _ _ (Resolve 2 c.in_ok-orders.orders) _ 1 found c.resolve-2.ensures in
    let read = core-keeps calls_keep-sound _ _ (Try_now 1 1 SR) _ 1 pinned c.try_now.ensures in
    let waits = core-keeps calls_keep-sound _ _ (Begin_wait 2 1 X) _ 1 read c.begin_wait.ensures in
    let left = core-keeps calls_keep-sound _ _ (Release 1 1) _ 1 waits c.release.ensures in
    core-keeps calls_keep-sound _ _ (End_wait 2) _ 1 left c.end_wait.ensures

pub unpin-requires-2 : goal.unpin-requires-2
unpin-requires-2 g c =
    let new = c.in_ok-space.ensures.speaks 2 (omega arith) (omega arith) in
    let found = core-keeps calls_keep-sound _ _ (Resolve 1 c.in_ok-orders.orders) _ 2 new c.resolve.ensures in
    let pinned = core-keeps calls_keep-sound _ _ (Resolve 2 c.in_ok-orders.orders) _ 2 found c.resolve-2.ensures in
    let read = core-keeps calls_keep-sound _ _ (Try_now 1 1 SR) _ 2 pinned c.try_now.ensures in
    let waits = core-keeps calls_keep-sound _ _ (Begin_wait 2 1 X) _ 2 read c.begin_wait.ensures in
    let left = core-keeps calls_keep-sound _ _ (Release 1 1) _ 2 waits c.release.ensures in
    let gained = core-keeps calls_keep-sound _ _ (End_wait 2) _ 2 left c.end_wait.ensures in
    core-keeps calls_keep-sound _ _ (Unpin 1 1) _ 2 gained c.unpin.ensures
