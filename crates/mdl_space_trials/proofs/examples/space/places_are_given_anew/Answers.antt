-- The space goes on to speak for the session.
use Rattle.std.proofs.Common.{arith}
use Rattle.mdl_key.specs.declared.mode.Mode.TheVariants.{X}
use Rattle.mdl_calls.specs.Words.{Resolve, Unpin, Try_now}
use Rattle.mdl_core.proofs.CallLaws.{core-keeps}
use Rattle.mdl_core.proofs.CoreSound.{calls_keep-sound}
use Rattle.mdl_space_trials.proofs.examples.space.places_are_given_anew.Goals as goal

pub resolve-requires : goal.resolve-requires
resolve-requires g c = c.in_ok-space.ensures.speaks 1 (omega arith) (omega arith)

pub resolve-requires-2 : goal.resolve-requires-2
resolve-requires-2 g c =
    let new = c.in_ok-space.ensures.speaks 1 (omega arith) (omega arith) in
    core-keeps calls_keep-sound _ _ (Resolve 1 c.in_ok-first.first) _ 1 new c.resolve.ensures

pub resolve-requires-3 : goal.resolve-requires-3
resolve-requires-3 g c =
    let new = c.in_ok-space.ensures.speaks 1 (omega arith) (omega arith) in
    let one = core-keeps calls_keep-sound _ _ (Resolve 1 c.in_ok-first.first) _ 1 new c.resolve.ensures in
    core-keeps calls_keep-sound _ _ (Resolve 1 c.in_ok-second.second) _ 1 one c.resolve-2.ensures

pub unpin-requires : goal.unpin-requires
unpin-requires g c =
    let new = c.in_ok-space.ensures.speaks 1 (omega arith) (omega arith) in
    let one = core-keeps calls_keep-sound _ _ (Resolve 1 c.in_ok-first.first) _ 1 new c.resolve.ensures in
    let two = core-keeps calls_keep-sound _ _ (Resolve 1 c.in_ok-second.second) _ 1 one c.resolve-2.ensures in
    core-keeps calls_keep-sound _ _ (Resolve 1 c.in_ok-third.third) _ 1 two c.resolve-3.ensures

pub resolve-requires-4 : goal.resolve-requires-4
resolve-requires-4 g c =
    let new = c.in_ok-space.ensures.speaks 1 (omega arith) (omega arith) in
    let one = core-keeps calls_keep-sound _ _ (Resolve 1 c.in_ok-first.first) _ 1 new c.resolve.ensures in
    let two = core-keeps calls_keep-sound _ _ (Resolve 1 c.in_ok-second.second) _ 1 one c.resolve-2.ensures in
    let full = core-keeps calls_keep-sound _ _ (Resolve 1 c.in_ok-third.third) _ 1 two c.resolve-3.ensures in
    core-keeps calls_keep-sound _ _ (Unpin 1 1) _ 1 full c.unpin.ensures

pub try_now-requires : goal.try_now-requires
try_now-requires g c =
    let new = c.in_ok-space.ensures.speaks 1 (omega arith) (omega arith) in
    let one = core-keeps calls_keep-sound _ _ (Resolve 1 c.in_ok-first.first) _ 1 new c.resolve.ensures in
    let two = core-keeps calls_keep-sound _ _ (Resolve 1 c.in_ok-second.second) _ 1 one c.resolve-2.ensures in
    let full = core-keeps calls_keep-sound _ _ (Resolve 1 c.in_ok-third.third) _ 1 two c.resolve-3.ensures in
    let left = core-keeps calls_keep-sound _ _ (Unpin 1 1) _ 1 full c.unpin.ensures in
    core-keeps calls_keep-sound _ _ (Resolve 1 c.in_ok-third.third) _ 1 left c.resolve-4.ensures

pub resolve-requires-5 : goal.resolve-requires-5
resolve-requires-5 g c =
    let new = c.in_ok-space.ensures.speaks 1 (omega arith) (omega arith) in
    let one = core-keeps calls_keep-sound _ _ (Resolve 1 c.in_ok-first.first) _ 1 new c.resolve.ensures in
    let two = core-keeps calls_keep-sound _ _ (Resolve 1 c.in_ok-second.second) _ 1 one c.resolve-2.ensures in
    let full = core-keeps calls_keep-sound _ _ (Resolve 1 c.in_ok-third.third) _ 1 two c.resolve-3.ensures in
    let left = core-keeps calls_keep-sound _ _ (Unpin 1 1) _ 1 full c.unpin.ensures in
    let given = core-keeps calls_keep-sound _ _ (Resolve 1 c.in_ok-third.third) _ 1 left c.resolve-4.ensures in
    core-keeps calls_keep-sound _ _ (Try_now 1 1 X) _ 1 given c.try_now.ensures
