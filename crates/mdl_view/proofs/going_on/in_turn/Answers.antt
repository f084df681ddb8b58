-- The waits of the sessions that end, other than the one that the act is about.
use Rattle.std.proofs.Common.{◌≡◌, ◌∙◌}
use Rattle.mdl_view.specs.Blockings.{waits_that}
use Rattle.mdl_view.specs.GoingOn.{EndAfter, Sessions, in_turn}
use Rattle.mdl_view.specs.Passes.{is_kept}
use Rattle.mdl_view.specs.SessionSets.{has}
use Rattle.std.proofs.Common.{true}
use Rattle.mdl_view.proofs.TurnLemmas.{if_ok-map, in_turn_by}
use Rattle.mdl_view.proofs.going_on.in_turn.Goals as goal

pub returns : goal.returns
returns c =
    let known = c.in_ok-helped.ensures.ended in
    if_ok-map (λ found. found.items ≡ waits_that (is_kept (has c.in_ok-helped.helped) true) 0 c.args.locks.now)
    (λ found. (ended : Sessions) × EndAfter c.args.act c.args.locks.now ended × (found.items ≡ in_turn c.args.act ended c.args.locks.now))
    c.kept_waits.result
    (λ found is. (known.0, known.1, is ∙ in_turn_by c.args.act known.0 (has c.in_ok-helped.helped) c.args.locks.now known.2))
    c.kept_waits.ensures
