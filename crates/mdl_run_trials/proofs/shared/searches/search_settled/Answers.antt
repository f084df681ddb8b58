-- The search made at most the read of the wait's word.
use Rattle.mdl_run_trials.proofs.shared.SettledSearches.{settled-search}
use Rattle.mdl_run_trials.proofs.shared.searches.search_settled.Goals as goal

pub returns : goal.returns
returns g c =
    let h = settled-search c.args.session.now c.search_deadlock.new.self c.search_deadlock.result c.requires.settled c.search_deadlock.ensures.shown in
    record { none = h.0; steps = h.1 }
