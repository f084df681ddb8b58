-- Whoever has timed out knows how its wait is settled.
use Rattle.mdl_run_trials.proofs.shared.SettledSearches.{timeout-told}
use Rattle.mdl_run_trials.proofs.shared.searches.times_out.Goals as goal

pub search_settled-requires : goal.search_settled-requires
search_settled-requires g c = record { settled = timeout-told c.args.session.now c.settle_timeout.new.self c.in-Ok._how c.in-Ok.ensures.joined }
