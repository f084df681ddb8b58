-- The wait is settled, and all have what they had.
use Rattle.mdl_calls.specs.Words.{timed_out}
use Rattle.mdl_script.proofs.SettleLemmas.{play-speaks, timed-out}
use Rattle.mdl_script.proofs.play.Play.time_out.Goals as goal

pub settle_timeout-settled-requires : goal.settle_timeout-settled-requires
settle_timeout-settled-requires c = play-speaks c.args.self.now c.requires.manned c.args.who c.requires.session

pub returns-clause-manned : goal.returns-clause-manned
returns-clause-manned c = timed-out c.args.self.now c.args.who (timed_out c.settle_timeout-settled.result) c.settle_timeout-settled.new.self c.requires.manned c.settle_timeout-settled.ensures
