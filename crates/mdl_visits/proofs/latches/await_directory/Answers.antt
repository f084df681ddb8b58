-- The steps of the loop take no latch.
use Rattle.mdl_visits.proofs.Lemmas.{Mine, ap, length, lingers_one, mine, table_of, ◌∙◌}
use Rattle.mdl_visits.proofs.latches.await_directory.Goals as goal

pub take_directory-requires : goal.take_directory-requires
take_directory-requires g c = record { first = ap (λ (m : Mine). length m.0.latches) c.loop.invariant.met.1 ∙ c.requires.first }

pub loop-preserved : goal.loop-preserved
loop-preserved g c =
    let met = c.in_default.ensures.taken in
    let inv = c.loop.invariant in
    record {
      next = tt;
      finite = tt;
      table = table_of met.2 ∙ inv.table;
      met = lingers_one 0 met.0 c.args.seat.now.me c.loop.seat.me c.take_directory.new.self.me inv.met (mine met.2);
    }
