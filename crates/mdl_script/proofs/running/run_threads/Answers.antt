-- A new space has a pass for each session.
use Rattle.mdl_shared.specs.Passes.{manager_table}
use Rattle.mdl_script.proofs.PassLemmas.{all-there}
use Rattle.mdl_script.proofs.running.run_threads.Goals as goal

pub run_on-requires-clause-there : goal.run_on-requires-clause-there
run_on-requires-clause-there g c κs within =
    all-there _ _ _ c.in-Ok.ensures.made.3 c.in-Ok.ensures.made.2

pub returns : goal.returns
returns g c =
    let made = c.in-Ok.ensures.made in record {
      table = manager_table c.in-Ok.manager;
      slots = made.0;
      words = made.1;
      given = c.in-Ok.passes.items;
      all = made.2;
      new = made.3;
      back = c.in_ok-ran.ran.passes.items;
      run = c.in_ok-ran.ensures.ran;
    }
