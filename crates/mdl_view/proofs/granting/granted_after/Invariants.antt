-- What was granted and what is granted of the rest make up the whole, and the sample is one of all that is granted.
use Rattle.std.proofs.Common.{◌≡◌, ◌++◌, drop}
use Rattle.mdl_view.specs.Blockings.{is_blocked}
use Rattle.mdl_view.specs.Samples.{IsSample}
use Rattle.mdl_view.proofs.PassLemmas.{passing}
use Rattle.mdl_view.proofs.granting.granted_after.Given as goal

abbrev pub invariant-loop-ask : goal.invariant-loop-ask
invariant-loop-ask l =
    let lock = l.after in
    record {
      sample : IsSample l.granted.items (lock.granted ++ l.got.items);
      rest : l.got.items ++ passing lock (is_blocked l.before) lock.waiting (lock.granted ++ l.got.items) (drop l.ask-index lock.waiting)
          ≡ passing lock (is_blocked l.before) lock.waiting lock.granted lock.waiting;
    }
