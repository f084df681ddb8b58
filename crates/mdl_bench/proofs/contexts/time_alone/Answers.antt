-- A session that has nothing is served by a context that keeps nothing.
use Rattle.std.proofs.Common.{refl, arith}
use Rattle.std.proofs.lemmas.List.Elements.{All-nil}
use Rattle.mdl_bench.proofs.contexts.time_alone.Goals as goal

pub timed-lap-requires : goal.timed-lap-requires
timed-lap-requires g c =
    rw c.new-context.ensures (record {
      speaks = c.in-Ok.ensures.speaks 1 (omega arith) (omega arith);
      serves = rw c.in-Ok.ensures.made (record { held = refl; wait = refl });
      known = All-nil _;
      pinned = All-nil _;
      places = All-nil _;
      wish = tt;
    })
