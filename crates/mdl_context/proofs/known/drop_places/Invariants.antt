-- Of the known keys so far, those at places that aren't needed have none any more.
use Rattle.std.proofs.Common.{◌≡◌}
use Rattle.indexmap.specs.IndexMap.{keys}
use Rattle.mdl_context.specs.Holdings.{needs_place}
use Rattle.mdl_context.proofs.KnownLemmas.{AreDropped}
use Rattle.mdl_context.proofs.known.drop_places.Given as goal

abbrev pub invariant-loop-known : goal.invariant-loop-known
invariant-loop-known l = record {
  same : keys l.met ≡ keys l.fn.met;
  places : AreDropped (needs_place l.by_place l.wait) (keys l.fn.met) l.order l.fn.met.entries l.known-index l.met.entries;
}
