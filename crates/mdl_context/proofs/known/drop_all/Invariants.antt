-- The known keys so far have no place any more.
use Rattle.std.proofs.Common.{◌≡◌, false}
use Rattle.indexmap.specs.IndexMap.{keys}
use Rattle.mdl_context.proofs.KnownLemmas.{AreDropped}
use Rattle.mdl_context.proofs.known.drop_all.Given as goal

abbrev pub invariant-loop-gone : goal.invariant-loop-gone
invariant-loop-gone l = record {
  same : keys l.met ≡ keys l.fn.met;
  places : AreDropped (λ _. false) (keys l.fn.met) l.order l.fn.met.entries l.gone-index l.met.entries;
}
