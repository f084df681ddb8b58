-- The key at the hint is compared, or the key is found by its hash.
use Rattle.std.proofs.Common.{◌≡◌, ◌∙◌, None, Option, Some, ℕ, refl, slice_get, sym}
use Rattle.std.specs.Prelude.{IfSome}
use Rattle.indexmap.specs.IndexMap.{keys}
use Rattle.mdl_context.proofs.KnownLemmas.{key-found}
use Rattle.mdl_context.proofs.known.index_met.Goals as goal

pub returns-clause-found : goal.returns-clause-found
returns-clause-found c = by c.get_index_of.result refl where
  by : (found : Option ℕ) → c.get_index_of.result ≡ found → IfSome found (λ index. slice_get (keys c.args.met.now) index ≡ Some c.args.key.now)
  by None none = tt
  by (Some index) is = key-found (keys c.args.met.now) c.args.key.now index (sym c.get_index_of.ensures.index ∙ is)
