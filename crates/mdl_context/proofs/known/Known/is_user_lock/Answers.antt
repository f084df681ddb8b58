-- Each known place is looked at, in order.
use Rattle.std.proofs.Common.{rules, tests, ◌∙◌}
use Rattle.std.proofs.lemmas.Iterator.{YieldsList-from_slice}
use Rattle.std.proofs.lemmas.Iterator.Search.{any_from_yields_List}
use Rattle.indexmap.specs.IndexMap.{keys}
use Rattle.mdl_context.proofs.KnownLemmas.{is_user_at, user-listed}
use Rattle.mdl_context.proofs.known.Known.is_user_lock.Goals as goal

pub returns : goal.returns
returns c =
    rw (← c.self.view_is)
    (any_from_yields_List (is_user_at (keys c.self.inside.met) c.args.place) _ _ c.any.result c.any.ensures.ran
    (YieldsList-from_slice c.self.inside.order.items (c.iter.ensures.rest ∙ c.deref.ensures.value)) (λ x b q k. search (rules, tests))
    ∙ user-listed (keys c.self.inside.met) c.args.place c.self.inside.order.items c.self.invariant.indexes)
