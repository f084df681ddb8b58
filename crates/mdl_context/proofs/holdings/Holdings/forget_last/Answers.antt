-- What is known was known before, and was needed or marked.
use Rattle.mdl_context.specs.Holdings.{needs_place}
use Rattle.mdl_context.proofs.SpareLemmas.{marked-front}
use Rattle.mdl_context.proofs.holdings.Holdings.forget_last.Goals as goal

pub invariant_of-self : goal.invariant_of-self
invariant_of-self c = (
  c.self.invariant.0,
  c.self.invariant.1,
  marked-front c.self.inside.known c.forget_last.new.self (needs_place c.self.inside.by_place c.self.inside.wait) c.self.inside.spare c.forget_last.ensures.last
      c.forget_last.ensures.none c.self.invariant.2,
)
