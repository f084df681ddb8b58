-- The place of the wait is needed.
use Rattle.std.proofs.Common.{◌≡◌, ◌∙◌, None, Option, rules, subst, true}
use Rattle.mdl_context.specs.declared.kept.Wanted.{Wanted}
use Rattle.mdl_context.specs.Holdings.{has_room, needs_place}
use Rattle.mdl_context.specs.Spares.{AreMarked}
use Rattle.mdl_context.proofs.SpareLemmas.{marked-waiting}
use Rattle.mdl_context.proofs.holdings.Holdings.begin_wait.Goals as goal

pub invariant_of-self : goal.invariant_of-self
invariant_of-self c =
    let room : has_room c.args.wanted.place c.drop_wait.new.self ≡ true = c.drop_wait.ensures.room c.args.wanted.place ∙ c.requires in
    let none : c.self.inside.wait ≡ None = search rules in
    let are = subst (λ (wait : Option Wanted). AreMarked c.self.inside.spare (needs_place c.self.inside.by_place wait) c.self.inside.known) none c.self.invariant.2 in (
      c.self.invariant.0,
      search (rules, room),
      marked-waiting c.self.inside.known c.self.inside.by_place c.args.wanted c.self.inside.spare c.unmark.new.self c.unmark.ensures are,
    )
