-- The index has the new number too, so the place is still needed.
use Rattle.std.proofs.Common.{◌≡◌, ◌∙◌, rules, [], ◌∷◌, ◌++◌, None, Option, Some, subst, sym}
use Rattle.mdl_context.specs.declared.kept.Kept.{Kept}
use Rattle.mdl_context.specs.declared.kept.Wanted.{Wanted}
use Rattle.mdl_context.specs.Holdings.{needs_place}
use Rattle.mdl_context.specs.Spares.{AreMarked}
use Rattle.mdl_context.proofs.PlaceLemmas.{index-more}
use Rattle.mdl_context.proofs.SpareLemmas.{marked-more}
use Rattle.mdl_context.proofs.holdings.Holdings.take_up.Goals as goal

pub invariant_of-self : goal.invariant_of-self
invariant_of-self c =
    let wanted = c.in-Some.wanted in
    let ticket : Kept = record { id = c.args.id; place = wanted.place; mode = wanted.mode; duration = wanted.duration } in
    let items : c.push-in-Some.new.self.items ≡ c.self.inside.tickets.items ++ ticket ∷ [] = search rules in
    let waits : c.self.inside.wait ≡ Some wanted = search rules in
    let gone : c.take.new.self ≡ None = search rules in
    let are = subst (λ (wait : Option Wanted). AreMarked c.self.inside.spare (needs_place c.self.inside.by_place wait) c.self.inside.known) waits c.self.invariant.2 in (
      rw items (index-more c.self.inside.tickets.items ticket _ _ c.self.invariant.0 c.push.ensures),
      search rules,
      subst (λ (wait : Option Wanted). AreMarked c.self.inside.spare (needs_place c.push.new.self wait) c.self.inside.known) (sym gone)
          (marked-more c.self.inside.known c.self.inside.by_place c.push.new.self wanted.place c.args.id (Some wanted) None c.self.inside.spare c.self.inside.spare c.push.ensures
          (λ q apart is. sym apart ∙ is) (λ q apart is. is) are),
    )
