-- The index has the new number too, so its place is needed.
use Rattle.std.proofs.Common.{◌≡◌, rules, [], ◌∷◌, ◌++◌}
use Rattle.mdl_context.proofs.PlaceLemmas.{index-more}
use Rattle.mdl_context.proofs.SpareLemmas.{marked-more}
use Rattle.mdl_context.proofs.holdings.Holdings.keep.Goals as goal

pub invariant_of-self : goal.invariant_of-self
invariant_of-self c =
    let items : c.push_reserved.new.self.items ≡ c.self.inside.tickets.items ++ c.args.ticket ∷ [] = c.push_reserved.ensures.items in (
      rw items (index-more c.self.inside.tickets.items c.args.ticket _ _ c.self.invariant.0 c.push.ensures),
      search rules,
      marked-more c.self.inside.known c.self.inside.by_place c.push.new.self c.args.ticket.place c.args.ticket.id c.self.inside.wait c.self.inside.wait c.self.inside.spare
          c.unmark.new.self c.push.ensures (λ q apart is. is) c.unmark.ensures c.self.invariant.2,
    )
