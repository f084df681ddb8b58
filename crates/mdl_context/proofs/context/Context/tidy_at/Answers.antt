-- Where the place is needed, all known places are. Otherwise it alone isn't.
use Rattle.std.proofs.Common.{◌≡◌, ◌∙◌, sym, true}
use Rattle.mdl_context.specs.declared.spare.Spare.TheVariants.{At}
use Rattle.mdl_context.specs.Holdings.{context_of}
use Rattle.mdl_context.specs.Spares.{AreMarked}
use Rattle.mdl_context.specs.Tidying.{is_needed, unneeded}
use Rattle.mdl_context.proofs.SpareLemmas.{none-here, run-none}
use Rattle.mdl_context.proofs.TidyLemmas.{tidied-same}
use Rattle.mdl_context.proofs.context.Context.tidy_at.Goals as goal

pub returns-then-is_needed-clause-run : goal.returns-then-is_needed-clause-run
returns-then-is_needed-clause-run g c =
    let context = context_of c.self.inside.who c.self.inside.holdings in
    let needed : is_needed context c.args.place ≡ true = sym (c.is_needed.ensures context.who) ∙ c.if-is_needed.true in
    let others : AreMarked (At c.args.place) (is_needed context) context.known = rw (← c.self.view_is) at c.requires.others in
    rw (← c.self.view_is)
    (run-none g.S.LockSpace.joins c.args.space.now context.who (unneeded context) (none-here (is_needed context) c.args.place needed context.known others))

pub returns-then-is_needed-clause-tidied : goal.returns-then-is_needed-clause-tidied
returns-then-is_needed-clause-tidied g c =
    let context = context_of c.self.inside.who c.self.inside.holdings in
    let needed : is_needed context c.args.place ≡ true = sym (c.is_needed.ensures context.who) ∙ c.if-is_needed.true in
    let others : AreMarked (At c.args.place) (is_needed context) context.known = rw (← c.self.view_is) at c.requires.others in
    rw (← c.self.view_is) (sym (tidied-same context (none-here (is_needed context) c.args.place needed context.known others)))

pub forget_spare-requires-clause-spare : goal.forget_spare-requires-clause-spare
forget_spare-requires-clause-spare g c = λ who. sym (c.is_needed.ensures who) ∙ c.if-is_needed.false
