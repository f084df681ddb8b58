-- The pins are given up of the places that the context then forgets, if there are any.
use Rattle.std.proofs.Common.{sym, subst}
use Rattle.mdl_context.specs.declared.spare.Spare.{Spare}
use Rattle.mdl_context.specs.Contexts.{Attends}
use Rattle.mdl_context.specs.Holdings.{context_of}
use Rattle.mdl_context.specs.Spares.{AreMarked}
use Rattle.mdl_context.specs.Tidying.{LetsGo, is_needed, unneeded}
use Rattle.mdl_context.proofs.SpareLemmas.{none-spare, run-none}
use Rattle.mdl_context.proofs.TidyLemmas.{attends-tidied, lets-go, tidied-same}
use Rattle.mdl_context.proofs.context.Context.tidy.Goals as goal

-- ---- no place is marked

pub returns-in-Nowhere-clause-run : goal.returns-in-Nowhere-clause-run
returns-in-Nowhere-clause-run g c =
    let context = context_of c.self.inside.who c.self.inside.holdings in
    let are = subst (λ (spare : Spare). AreMarked spare (is_needed context) context.known) c.in-Nowhere.is (c.spare.ensures c.self.inside.who) in
    rw (← c.self.view_is) (run-none g.S.LockSpace.joins c.args.space.now context.who (unneeded context) (none-spare (is_needed context) context.known are))

pub returns-in-Nowhere-clause-tidied : goal.returns-in-Nowhere-clause-tidied
returns-in-Nowhere-clause-tidied g c =
    let context = context_of c.self.inside.who c.self.inside.holdings in
    let are = subst (λ (spare : Spare). AreMarked spare (is_needed context) context.known) c.in-Nowhere.is (c.spare.ensures c.self.inside.who) in
    rw (← c.self.view_is) (sym (tidied-same context (none-spare (is_needed context) context.known are)))

-- ---- one is

pub tidy_at-requires-clause-others : goal.tidy_at-requires-clause-others
tidy_at-requires-clause-others g c =
    let context = context_of c.self.inside.who c.self.inside.holdings in
    rw (← c.self.view_is)
    (subst (λ (spare : Spare). AreMarked spare (is_needed context) context.known) c.in-At.is (c.spare.ensures c.self.inside.who))

pub returns-in-At-clause-attends : goal.returns-in-At-clause-attends
returns-in-At-clause-attends g c =
    subst (Attends g.S.LockSpace c.tidy_at.new.space) (sym c.tidy_at.ensures.tidied)
    (attends-tidied g.S.LockSpace g.met.S.LockSpace.laws c.args.space.now c.tidy_at.new.space c.args.self.now c.requires c.tidy_at.ensures.run)

pub returns-in-At-clause-let_go : goal.returns-in-At-clause-let_go
returns-in-At-clause-let_go g c =
    subst (LetsGo g.S.LockSpace c.args.space.now c.args.self.now c.tidy_at.new.space) (sym c.tidy_at.ensures.tidied)
    (lets-go g.S.LockSpace g.met.S.LockSpace.laws c.args.space.now c.tidy_at.new.space c.args.self.now c.requires c.tidy_at.ensures.run)

-- ---- all are

pub returns-in-Anywhere-clause-attends : goal.returns-in-Anywhere-clause-attends
returns-in-Anywhere-clause-attends g c =
    subst (Attends g.S.LockSpace c.tidy_all.new.space) (sym c.tidy_all.ensures.tidied)
    (attends-tidied g.S.LockSpace g.met.S.LockSpace.laws c.args.space.now c.tidy_all.new.space c.args.self.now c.requires c.tidy_all.ensures.run)

pub returns-in-Anywhere-clause-let_go : goal.returns-in-Anywhere-clause-let_go
returns-in-Anywhere-clause-let_go g c =
    subst (LetsGo g.S.LockSpace c.args.space.now c.args.self.now c.tidy_all.new.space) (sym c.tidy_all.ensures.tidied)
    (lets-go g.S.LockSpace g.met.S.LockSpace.laws c.args.space.now c.tidy_all.new.space c.args.self.now c.requires c.tidy_all.ensures.run)
