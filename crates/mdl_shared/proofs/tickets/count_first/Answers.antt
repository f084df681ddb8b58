-- The first ones are those before the first one at another place.
use Rattle.mdl_shared.proofs.Lemmas.{first-none, first-some, sym, ◌∙◌}
use Rattle.mdl_shared.proofs.tickets.count_first.Goals as goal

pub returns-in-Some-clause-these : goal.returns-in-Some-clause-these
returns-in-Some-clause-these c =
    (first-some c.args.place c.args.listed.now c.in-Some.other c.requires.rising c.requires.least (sym c.first_elsewhere.ensures ∙ c.in-Some.is)).0

pub returns-in-Some-clause-others : goal.returns-in-Some-clause-others
returns-in-Some-clause-others c =
    (first-some c.args.place c.args.listed.now c.in-Some.other c.requires.rising c.requires.least (sym c.first_elsewhere.ensures ∙ c.in-Some.is)).1

pub returns-in-None-clause-these : goal.returns-in-None-clause-these
returns-in-None-clause-these c = (first-none c.args.place c.args.listed.now (sym c.first_elsewhere.ensures ∙ c.in-None.is)).0

pub returns-in-None-clause-others : goal.returns-in-None-clause-others
returns-in-None-clause-others c = (first-none c.args.place c.args.listed.now (sym c.first_elsewhere.ensures ∙ c.in-None.is)).1
