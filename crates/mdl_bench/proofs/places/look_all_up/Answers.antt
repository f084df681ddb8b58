-- Each place stays known as the later keys are looked up.
use Rattle.mdl_bench.proofs.places.look_all_up.Goals as goal

pub returns-clause-global : goal.returns-clause-global
returns-clause-global g c =
    c.look_table_up-3.ensures.kept _ (c.look_table_up-2.ensures.kept _ (c.look_table_up.ensures.kept _ c.in_ok-global.ensures.known))

pub returns-clause-first : goal.returns-clause-first
returns-clause-first g c = c.look_table_up-3.ensures.kept _ (c.look_table_up-2.ensures.kept _ c.in_ok-first.ensures.known)

pub returns-clause-second : goal.returns-clause-second
returns-clause-second g c = c.look_table_up-3.ensures.kept _ c.in_ok-second.ensures.known
