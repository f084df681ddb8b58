-- Nobody was asked for anything.
use Rattle.mdl_script.proofs.FirstLemmas.{first-manned, first-of}
use Rattle.mdl_script.proofs.play.Play.new.Goals as goal

pub returns-clause-first : goal.returns-clause-first
returns-clause-first c = first-of c.in_ok-first_space.field-0 c.in_ok-new_players.field-0.items c.in_ok-first_space.ensures.made c.in_ok-new_players.ensures

pub returns-clause-manned : goal.returns-clause-manned
returns-clause-manned c =
    first-manned (record { space = c.in_ok-first_space.field-0; players = c.in_ok-new_players.field-0; waiting = c.new.result })
    c.in_ok-first_space.ensures.made c.in_ok-first_space.ensures.speaks c.in_ok-new_players.ensures c.new.ensures.items
