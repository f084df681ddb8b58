-- One more comes each turn.
use Rattle.std.proofs.Common.{lit≤, ap, ◌∙◌, ◌++◌, ◌∷◌, []}
use Rattle.mdl_script.proofs.FirstLemmas.{new-more, new-all}
use Rattle.mdl_script.proofs.play.new_players.Goals as goal

pub loop-who-preserved : goal.loop-who-preserved
loop-who-preserved c = c.in_ok-push.ensures.items ∙ ap (λ x. c.loop-who.players.items ++ record { runner = x; line = 0 } ∷ []) c.in_ok-new.ensures.made ∙ new-more c.loop-who.players.items c.loop-who.who c.loop-who.auto.who c.loop-who.invariant

pub returns : goal.returns
returns c = new-all c.loop-who.players.items c.loop-who.who c.loop-who-test.false (c.loop-who.auto.who-end (lit≤ tt)) c.loop-who.invariant
