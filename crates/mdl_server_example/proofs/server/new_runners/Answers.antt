-- One more comes each turn.
use Rattle.std.proofs.Common.{ap, ◌∙◌, ◌++◌, ◌∷◌, []}
use Rattle.mdl_server_example.proofs.ServerLemmas.{new-more}
use Rattle.mdl_server_example.proofs.server.new_runners.Goals as goal

pub loop-index-preserved : goal.loop-index-preserved
loop-index-preserved c =
    c.in_ok-push.ensures.items ∙ ap (λ runner. c.loop-index.runners.items ++ runner ∷ []) c.in_ok-new.ensures.made ∙ new-more c.loop-index.runners.items c.loop-index.index c.loop-index.invariant
