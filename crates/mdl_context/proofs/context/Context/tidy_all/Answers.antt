-- If no place was found, each known place is needed.
use Rattle.std.proofs.Common.{◌∙◌, sym}
use Rattle.mdl_context.specs.Holdings.{context_of}
use Rattle.mdl_context.proofs.BeyondLemmas.{same-context}
use Rattle.mdl_context.proofs.TidyLemmas.{tidied-same}
use Rattle.mdl_context.proofs.context.Context.tidy_all.Goals as goal

pub returns-else-unpin_unneeded-clause-tidied : goal.returns-else-unpin_unneeded-clause-tidied
returns-else-unpin_unneeded-clause-tidied g c =
    rw (← c.self.view_is)
    (same-context c.self.inside.who _ _ _ _ _ _ c.note_tidy.ensures.kept c.note_tidy.ensures.known c.note_tidy.ensures.wait
    ∙ sym (tidied-same (context_of c.self.inside.who c.self.inside.holdings) (c.unpin_unneeded.ensures.none c.if-unpin_unneeded.false)))
