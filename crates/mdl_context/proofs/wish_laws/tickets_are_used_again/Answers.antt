-- By its lemmas.
use Rattle.mdl_context.proofs.WishLemmas.{used_again, tried_used_again}
use Rattle.mdl_context.proofs.wish_laws.tickets_are_used_again.Goals as goal

pub returns : goal.returns
returns c = λ request context place ticket idle known found.
    (used_again request context place ticket idle known found, tried_used_again request context place ticket idle known found)
