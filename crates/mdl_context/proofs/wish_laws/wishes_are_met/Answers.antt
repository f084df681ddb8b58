-- By its lemmas.
use Rattle.mdl_context.proofs.WishLemmas.{met_acquiring, met_trying}
use Rattle.mdl_context.proofs.wish_laws.wishes_are_met.Goals as goal

pub returns : goal.returns
returns c = λ request context. (met_acquiring request context, met_trying request context)
