-- By its lemmas.
use Rattle.mdl_context.proofs.WishLemmas.{gains_acquiring, gains_trying}
use Rattle.mdl_context.proofs.wish_laws.explicit_wishes_gain.Goals as goal

pub returns : goal.returns
returns c = λ request context explicit. (gains_acquiring request context explicit, gains_trying request context explicit)
