-- Of any number by its bits, and of a lawful word by what it counts.
use Rattle.mdl_word.proofs.WordLemmas.{raises, has_raised}
use Rattle.mdl_word.proofs.laws.flags_are_raised_at_once.Goals as goal

pub returns : goal.returns
returns c = λ word slow obtrusive. (has_raised word slow obtrusive, λ a b third has_slow has_obtrusive e. raises e slow obtrusive)
