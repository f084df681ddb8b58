-- Of any number by its bits, and of a lawful word by what it counts.
use Rattle.mdl_word.proofs.WordLemmas.{lowers, has_kept}
use Rattle.mdl_word.proofs.laws.flags_are_lowered_at_once.Goals as goal

pub returns : goal.returns
returns c = λ word slow obtrusive. (has_kept word slow obtrusive, λ a b third has_slow has_obtrusive e. lowers e slow obtrusive)
