-- Each of the four is a case of what raises or lowers both.
use Rattle.std.proofs.Common.{true, false}
use Rattle.mdl_word.proofs.WordLemmas.{raises, lowers}
use Rattle.mdl_word.proofs.laws.flags_are_raised_and_lowered.Goals as goal

pub returns : goal.returns
returns c = λ word a b third slow obtrusive e. (raises e true false, raises e false true, lowers e false true, lowers e true false)
