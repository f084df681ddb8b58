-- The test by a mask is the test by the bit, which in a lawful word is the flag.
use Rattle.std.proofs.Common.{◌∙◌}
use Rattle.mdl_word.proofs.WordLemmas.{flag_test, obtrusive_of}
use Rattle.mdl_word.proofs.word.Word.obtrusive.Goals as goal

pub returns-clause-any_number : goal.returns-clause-any_number
returns-clause-any_number c = flag_test c.args.self.0 61

pub returns-clause-lawful_word : goal.returns-clause-lawful_word
returns-clause-lawful_word c = λ a b third slow obtrusive e. flag_test c.args.self.0 61 ∙ obtrusive_of e
