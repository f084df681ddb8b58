use Rattle.std.proofs.Common.{sym, ◌∙◌, arith}
use Rattle.std.proofs.lemmas.Bool.Decides.{nat_tests}
use Rattle.std.proofs.lemmas.Grind.{common_steps}
use Rattle.mdl_syntax.proofs.WordLemmas.{words_of-cut, words_of-uncut}
use Rattle.mdl_syntax.proofs.words.split_word.Goals as goal

pub returns-then-not-is_empty-clause-word : goal.returns-then-not-is_empty-clause-word
returns-then-not-is_empty-clause-word c =
    let cut = words_of-cut c.loop-end.left.now c.in-Some.end (sym c.in-Some.is ∙ c.first_blank.ensures) in
    grind (arith, nat_tests, common_steps)

pub returns-clause-word : goal.returns-clause-word
returns-clause-word c =
    let uncut = words_of-uncut c.loop-end.left.now (sym c.in_default.is ∙ c.first_blank.ensures) in
    grind (arith, nat_tests, common_steps)
