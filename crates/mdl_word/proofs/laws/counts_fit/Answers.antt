-- A sum is at most the number of its terms times the greatest.
use Rattle.std.proofs.Common.{◌*◌, ◌≤◌, length, arith}
use Rattle.std.specs.List.{sum}
use Rattle.std.proofs.lemmas.List.Sums.{sum_by-le}
use Rattle.mdl_word.proofs.laws.counts_fit.Goals as goal

pub returns : goal.returns
returns c = λ tickets each few. let total : sum tickets ≤ length tickets * 1023 = sum_by-le (λ n. n) 1023 tickets each in omega arith
