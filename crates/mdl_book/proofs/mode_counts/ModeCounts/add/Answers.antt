-- The bit of the mode is set.
use Rattle.std.proofs.Common.{◌≡◌, length, arith}
use Rattle.mdl_book.proofs.MarkLemmas.{marks_raised}
use Rattle.mdl_book.proofs.mode_counts.ModeCounts.add.Goals as goal

pub returns-clause-marked : goal.returns-clause-marked
returns-clause-marked c =
    let eleven : length c.args.self.now.counts ≡ 11 = omega arith in
    rw (c.place_of-place.ensures.value) (λ marks. marks_raised c.args.self.now.present c.args.self.now.counts c.args.mode eleven marks)
