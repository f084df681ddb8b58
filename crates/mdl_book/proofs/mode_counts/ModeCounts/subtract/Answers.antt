-- The bit of the mode is cleared where no ticket is left.
use Rattle.std.proofs.Common.{◌≡◌, ◌≢◌, ◌-◌, length, get_or, refl, arith}
use Rattle.mdl_key.specs.Modes.{mode_rank}
use Rattle.mdl_book.proofs.MarkLemmas.{marks_kept, marks_lowered}
use Rattle.mdl_book.proofs.mode_counts.ModeCounts.subtract.Goals as goal

pub returns-then-left-eq0-clause-marked : goal.returns-then-left-eq0-clause-marked
returns-then-left-eq0-clause-marked c =
    let counts = c.args.self.now.counts in
    let eleven : length counts ≡ 11 = omega arith in
    let none : get_or counts (mode_rank c.args.mode) 0 - 1 ≡ 0 = rw (c.place_of-place.ensures.value) at c.if-left-eq0.true in
    rw (c.place_of-place.ensures.value) (λ marks. marks_lowered c.args.self.now.present counts c.args.mode eleven marks _ refl c.requires none)

pub returns-else-left-eq0-clause-marked : goal.returns-else-left-eq0-clause-marked
returns-else-left-eq0-clause-marked c =
    let counts = c.args.self.now.counts in
    let eleven : length counts ≡ 11 = omega arith in
    let more : get_or counts (mode_rank c.args.mode) 0 - 1 ≢ 0 = rw (← c.place_of-place.ensures.value) (λ none. absurd (omega (arith, none))) in
    rw (c.place_of-place.ensures.value) (λ marks. marks_kept c.args.self.now.present counts c.args.mode eleven marks _ refl c.requires more)
