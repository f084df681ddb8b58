-- The victim is a session.
use Rattle.std.proofs.Common.{◌≡◌, Some, sym, ◌∙◌}
use Rattle.mdl_core.specs.Words.{victim_at}
use Rattle.mdl_core.proofs.VictimLemmas.{victim-waits}
use Rattle.mdl_space.proofs.core_space.CoreSpace.search_deadlock.Goals as goal

pub settle-requires : goal.settle-requires
settle-requires c =
    let found : victim_at c.args.who c.args.self.now ≡ Some c.in-Ok-Some.victim = sym c.in-Ok-Some.ensures ∙ c.in-Ok-Some.field-0-is in
    (victim-waits c.args.self.now c.args.who c.in-Ok-Some.victim c.requires.1.tied found).1
