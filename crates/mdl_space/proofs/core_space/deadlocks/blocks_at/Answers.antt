-- Where nobody waits, nobody is blocked.
use Rattle.std.proofs.Common.{◌≡◌, ◌∙◌, [], length, sym}
use Rattle.std.proofs.lemmas.Bool.{eqb-true}
use Rattle.std.proofs.lemmas.List.{nil_from_length}
use Rattle.mdl_space.proofs.DeadlockLemmas.{blocks-none}
use Rattle.mdl_space.proofs.core_space.deadlocks.blocks_at.Goals as goal

pub returns-then-is_empty : goal.returns-then-is_empty
returns-then-is_empty c =
    let none : c.args.book.now.waiting ≡ [] =
    sym c.waiting-waiting.ensures ∙ nil_from_length c.waiting-waiting.result.now (eqb-true (length c.waiting-waiting.result.now) 0 (sym c.is_empty.ensures ∙ c.if-is_empty.true)) in
    sym (blocks-none c.args.book.now c.args.who none)
