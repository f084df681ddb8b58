-- To release the rest from here is to release all from the start, and what is held now is what is left now.
use Rattle.std.proofs.Common.{◌≡◌, ℕ, length}
use Rattle.std.specs.Prelude.{map}
use Rattle.mdl_key.specs.Keys.{KeyName}
use Rattle.mdl_calls.specs.Runs.{Runs}
use Rattle.mdl_context.specs.Contexts.{held_of}
use Rattle.mdl_context.specs.Goings.{goes}
use Rattle.mdl_context.specs.Releases.{releasing_all}
use Rattle.mdl_context.proofs.ReleaseLemmas.{left, to_go}
use Rattle.mdl_context.proofs.releasing.release_rest.Given as goal

abbrev pub invariant-loop-at : goal.invariant-loop-at
invariant-loop-at g l = record {
  speaks : g.S.LockSpace.speaks_for l.space l.who;
  remembers : (place : ℕ) (key : KeyName) → g.S.LockSpace.knows l.fn.space l.who place key → g.S.LockSpace.knows l.space l.who place key;
  run : (b : g.row.S.Denot) → Runs g.S.LockSpace.joins l.space (releasing_all l.who (to_go (goes l.going) l.at l.tickets)) tt b
      → Runs g.S.LockSpace.joins l.fn.space (releasing_all l.who (to_go (goes l.going) (length l.tickets) l.tickets)) tt b;
  held : (g.S.LockSpace.own l.space l.who).held ≡ map held_of (left (goes l.going) l.at l.tickets);
  wait : (g.S.LockSpace.own l.space l.who).wait ≡ (g.S.LockSpace.own l.fn.space l.who).wait;
  pins : (g.S.LockSpace.own l.space l.who).pins ≡ (g.S.LockSpace.own l.fn.space l.who).pins;
}
