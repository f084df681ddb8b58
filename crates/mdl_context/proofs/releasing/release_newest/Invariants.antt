-- To release the rest from here is to release all from the start, and those that stay are the same.
use Rattle.std.proofs.Common.{◌≡◌, ℕ, length}
use Rattle.std.specs.Prelude.{filter, map, not}
use Rattle.mdl_key.specs.Keys.{KeyName}
use Rattle.mdl_calls.specs.Runs.{Runs}
use Rattle.mdl_context.specs.Contexts.{held_of, newest_first}
use Rattle.mdl_context.specs.Goings.{goes}
use Rattle.mdl_context.specs.Releases.{releasing_all}
use Rattle.mdl_context.proofs.releasing.release_newest.Given as goal

abbrev pub invariant-loop-at : goal.invariant-loop-at
invariant-loop-at g l = record {
  speaks : g.S.LockSpace.speaks_for l.space l.who;
  remembers : (place : ℕ) (key : KeyName) → g.S.LockSpace.knows l.fn.space l.who place key → g.S.LockSpace.knows l.space l.who place key;
  many : length l.holdings.kept ≡ l.at;
  run : (b : g.row.S.Denot) → Runs g.S.LockSpace.joins l.space (releasing_all l.who (newest_first (filter (goes l.going) l.holdings.kept))) tt b
      → Runs g.S.LockSpace.joins l.fn.space (releasing_all l.who (newest_first (filter (goes l.going) l.fn.holdings.kept))) tt b;
  kept : filter (λ ticket. not (goes l.going ticket)) l.holdings.kept ≡ filter (λ ticket. not (goes l.going ticket)) l.fn.holdings.kept;
  held : (g.S.LockSpace.own l.space l.who).held ≡ map held_of l.holdings.kept;
  known : l.holdings.known ≡ l.fn.holdings.known;
  waits : l.holdings.wait ≡ l.fn.holdings.wait;
  wait : (g.S.LockSpace.own l.space l.who).wait ≡ (g.S.LockSpace.own l.fn.space l.who).wait;
  pins : (g.S.LockSpace.own l.space l.who).pins ≡ (g.S.LockSpace.own l.fn.space l.who).pins;
}
