-- To make the searches that are left from here is to make all from the start, and none of them changes what the session has.
use Rattle.std.proofs.Common.{◌≡◌, ℕ, ◌-◌}
use Rattle.mdl_key.specs.Keys.{KeyName}
use Rattle.mdl_calls.specs.Words.{Runs, SearchEnd, seeking, most_searches}
use Rattle.mdl_context.proofs.searches.seek.Given as goal

abbrev pub invariant-loop-turn : goal.invariant-loop-turn
invariant-loop-turn g l = record {
  speaks : g.S.LockSpace.speaks_for l.space l.who;
  remembers : (place : ℕ) (key : KeyName) → g.S.LockSpace.knows l.fn.space l.who place key → g.S.LockSpace.knows l.space l.who place key;
  own : g.S.LockSpace.own l.space l.who ≡ g.S.LockSpace.own l.fn.space l.who;
  run : (b : g.row.S.Denot) (end : SearchEnd) → Runs g.S.LockSpace.joins l.space (seeking (most_searches - l._turn) l.who) end b
      → Runs g.S.LockSpace.joins l.fn.space (seeking most_searches l.who) end b;
}
