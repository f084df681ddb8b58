-- The word was read, each session that is left out was tried, and waits were granted so far.
use Rattle.std.proofs.Common.{◌≡◌}
use Rattle.std.specs.FinSet as set
use Rattle.mdl_visits.proofs.Lemmas.{AreTried, GrantsWaits, Holds, LatchRecord, MayReschedule}
use Rattle.mdl_visits.proofs.Serving.{WasRead}
use Rattle.mdl_visits.proofs.grant_waiters.grant_waiters.Given as goal

abbrev pub invariant-loop-index : goal.invariant-loop-index
invariant-loop-index l = record {
  table : l.seat.table ≡ l.fn.seat.table;
  held : (h : LatchRecord) × Holds l.latch.place h h.book l.seat.me × MayReschedule l.word.0 h
      × AreTried l.fn.seat.table l.latch.place l.untried h l.fn.seat.me l.seat.me;
  read : WasRead l.latch.place l.word.0 l.fn.seat.me l.seat.me;
  way : GrantsWaits l.fn.seat.table l.latch.place l.fn.seat.me l.fn.seat.me l.seat.me;
}

abbrev pub decreases-loop-index : goal.decreases-loop-index
decreases-loop-index l = set.len l.untried
