-- Some places' fast tickets are slow ones so far.
use Rattle.std.proofs.Common.{◌≡◌, ℕ, List, None, [], length}
use Rattle.mdl_shared.proofs.Lemmas.{AreByPlace, AreSameOrSlow, AreSlowBefore, DoesQuietly, KeepsRoom, SlowsInTurn, view_of}
use Rattle.mdl_shared.proofs.member.Member.materialise_all.Given as goal

abbrev pub invariant-loop-place : goal.invariant-loop-place
invariant-loop-place g l = record {
  idle : l.self.asks ≡ None;
  by_place : AreByPlace l.self.tickets.fast l.rest;
  done : DoesQuietly 0 [] (view_of l.fn.self) (view_of l.self);
  slow : AreSameOrSlow (view_of l.fn.self) (view_of l.self);
  order : AreSlowBefore (view_of l.fn.self) (view_of l.self);
  turn : (places : List ℕ) × SlowsInTurn places l.fn.self.seat.me.0.fast l.self.seat.me.0.fast l.fn.self.seat.me l.self.seat.me;
  room : KeepsRoom 0 l.fn.self.tickets.room l.self.tickets.room;
}

abbrev pub decreases-loop-place : goal.decreases-loop-place
decreases-loop-place g l = length l.self.tickets.fast
