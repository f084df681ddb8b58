-- The tickets with the numbers so far are slow.
use Rattle.std.proofs.Common.{◌≡◌, take, map}
use Rattle.mdl_shared.proofs.Lemmas.{slowed_as, vec_capacity}
use Rattle.mdl_shared.proofs.tickets.slow_down.Given as goal

abbrev pub invariant-loop-own : goal.invariant-loop-own
invariant-loop-own l = record {
  items : l.tickets.items ≡ map (slowed_as (take l.own-index l.these)) l.fn.tickets.items;
  capacity : vec_capacity l.tickets ≡ vec_capacity l.fn.tickets;
}
