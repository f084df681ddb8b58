-- What is left to be done leads to the same end.
use Rattle.std.proofs.Common.{◌≡◌, ◌-◌, true}
use Rattle.mdl_core.specs.Words.{has_key, admitting_up_to, serving}
use Rattle.mdl_space.specs.SettledWaits.{TellsUnsettled}
use Rattle.mdl_space.proofs.core_space.CoreSpace.serve.Given as goal

abbrev pub invariant-loop-turn : goal.invariant-loop-turn
invariant-loop-turn l = record {
  rest : admitting_up_to (l.waiting - l._turn) l.place l.self ≡ serving l.place l.fn.self;
  key : has_key l.place l.self ≡ true;
  told : TellsUnsettled l.unsettled l.place l.self;
}
