-- A pass that puts nobody in is the last one.
use Rattle.std.proofs.Common.{◌∙◌}
use Rattle.mdl_view.proofs.going_on.end_in_turn.Goals as goal

pub passes-preserved : goal.passes-preserved
passes-preserved c = record {
  grows = λ session is. c.in_ok-go_on.ensures.value.grows session (c.passes.invariant.grows session is);
  sound = λ other within closed session is.
      c.in_ok-go_on.ensures.value.sound other (c.passes.invariant.sound other within closed) closed session is;
  rest = c.go_on.ensures.rest ∙ c.passes.invariant.rest;
}
