-- The tickets that the session holds, by its own lists: no step.
use Rattle.mdl_shared.specs.StepSpec.{StepSpec, no_steps}

-- the call
abbrev pub list_held : StepSpec
list_held = no_steps
