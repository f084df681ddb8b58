-- The schema test is created in an empty space.
use Rattle.std.proofs.Common.{ap, ◌∙◌}
use Rattle.std.specs.Prelude.{codes}
use Rattle.mdl_key.specs.Keys.{KeyName, schema_key}
use Rattle.mdl_calls.specs.Words.{outcome_of}
use Rattle.mdl_core.specs.Cores.{Core}
use Rattle.mdl_core.specs.CoreCalls.{outcome}
use Rattle.mdl_script.specs.Worlds.{creating}
use Rattle.mdl_script.proofs.first_space.first_space.Goals as goal

pub returns-clause-made : goal.returns-clause-made
returns-clause-made c =
    c.in_ok-create.ensures.made ∙ ap (λ (key : KeyName). (outcome_of outcome (creating key) c.in-Ok.space).1) c.in-Ok-schema.ensures.made
    ∙ ap (λ (core : Core). (outcome_of outcome (creating (schema_key (codes "test"))) core).1) c.in-Ok.ensures.made
