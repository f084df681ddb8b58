-- How a plan goes on after a wait: by the step that waited, which is made again with the ticket that was granted.
use Rattle.std.specs.Prelude.{◌≡◌, ℕ, Bool, List, drop, Option}
use Rattle.mdl_defs.specs.declared.versioned_definition.VersionedDefinition.{VersionedDefinition}
use Rattle.mdl_key.specs.Keys.{KeyName}
use Rattle.mdl_context.specs.declared.request.Mark.{Mark}
use Rattle.mdl_syntax.specs.declared.statement.Statement.{Statement}
use Rattle.mdl_rows.specs.declared.reply.Reply.{Reply}
use Rattle.mdl_rows.specs.Rows.{Row}
use Rattle.mdl_rows.specs.Rows as row
use Rattle.mdl_rows.specs.States.{State}
use Rattle.mdl_plans.specs.declared.step.Step.{Step}
use Rattle.mdl_plans.specs.Plans.{plan_of}
use Rattle.mdl_plans.specs.Registers.{Registers, fresh, granting}
use Rattle.mdl_plans.specs.Seen.{seen}
use Rattle.mdl_plans.specs.Steps.{meaning}

module _ (at : Statement) (plan : List Step) where
  -- what is left of a row once a lock is granted is what the plan does from one of its steps on, with some registers and with the ticket, in a
  -- session of this state
  abbrev pub IsMadeAgain : State → (ℕ → Row Reply) → Type 0
  IsMadeAgain state rest = (n : ℕ) × ((r : Registers) × ((ticket : ℕ) → seen state (rest ticket) ≡ seen state (meaning at (drop n plan) (granting ticket r))))

  -- so it is wherever a row may wait, whatever is answered before
  abbrev pub GoesOn : State → Row Reply → Type 0
  GoesOn state (row.Give reply) = Unit {0}
  GoesOn state (row.Fail number) = Unit {0}
  GoesOn state (row.Room rest) = GoesOn state rest
  GoesOn state (row.Look rest) = GoesOn state (rest state)
  GoesOn state (row.Set change rest) = GoesOn (change state) rest
  GoesOn state (row.Here rest) = (mark : Mark) → GoesOn state (rest mark)
  GoesOn state (row.Acquire request rest) = IsMadeAgain state rest × ((ticket : ℕ) → GoesOn state (rest ticket))
  GoesOn state (row.Try_acquire request rest) = (got : Option ℕ) → GoesOn state (rest got)
  GoesOn state (row.Last key rest) = (held : Option ℕ) → GoesOn state (rest held)
  GoesOn state (row.Upgrade id key mode rest) = IsMadeAgain state rest × ((ticket : ℕ) → GoesOn state (rest ticket))
  GoesOn state (row.Downgrade id mode rest) = GoesOn state rest
  GoesOn state (row.Give_up which rest) = GoesOn state rest
  GoesOn state (row.Release id rest) = GoesOn state rest
  GoesOn state (row.Keep rest) = GoesOn state rest
  GoesOn state (row.Read id rest) = (standing : VersionedDefinition) → GoesOn state (rest standing)
  GoesOn state (row.Redefine id change rest) = GoesOn state rest
  GoesOn state (row.Tables_of schema rest) = (places : List ℕ) → GoesOn state (rest places)
  GoesOn state (row.Key_of place rest) = (key : KeyName) → GoesOn state (rest key)
  GoesOn state (row.Kill target rest) = GoesOn state rest

-- each plan goes on so, in a session of any state
abbrev pub PlansGoOn : Type 0
PlansGoOn = (at : Statement) (has_locked has_read_lock : Bool) (state : State) →
    GoesOn at (plan_of has_locked has_read_lock at) state (meaning at (plan_of has_locked has_read_lock at) fresh)
