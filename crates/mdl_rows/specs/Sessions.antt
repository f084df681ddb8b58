-- A session of statements: its tickets, its state, and what is left of a waiting statement.
use Rattle.std.specs.Prelude.{ℕ, Option}
use Rattle.mdl_context.specs.declared.request.Mark.{Mark}
use Rattle.mdl_context.specs.Contexts.{ContextView}
use Rattle.mdl_rows.specs.declared.reply.Reply.{Reply}
use Rattle.mdl_rows.specs.Rows.{Row}
use Rattle.mdl_rows.specs.States.{State}

-- what is left of a statement once the lock that it waits for is granted, as a function of the ticket's number, and the
-- session's mark when the statement began
pub record Left : Type 0 where
  pub rest : ℕ → Row Reply
  pub mark : Mark

-- a session: its context, its state beside the tickets, and what is left of a waiting statement, if one waits
pub record Session : Type 0 where
  pub context : ContextView
  pub state : State
  pub left : Option Left
