-- How a session ends, after MySQL 5.7: `THD::cleanup` of sql/sql_class.cc.
use Rattle.std.specs.Prelude.{Option, Some, None}
use Rattle.mdl_calls.specs.Words.{Program, Give, ◌>>=◌, ◌>>◌}
use Rattle.mdl_context.specs.declared.kept.Wanted.{Wanted}
use Rattle.mdl_context.specs.Contexts.{ContextView}
use Rattle.mdl_context.specs.Releases.{giving_up_all}
use Rattle.mdl_context.specs.Waits.{giving_up_wait}
use Rattle.mdl_rows.specs.Sessions.{Session}

-- a wait is given up, if there is one, and then all tickets are released
abbrev pub leaving_from : Option Wanted → ContextView → Program (Unit {0})
leaving_from None context = giving_up_all context >> Give tt
leaving_from (Some wanted) context = giving_up_wait context >>= (λ outcome. giving_up_all outcome.1 >> Give tt)

-- the program that ends a session: a waiting statement is abandoned, and all the session's tickets are released
abbrev pub leaving : Session → Program (Unit {0})
leaving session = leaving_from session.context.wait session.context
