-- Which tickets are released, as the code of a context represents it.
use Rattle.std.specs.Prelude.{Bool, ◌&&◌, nat_le}
use Rattle.mdl_context.specs.declared.kept.Kept.{Kept}
use Rattle.mdl_context.specs.declared.going.Going.{Going}
use Rattle.mdl_context.specs.declared.going.Going.TheVariants.{From, At}
use Rattle.mdl_context.specs.Contexts.{lasts}
use Rattle.mdl_context.specs.Holdings.{is_kept_at}

-- whether a ticket is to be released
abbrev pub goes : Going → Kept → Bool
goes (From duration id) ticket = lasts duration ticket && nat_le id ticket.id
goes (At place) ticket = is_kept_at place ticket
