-- So much was put there.
use Rattle.std.proofs.Common.{◌≡◌, ◌++◌, take}
use Rattle.std.specs.List.{flat_map}
use Rattle.mdl_view_text.specs.Rows.{ticket_row}
use Rattle.mdl_view_text.proofs.rows.push_tickets.Given as goal

abbrev pub invariant-loop-ticket : goal.invariant-loop-ticket
invariant-loop-ticket l = l.out.items ≡ l.fn.out.items ++ flat_map (ticket_row l.names l.place l.status) (take l.ticket-index l.tickets)
