-- So much was put there.
use Rattle.std.proofs.Common.{◌≡◌, ◌++◌, take}
use Rattle.std.specs.List.{flat_map}
use Rattle.mdl_view_text.specs.Why.{ticket_line}
use Rattle.mdl_view_text.proofs.why.push_each_ticket.Given as goal

abbrev pub invariant-loop-at : goal.invariant-loop-at
invariant-loop-at l = l.out.items ≡ l.fn.out.items ++ flat_map (ticket_line l.names l.verb l.rest) (take l.at-index l.ats)
