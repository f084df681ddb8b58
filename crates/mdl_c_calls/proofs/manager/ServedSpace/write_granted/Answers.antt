-- One more ticket is written in each turn, and at the end all that fit.
use Rattle.std.proofs.Common.{◌≡◌, ◌∙◌, ℕ, ◌<◌, length, map, take, drop, ◌++◌, refl, ap, arith}
use Rattle.std.proofs.lemmas.List.{length-take}
use Rattle.mdl_book.specs.declared.ticket.Ticket.{Ticket}
use Rattle.mdl_c_parts.specs.Rows.{lock_row}
use Rattle.mdl_c_calls.specs.Listings.{duration_told, granted_row}
use Rattle.mdl_c_calls.specs.Managers.{Managed}
use Rattle.mdl_c_parts.proofs.WrittenLemmas.{written-all, written-more}
use Rattle.mdl_c_calls.proofs.manager.ServedSpace.write_granted.Goals as goal

row : (manager : Managed) (ticket : Ticket) (duration : ℕ) → duration ≡ duration_told manager ticket → lock_row 0 duration ticket ≡ granted_row manager ticket
row manager ticket duration told = ap (λ d. lock_row 0 d ticket) told

pub loop-at-preserved : goal.loop-at-preserved
loop-at-preserved c =
    let now = c.args.self.now in
    let fits : c.loop-at.at < length c.args.room.now = omega (arith, length-take c.min.result c.args.tickets.now) in
    written-more (granted_row now) (take c.min.result c.args.tickets.now) c.args.room.now c.loop-at.room c.loop-at.at _ c.of.result c.loop-at-test.true fits c.loop-at.invariant
    (c.of.ensures ∙ row now _ _ c.duration_of.ensures)

pub returns : goal.returns
returns c =
    let now = c.args.self.now in let items = take c.min.result c.args.tickets.now in
    let whole : c.loop-at.at ≡ length items = omega arith in
    c.loop-at.invariant
    ∙ ap (λ (k : ℕ). map (granted_row now) (take k items) ++ drop k c.args.room.now) whole
    ∙ written-all (granted_row now) c.args.tickets.now items c.args.room.now c.min.result c.min.ensures refl
