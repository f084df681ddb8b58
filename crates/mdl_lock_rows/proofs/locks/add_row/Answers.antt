-- The lock of the row's key is another one.
use Rattle.std.proofs.Common.{◌≡◌, ◌∙◌, Some, position, set, length, ◌<◌, sym, ap, arith}
use Rattle.mdl_lock_rows.specs.Keys.{same_key}
use Rattle.mdl_lock_rows.specs.Tables.{changed_at, with_ticket}
use Rattle.mdl_lock_rows.proofs.GrowLemmas.{changed-set, on_ok-map}
use Rattle.mdl_lock_rows.proofs.locks.add_row.Goals as goal

pub returns : goal.returns
returns c =
    let locks = c.args.locks.now.items in
    let make = with_ticket c.args.threads.now.all.keys c.args.threads.now.changers.keys c.args.row.now in
    let inside : c.in-Some.place < length locks = omega (arith, c.in-Some.ensures.within, c.requires) in
    let found : Some c.in-Some.place ≡ position (same_key c.args.row.now.key) c.args.keys.now.keys = c.in-Some.ensures.index in
    on_ok-map c.add_ticket.result
    (λ is. ap (λ lock. set locks c.in-Some.place lock) (is ∙ ap make c.index_mut.ensures.value)
    ∙ sym (changed-set make locks c.in-Some.place _ inside) ∙ ap (λ place. changed_at place make locks) found)
    c.add_ticket.ensures
