-- The last row is another one.
use Rattle.std.proofs.Common.{◌≡◌, ◌∙◌, ◌+◌, ◌-◌, length, set, ap, arith}
use Rattle.mdl_client_table.specs.Tables.{continued_row}
use Rattle.mdl_client_table.proofs.LastLemmas.{changed_last-set, on_ok-map}
use Rattle.mdl_client_table.proofs.table.continue_row.Goals as goal

pub returns : goal.returns
returns c =
    let rows = c.args.rows.now.items in
    let make = continued_row c.args.line.now in
    let last : c.len-count.result - 1 + 1 ≡ length rows = omega (arith, c.if-count-eq0.false, c.len-count.ensures) in
    on_ok-map c.continue_line.result
    (λ is. ap (λ row. set rows (c.len-count.result - 1) row) (is ∙ ap make c.index_mut.ensures.value) ∙ changed_last-set make rows (c.len-count.result - 1) _ last)
    c.continue_line.ensures
