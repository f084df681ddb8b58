-- The last row is another one.
use Rattle.std.proofs.Common.{◌≡◌, ◌∙◌, ◌+◌, ◌-◌, length, set, ap, arith}
use Rattle.mdl_client_table.specs.Vertical.{with_value}
use Rattle.mdl_client_table.proofs.LastLemmas.{changed_last-set, on_ok-map}
use Rattle.mdl_client_table.proofs.table.add_to_last.Goals as goal

pub returns : goal.returns
returns c =
    let rows = c.args.rows.now.items in
    let make = with_value c.args.is_field c.args.line.now in
    let last : c.len-count.result - 1 + 1 ≡ length rows = omega (arith, c.if-count-eq0.false, c.len-count.ensures) in
    on_ok-map c.add_line.result
    (λ is. ap (λ row. set rows (c.len-count.result - 1) row) (is ∙ ap make c.index_mut.ensures.value) ∙ changed_last-set make rows (c.len-count.result - 1) _ last)
    c.add_line.ensures
