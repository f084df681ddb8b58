-- The last row is at the last index.
use Rattle.std.proofs.Common.{◌≡◌, ◌∙◌, ◌+◌, ◌-◌, length, ap, arith}
use Rattle.mdl_client_table.specs.Tables.{RowText}
use Rattle.mdl_client_table.proofs.LastLemmas.{last_count-at}
use Rattle.mdl_client_table.proofs.table.last_count.Goals as goal

pub returns : goal.returns
returns c =
    let last : length c.args.rows.now - 1 + 1 ≡ length c.args.rows.now = omega (arith, c.if-many-eq0.false) in
    c.count.ensures ∙ ap (λ (row : RowText). length row.fields) c.index-rows-many.is ∙ last_count-at c.args.rows.now (length c.args.rows.now - 1) _ last
