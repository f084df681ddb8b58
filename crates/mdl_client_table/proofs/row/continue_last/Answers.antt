-- The last field is another one.
use Rattle.std.proofs.Common.{◌≡◌, ◌∙◌, ◌+◌, ◌-◌, ◌++◌, ◌∷◌, List, ℕ, length, set, ap, arith}
use Rattle.mdl_client_table.proofs.LastLemmas.{changed_last-set, on_ok-map}
use Rattle.mdl_client_table.proofs.row.continue_last.Goals as goal

pub returns : goal.returns
returns c =
    let fields = c.args.fields.now.items in
    let make = λ (field : List ℕ). field ++ 10 ∷ c.args.line.now in
    let last : c.len-count.result - 1 + 1 ≡ length fields = omega (arith, c.if-count-eq0.false, c.len-count.ensures) in
    on_ok-map c.join.result
    (λ is. ap (λ field. set fields (c.len-count.result - 1) field) (is ∙ ap make c.index_mut.ensures.value) ∙ changed_last-set make fields (c.len-count.result - 1) _ last)
    c.join.ensures
