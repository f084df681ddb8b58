-- The last cell is another one.
use Rattle.std.proofs.Common.{◌≡◌, ◌∙◌, ◌+◌, ◌-◌, ◌++◌, ◌∷◌, List, ℕ, length, set, ap, arith}
use Rattle.mdl_client_table.proofs.LastLemmas.{changed_last-set, on_ok-map}
use Rattle.mdl_client_table.proofs.cells.join_last.Goals as goal

pub returns : goal.returns
returns c =
    let cells = c.args.cells.now.items in
    let make = λ (cell : List ℕ). cell ++ c.args.separator ∷ c.args.part.now in
    let last : c.len-count.result - 1 + 1 ≡ length cells = omega (arith, c.if-count-eq0.false, c.len-count.ensures) in
    on_ok-map c.join.result
    (λ is. ap (λ cell. set cells (c.len-count.result - 1) cell) (is ∙ ap make c.index_mut.ensures.value) ∙ changed_last-set make cells (c.len-count.result - 1) _ last)
    c.join.ensures
