-- In boxes, the parts between two bars.
use Rattle.std.proofs.Common.{◌≡◌, ◌∙◌, Bor, ℕ, List, map, sym, ap}
use Rattle.std.specs.Prelude.{fold}
use Rattle.std.proofs.lemmas.Result.{IfOk-weaker}
use Rattle.mdl_client_table.specs.declared.form.Form.TheVariants.{Boxes}
use Rattle.mdl_client_table.specs.Cells.{no_cells, parts_in, with_part}
use Rattle.mdl_client_table.proofs.PartLemmas.{inner-parts}
use Rattle.mdl_client_table.proofs.cells.cells_in.Goals as goal

pub returns-in-len2-up : goal.returns-in-len2-up
returns-in-len2-up c =
    let is : c.args.form ≡ Boxes = c.in-Boxes.is in
    let parts = inner-parts c.as_slice.result.now _ (ap (map (λ (part : Bor (List ℕ)). part.now)) c.as_slice.ensures.value ∙ c.in_ok-parts-in-Boxes.ensures) in
    IfOk-weaker c.joined.result _ _
    (λ cells same. same ∙ ap (λ parts. (fold (with_part c.args.form) no_cells parts).cells) (parts ∙ ap (λ form. parts_in form c.args.row.now) (sym is)))
    c.joined.ensures
