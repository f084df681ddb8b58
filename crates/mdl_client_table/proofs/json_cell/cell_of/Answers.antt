-- Whether the bytes are UTF-8 decides.
use Rattle.std.proofs.Common.{◌≡◌, ◌∙◌, Bool, true, false, cond, List, ℕ, refl, sym, ap}
use Rattle.std.proofs.lemmas.Result.{IfOk-weaker}
use Rattle.std.proofs.lemmas.Str.{IsUtf8-from_is_utf8, is_utf8-from_IsUtf8}
use Rattle.std.specs.Str.{is_utf8}
use Rattle.json.specs.Lex.{tokens}
use Rattle.mdl_client_table.specs.declared.json_cell.Cell.TheVariants.{Wrong}
use Rattle.mdl_client_table.specs.Json.{cell_in}
use Rattle.mdl_client_table.proofs.json_cell.cell_of.Goals as goal

pub returns-in-Ok : goal.returns-in-Ok
returns-in-Ok c =
    let bytes = c.args.bytes.now in
    let text = c.in-Ok.ensures.cases in
    IfOk-weaker c.cell_in.result _ _
    (λ cell is. is ∙ ap (λ (read : List ℕ). cell_in (tokens read)) text.0 ∙ sym (ap (λ (b : Bool). cond b (cell_in (tokens bytes)) Wrong) (is_utf8-from_IsUtf8 bytes text.1)))
    c.cell_in.ensures

pub returns-in-Err : goal.returns-in-Err
returns-in-Err c =
    let bytes = c.args.bytes.now in
    elim (is_utf8 bytes) as (λ b. is_utf8 bytes ≡ b → Wrong ≡ cond b (cell_in (tokens bytes)) Wrong) [
      | true ↦ λ e. absurd (c.in-Err.ensures.cases.0 (IsUtf8-from_is_utf8 bytes e))
      | false ↦ λ e. refl
    ] refl
