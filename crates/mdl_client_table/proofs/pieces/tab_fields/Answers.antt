use Rattle.std.proofs.Common.{◌∙◌, Bor, ℕ, List, map, ap}
use Rattle.std.proofs.lemmas.Result.{IfOk-weaker}
use Rattle.mdl_client_table.specs.Escapes.{name_of}
use Rattle.mdl_client_table.proofs.PartLemmas.{read-parts}
use Rattle.mdl_client_table.proofs.pieces.tab_fields.Goals as goal

pub returns : goal.returns
returns c =
    IfOk-weaker c.unescaped_fields.result _ _
    (λ fields is. is ∙ ap (map (λ (part : Bor (List ℕ)). name_of part.now)) c.as_slice.ensures.value ∙ read-parts name_of c.in_ok-parts.parts.items ∙ ap (map name_of) c.in_ok-parts.ensures)
    c.unescaped_fields.ensures
