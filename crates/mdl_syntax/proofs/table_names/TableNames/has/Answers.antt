use Rattle.std.proofs.Common.{ap, sym, ◌∙◌, rules, tests}
use Rattle.std.specs.List.{list_any}
use Rattle.std.proofs.lemmas.Iterator.{YieldsList-from_slice}
use Rattle.std.proofs.lemmas.Iterator.Search.{any_from_yields_List}
use Rattle.mdl_key.specs.Keys.{key_eq, table_key}
use Rattle.mdl_syntax.proofs.TableLemmas.{list_any-map}
use Rattle.mdl_syntax.proofs.table_names.TableNames.has.Goals as goal

pub returns : goal.returns
returns c =
    let key = table_key c.args.name.now.schema.now c.args.name.now.table.now in
    let any = any_from_yields_List (λ other. key_eq key (table_key other.schema.now other.table.now)) _ _ c.any.result c.any.ensures.ran (YieldsList-from_slice c.as_slice.result.now cc) (λ x b q k. search (rules, tests)) in
    any ∙ sym (list_any-map (key_eq key) (λ other. table_key other.schema.now other.table.now) c.as_slice.result.now) ∙ ap (list_any (key_eq key)) (sym c.as_slice.ensures)
