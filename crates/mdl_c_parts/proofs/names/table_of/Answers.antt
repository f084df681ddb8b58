-- The names are those bytes, and what is told of them is the key's.
use Rattle.std.proofs.Common.{sym, subst}
use Rattle.std.specs.Str.{IsUtf8}
use Rattle.mdl_key.specs.Keys.{KeyName, utf8_table_fault}
use Rattle.mdl_c_parts.specs.Names.{IsNameCode}
use Rattle.mdl_c_parts.proofs.NameLemmas.{name-code}
use Rattle.mdl_c_parts.proofs.names.table_of.Goals as goal

pub returns-in-Err : goal.returns-in-Err
returns-in-Err c =
    let text = IsUtf8 c.args.schema.now × IsUtf8 c.args.table.now in
    subst (λ schema. IsNameCode text (utf8_table_fault schema c.args.table.now) c.name_code.result) c.in-Ok.ensures.cases.0
    (subst (λ table. IsNameCode text (utf8_table_fault c.in-Ok.schema.now table) c.name_code.result) c.in-Ok-from_utf8.ensures.cases.0
    (subst (λ code. IsNameCode text (utf8_table_fault c.in-Ok.schema.now c.in-Ok-from_utf8.table.now) code) (sym c.name_code.ensures)
    (name-code KeyName text (utf8_table_fault c.in-Ok.schema.now c.in-Ok-from_utf8.table.now) c.in-Err.why
    (c.in-Ok.ensures.cases.1, c.in-Ok-from_utf8.ensures.cases.1) c.in-Err.ensures.refused)))
