use Rattle.std.proofs.Common.{ap}
use Rattle.std.specs.Prelude.{Option}
use Rattle.std.specs.Str.{IsUtf8}
use Rattle.mdl_key.specs.Keys.{KeyName}
use Rattle.mdl_lines.specs.declared.fault.LineError.TheVariants.{BadName}
use Rattle.mdl_syntax.specs.Forms.{or_refuse}
use Rattle.mdl_syntax.proofs.NameLemmas.{name_of-no_text, table_in-no_table}
use Rattle.mdl_syntax.proofs.table_names.key_in.Goals as goal

pub returns-in_default : goal.returns-in_default
returns-in_default c =
    let bad : IsUtf8 c.args.word.now → ⊥ = c.in_default.ensures.cases.0 in
    ap (λ (found : Option KeyName). or_refuse BadName found) (table_in-no_table c.args.schema.now c.args.word.now (name_of-no_text c.args.word.now bad))
