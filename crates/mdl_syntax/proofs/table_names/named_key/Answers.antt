use Rattle.std.proofs.Common.{◌+◌, ap, drop, subst, sym, take, ◌∙◌}
use Rattle.std.specs.Prelude.{Option}
use Rattle.std.proofs.lemmas.List.{take_rest}
use Rattle.mdl_key.specs.Keys.{KeyName}
use Rattle.mdl_lines.specs.declared.fault.LineError.TheVariants.{BadName}
use Rattle.mdl_syntax.specs.Forms.{or_refuse}
use Rattle.mdl_syntax.specs.Names.{table_in}
use Rattle.mdl_syntax.specs.Reading.{ReadsAs}
use Rattle.mdl_syntax.proofs.NameLemmas.{name_of-word, table_of-dot}
use Rattle.mdl_syntax.proofs.table_names.named_key.Goals as goal

pub returns-in-Some-name_of : goal.returns-in-Some-name_of
returns-in-Some-name_of c =
    let word = c.args.word.now in
    let at = c.in-Some.at in
    let schema = c.in-Some-name_of.schema.now in
    let same = name_of-word (take at word) schema c.in-Some-name_of.ensures in
    let named = table_of-dot word at (sym c.in-Some.is ∙ c.first_dot.ensures) ∙ ap (λ of. table_in of (drop (at + 1) word)) same
    ∙ ap (λ rest. table_in schema rest) (sym (take_rest word (at + 1))) in
    subst (λ (found : Option KeyName). ReadsAs (or_refuse BadName found) c.key_in-in-Some-name_of.result) (sym named) c.key_in-in-Some-name_of.ensures
