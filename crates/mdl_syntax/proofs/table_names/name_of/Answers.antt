use Rattle.std.specs.Str.{IsUtf8}
use Rattle.mdl_syntax.proofs.NameLemmas.{name_of-no_text}
use Rattle.mdl_syntax.proofs.ResultLemmas.{err_from_none}
use Rattle.mdl_syntax.proofs.table_names.name_of.Goals as goal

pub returns-in_err-name : goal.returns-in_err-name
returns-in_err-name c =
    let bad : IsUtf8 c.args.word.now → ⊥ = err_from_none c.from_utf8.result _ _ c.in_err-name.ensures.value (λ error h. h.0) c.from_utf8.ensures.cases in
    rw c.from_residual.ensures (name_of-no_text c.args.word.now bad)
