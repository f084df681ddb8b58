-- Digits are text, and parsed as the number that they write.
use Rattle.std.proofs.Common.{◌∙◌, subst}
use Rattle.std.specs.Str.Parse.{ParsesUnsigned}
use Rattle.mdl_lock_rows.proofs.NumberLemmas.{digits-IsUtf8, err_from_none, ok_from_some, parsed-number_in}
use Rattle.mdl_lock_rows.proofs.lines.number_in.Goals as goal

pub returns-in_err-ok : goal.returns-in_err-ok
returns-in_err-ok c =
    absurd (err_from_none c.from_utf8.result _ _ c.in_err-ok.ensures.value (λ error h. h.0 (digits-IsUtf8 c.args.digits.now c.requires)) c.from_utf8.ensures.cases)

pub returns : goal.returns
returns c =
    let same = ok_from_some c.from_utf8.result _ _ c.in_ok-ok.field-0 c.in_ok-ok.ensures.value c.from_utf8.ensures.cases in
    c.ok-2.ensures.value ∙ parsed-number_in c.args.digits.now c.parse.result (subst (λ text. ParsesUnsigned 64 10 text c.parse.result) same.0 c.parse.ensures.value.0) c.requires
