use Rattle.std.proofs.Common.{◌≡◌, sym, ap, ◌∙◌, arith}
use Rattle.std.specs.Str.{IsUtf8}
use Rattle.mdl_key.specs.declared.mode.Mode.{Mode}
use Rattle.mdl_key.specs.Modes.{mode_name}
use Rattle.mdl_lock.specs.Scripts.{action_of}
use Rattle.std.proofs.lemmas.Grind.{common_steps}
use Rattle.mdl_lock.proofs.Actions.{action_of-name, action_of-None, action_of-no_text, ok_from_some, err_from_none}
use Rattle.mdl_lock.proofs.lines.action_of.Goals as goal

pub returns-in_err-name : goal.returns-in_err-name
returns-in_err-name c =
    let bad : IsUtf8 c.args.word.now → ⊥ = err_from_none c.from_utf8.result _ _ c.in_err-name.ensures.value (λ error h. h.0) c.from_utf8.ensures.cases in
    c.from_residual.ensures ∙ sym (action_of-no_text c.args.kind c.args.word.now bad)

pub returns-in_err-mode-in_default : goal.returns-in_err-mode-in_default
returns-in_err-mode-in_default c =
    let same = ok_from_some c.from_utf8.result _ _ c.in_ok-name.name c.in_ok-name.ensures.value c.from_utf8.ensures.cases in
    let none : (mode : Mode) → mode_name mode ≡ c.in_ok-name.name.now → ⊥ = err_from_none c.parse.result _ _ c.in_err-mode-in_default.ensures.value (λ error h. h) c.parse.ensures.value in
    c.from_residual-in_err-mode-in_default.ensures ∙ sym (action_of-None c.args.kind c.in_ok-name.name.now c.in_default.not-RELEASE c.in_default.not-TIMEOUT none) ∙ ap (action_of c.args.kind) same.0

pub returns-in_ok-mode-in_default : goal.returns-in_ok-mode-in_default
returns-in_ok-mode-in_default c = let h = action_of-name c.args.kind c.in_ok-mode-in_default.mode in grind (arith, common_steps)
