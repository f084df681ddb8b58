-- A line that is no script may go on in one of the ways.
use Rattle.std.proofs.Common.{◌≡◌, ◌∙◌, ◌||◌, Bool, IfOk, subst, sym}
use Rattle.std.specs.List.{list_any}
use Rattle.mdl_view_text.specs.Explanations.{endings, goes_on_with}
use Rattle.mdl_view_text.proofs.refused_words.may_go_on.Goals as goal

pub returns : goal.returns
returns c =
    subst (λ (b : Bool). IfOk c.goes_on.result (λ may. may ≡ (b || list_any (goes_on_with c.args.line.now) endings)))
    (sym (sym c.in_ok-may_end.ensures ∙ c.if-may_end.false)) c.goes_on.ensures
