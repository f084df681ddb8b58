-- The counts of the word tell just what a list of its fast tickets would.
use Rattle.std.proofs.Common.{refl, sym, ◌∙◌}
use Rattle.mdl_book.proofs.FastLemmas.{next_grantable-fast}
use Rattle.mdl_book.proofs.MemberLemmas.{none-ready}
use Rattle.mdl_book.proofs.laws.nobody_is_next_where_none_is_forgotten.Goals as goal

pub returns : goal.returns
returns c = λ word fast unsettled lists counts others.
    let same = next_grantable-fast counts unsettled lists refl others in
    let none = none-ready fast unsettled lists in
    ((λ next. none.0 (sym same ∙ next)), (λ nobody. same ∙ none.1 nobody))
