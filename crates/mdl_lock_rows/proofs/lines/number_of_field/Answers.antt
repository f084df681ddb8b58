-- A field of digits alone.
use Rattle.std.proofs.Common.{◌≡◌, ◌∙◌, true, cond, sym, ap, rules, tests}
use Rattle.std.specs.Prelude.{None}
use Rattle.std.specs.List.{list_all}
use Rattle.std.proofs.lemmas.Iterator.{YieldsList-from_slice}
use Rattle.std.proofs.lemmas.Iterator.Search.{all_from_yields_List}
use Rattle.mdl_lines.specs.Words.{is_digit}
use Rattle.mdl_lock_rows.specs.Lines.{number_in}
use Rattle.mdl_lock_rows.proofs.lines.number_of_field.Goals as goal

pub number_in-requires : goal.number_in-requires
number_in-requires c =
    sym (all_from_yields_List is_digit _ _ c.all.result c.all.ensures.ran (YieldsList-from_slice c.args.field.now cc) (λ x b q k. search (rules, tests))) ∙ c.if-all.true

pub returns-then-all : goal.returns-then-all
returns-then-all c =
    let all : list_all is_digit c.args.field.now ≡ true =
    sym (all_from_yields_List is_digit _ _ c.all.result c.all.ensures.ran (YieldsList-from_slice c.args.field.now cc) (λ x b q k. search (rules, tests))) ∙ c.if-all.true in
    c.number_in.ensures ∙ ap (λ b. cond b (number_in c.args.field.now) None) (sym all)
