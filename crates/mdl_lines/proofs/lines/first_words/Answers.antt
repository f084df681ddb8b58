use Rattle.std.proofs.Common.{◌∷◌, ap, ◌∙◌, rules, tests}
use Rattle.std.proofs.lemmas.Iterator.Consumers.{YieldsList-from_filter, YieldsList-at}
use Rattle.std.proofs.lemmas.Iterator.Splits.{YieldsList-from_slice_split}
use Rattle.mdl_lines.specs.Lines.{is_blank, words_of, only}
use Rattle.mdl_lines.proofs.Items.{next_some, next_none}
use Rattle.mdl_lines.proofs.lines.first_words.Goals as goal

pub returns-in_err-first : goal.returns-in_err-first
returns-in_err-first c =
    let none = next_none c.next.result c.next.new.self c.in_err-first.was c.next.ensures.steps (words_of c.args.line.now) (YieldsList-from_filter _ _ (YieldsList-at c.filter-words.ensures.source (YieldsList-from_slice_split _ is_blank c.args.line.now c.split.ensures.rest c.split.ensures.done c.split.ensures.closure (λ x b q k. search (rules, tests)))) c.filter-words.ensures.closure (λ x b q k. search (rules, tests))) in
    rw c.from_residual.ensures none

pub returns-in_default : goal.returns-in_default
returns-in_default c =
    let one = next_some c.next.result c.in_ok-first.first c.next.new.self c.in_ok-first.was c.next.ensures.steps (words_of c.args.line.now) (YieldsList-from_filter _ _ (YieldsList-at c.filter-words.ensures.source (YieldsList-from_slice_split _ is_blank c.args.line.now c.split.ensures.rest c.split.ensures.done c.split.ensures.closure (λ x b q k. search (rules, tests)))) c.filter-words.ensures.closure (λ x b q k. search (rules, tests))) in
    let none = next_none c.next-2.result c.next-2.new.self c.in_default.is c.next-2.ensures.steps one.0 one.1.1 in
    (one.0, one.1.0, ap only none)

pub returns-in-None : goal.returns-in-None
returns-in-None c =
    let one = next_some c.next.result c.in_ok-first.first c.next.new.self c.in_ok-first.was c.next.ensures.steps (words_of c.args.line.now) (YieldsList-from_filter _ _ (YieldsList-at c.filter-words.ensures.source (YieldsList-from_slice_split _ is_blank c.args.line.now c.split.ensures.rest c.split.ensures.done c.split.ensures.closure (λ x b q k. search (rules, tests)))) c.filter-words.ensures.closure (λ x b q k. search (rules, tests))) in
    let two = next_some c.next-2.result c.in-Some.second c.next-2.new.self c.in-Some.is c.next-2.ensures.steps one.0 one.1.1 in
    let none = next_none c.next-3.result c.next-3.new.self c.in-None.is c.next-3.ensures.steps two.0 two.1.1 in
    (one.0, one.1.0, ap only two.1.0 ∙ ap (λ zs. only (c.in-Some.second.now ∷ zs)) none)

pub returns-in-Some-next : goal.returns-in-Some-next
returns-in-Some-next c =
    let one = next_some c.next.result c.in_ok-first.first c.next.new.self c.in_ok-first.was c.next.ensures.steps (words_of c.args.line.now) (YieldsList-from_filter _ _ (YieldsList-at c.filter-words.ensures.source (YieldsList-from_slice_split _ is_blank c.args.line.now c.split.ensures.rest c.split.ensures.done c.split.ensures.closure (λ x b q k. search (rules, tests)))) c.filter-words.ensures.closure (λ x b q k. search (rules, tests))) in
    let two = next_some c.next-2.result c.in-Some.second c.next-2.new.self c.in-Some.is c.next-2.ensures.steps one.0 one.1.1 in
    let more = next_some c.next-3.result c.in-Some-next.field-0 c.next-3.new.self c.in-Some-next.is c.next-3.ensures.steps two.0 two.1.1 in
    (one.0, one.1.0, ap only two.1.0 ∙ ap (λ zs. only (c.in-Some.second.now ∷ zs)) more.1.0)
