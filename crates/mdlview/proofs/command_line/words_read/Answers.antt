-- Words begin with an option where no subcommand is named.
use Rattle.std.proofs.Common.{◌≡◌, ◌∙◌, ◌∷◌, ◌++◌, [], ap, inl, inr, drop, map, rules, subst, sym, true, false, true≢false}
use Rattle.std.proofs.lemmas.Result.{IfOk-weaker}
use Rattle.mdlview.specs.CommandLine.{AskBy, begins_with_option, subcommand_name}
use Rattle.mdlview.proofs.AskedWords.{begins, is_name, named_by, names}
use Rattle.mdlview.proofs.command_line.words_read.Goals as goal

pub returns-then-begins_with_option-clause-taken : goal.returns-then-begins_with_option-clause-taken
returns-then-begins_with_option-clause-taken g c asked (named, name, rest, is, by_name, asks) =
    let words = map g.S.AsStr.text c.args.words.now in
    let begun : begins_with_option (drop 1 words) ≡ true = search rules in
    elim (named_by named name by_name) [
      | inl (none, why) ↦ c.why_read.ensures.taken asked
          (subst (λ n. AskBy n (drop 1 words) asked) why (subst (λ ws. AskBy named ws asked) (sym (is ∙ ap (λ xs. xs ++ rest) none)) asks))
      | inr same ↦ absurd (true≢false (sym begun ∙ ap begins_with_option (is ∙ ap (λ xs. xs ++ rest) same) ∙ is_name named))
    ]

pub returns-else-begins_with_option-clause-asked : goal.returns-else-begins_with_option-clause-asked
returns-else-begins_with_option-clause-asked g c =
    IfOk-weaker c.subcommand_read.result _ _ (λ asked found. (found.0, subcommand_name found.0 ∷ [], found.1, found.2, names found.0, found.3)) c.subcommand_read.ensures.asked

pub returns-else-begins_with_option-clause-taken : goal.returns-else-begins_with_option-clause-taken
returns-else-begins_with_option-clause-taken g c asked (named, name, rest, is, by_name, asks) =
    let words = map g.S.AsStr.text c.args.words.now in
    let not_begun : begins_with_option (drop 1 words) ≡ false = search rules in
    elim (named_by named name by_name) [
      | inl (none, why) ↦ absurd (true≢false (sym (begins named rest asked asks) ∙ ap begins_with_option (sym (is ∙ ap (λ xs. xs ++ rest) none)) ∙ not_begun))
      | inr same ↦ c.subcommand_read.ensures.taken named rest asked (is ∙ ap (λ xs. xs ++ rest) same) asks
    ]
