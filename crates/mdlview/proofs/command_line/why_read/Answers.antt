-- The command is `why_alone`, so what clap says of a parse says what the words ask for.
use Rattle.std.proofs.Common.{◌≡◌, ◌∙◌, ap, drop, map, sym}
use Rattle.std.proofs.lemmas.Result.{IfOk-weaker}
use Rattle.clap.specs.Words.{fault_of, is_simple, is_simple_and_free, matches_of, takes}
use Rattle.mdlview.specs.CommandLine.{with_options}
use Rattle.mdlview.specs.declared.asked.Subcommand.TheVariants.{Why}
use Rattle.mdlview.proofs.AskedWords.{answered, asks_by, passed_on, taken_by}
use Rattle.mdlview.proofs.Subcommands.{alone_asks, alone_taken}
use Rattle.mdlview.proofs.command_line.why_read.Goals as goal

pub returns-in_err-matches-clause-taken : goal.returns-in_err-matches-clause-taken
returns-in_err-matches-clause-taken g c asked asks =
    let words = map g.S.AsStr.text c.args.words.now in
    let shape = c.in_ok-command.ensures ∙ ap with_options c.new.ensures.app in
    let taken = ap (λ a. takes a words) shape ∙ alone_taken (drop 1 words) (taken_by Why (drop 1 words) asked asks).0 in
    passed_on c.from_residual-in_err-matches.result _ _ _ c.from_residual-in_err-matches.ensures.1 (c.in_err-matches.ensures.passes taken)

pub returns-clause-asked : goal.returns-clause-asked
returns-clause-asked g c =
    let words = map g.S.AsStr.text c.args.words.now in
    let shape = c.in_ok-command.ensures ∙ ap with_options c.new.ensures.app in
    let free = ap (λ a. fault_of a words) (sym shape) ∙ c.in_ok-matches.ensures.kinds (ap is_simple_and_free shape) in
    let rows = (c.in_ok-matches.ensures.matches (ap is_simple shape)).0 ∙ ap (λ a. matches_of a words) shape in
    IfOk-weaker c.asked_found.result _ _ (λ asked found. asks_by Why (drop 1 words) c.in_ok-matches.matches asked (alone_asks (drop 1 words) free) rows found)
    c.asked_found.ensures.asked

pub returns-clause-taken : goal.returns-clause-taken
returns-clause-taken g c asked asks =
    let words = map g.S.AsStr.text c.args.words.now in
    let shape = c.in_ok-command.ensures ∙ ap with_options c.new.ensures.app in
    let rows = (c.in_ok-matches.ensures.matches (ap is_simple shape)).0 ∙ ap (λ a. matches_of a words) shape in
    let (options, has, by) = (taken_by Why (drop 1 words) asked asks).1 c.in_ok-matches.matches rows in
    answered c.asked_found.result asked _ (c.asked_found.ensures.taken options asked has by)
