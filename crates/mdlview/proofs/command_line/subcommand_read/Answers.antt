-- The command is `mdlview`, so what clap says of a parse says which subcommand was named, and what it asks for.
use Rattle.std.proofs.Common.{◌≡◌, ◌∙◌, ap, drop, map, rules, subst, sym}
use Rattle.std.proofs.lemmas.Result.{IfOk-weaker}
use Rattle.clap.specs.Words.{fault_of, is_simple, is_simple_and_free, subcommand_of, takes}
use Rattle.clap.specs.Simple.{built}
use Rattle.clap.specs.Takes.{built_takes}
use Rattle.clap.specs.Walk.{nothing_held}
use Rattle.mdlview.specs.CommandLine.{asked_by, mdlview}
use Rattle.mdlview.proofs.AskedWords.{AsksByFound, answered, asks_by, named_found, passed_on, rows_found, taken_by}
use Rattle.mdlview.proofs.Subcommands.{program_asks, program_taken}
use Rattle.mdlview.proofs.command_line.subcommand_read.Goals as goal

pub returns-in_err-matches-clause-taken : goal.returns-in_err-matches-clause-taken
returns-in_err-matches-clause-taken g c named rest asked is asks =
    let words = map g.S.AsStr.text c.args.words.now in
    let taken = ap (λ a. takes a words) c.in_ok-program.ensures
    ∙ ap (λ xs. built_takes (built mdlview) nothing_held xs) is
    ∙ program_taken named rest (taken_by named rest asked asks).0 in
    passed_on c.from_residual-in_err-matches.result _ _ _ c.from_residual-in_err-matches.ensures.1 (c.in_err-matches.ensures.passes taken)

pub returns-clause-asked : goal.returns-clause-asked
returns-clause-asked g c =
    let words = map g.S.AsStr.text c.args.words.now in
    let m = c.in_ok-matches.matches in
    let shape = c.in_ok-program.ensures in
    let free = ap (λ a. fault_of a words) (sym shape) ∙ c.in_ok-matches.ensures.kinds (ap is_simple_and_free shape) in
    let (named, rest, is, used) = program_asks (drop 1 words) free in
    let entered = (c.in_ok-matches.ensures.matches (ap is_simple shape)).1 ∙ ap (λ a. subcommand_of a words) shape in
    let name = named_found named rest words m c.in-Some.name.now is entered (search rules) in
    let rows = rows_found named rest words m c.in-Some.options.now is entered (search rules) in
    let same = c.subcommand_named.ensures named name in
    IfOk-weaker c.asked_found.result _ _
    (λ asked found. (named, rest, is, asks_by named rest c.in-Some.options.now asked used rows (subst (λ n. AsksByFound n c.in-Some.options.now asked) same found)))
    c.asked_found.ensures.asked

pub returns-clause-taken : goal.returns-clause-taken
returns-clause-taken g c named rest asked is asks =
    let words = map g.S.AsStr.text c.args.words.now in
    let m = c.in_ok-matches.matches in
    let shape = c.in_ok-program.ensures in
    let entered = (c.in_ok-matches.ensures.matches (ap is_simple shape)).1 ∙ ap (λ a. subcommand_of a words) shape in
    let name = named_found named rest words m c.in-Some.name.now is entered (search rules) in
    let rows = rows_found named rest words m c.in-Some.options.now is entered (search rules) in
    let same = c.subcommand_named.ensures named name in
    let (options, has, by) = (taken_by named rest asked asks).1 c.in-Some.options.now rows in
    answered c.asked_found.result asked _ (c.asked_found.ensures.taken options asked has (ap (λ n. asked_by n options) same ∙ by))
