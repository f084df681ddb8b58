-- `program` is the command that `CommandWords` speaks of, so what clap says of a parse says which words were taken.
use Rattle.std.proofs.Common.{drop, map, subst, sym}
use Rattle.clap.specs.Words.{app_of}
use Rattle.mdlsim.specs.CommandLine.{Asks}
use Rattle.clap.proofs.TakesLemmas.{passed_up}
use Rattle.mdlsim.proofs.CommandWords.{asks, taken}
use Rattle.mdlsim.proofs.FoundRuns.{finds}
use Rattle.mdlsim.proofs.command_line.command.Goals as goal

pub returns-in_err-matches-clause-taken : goal.returns-in_err-matches-clause-taken
returns-in_err-matches-clause-taken g c run asked =
    let words = map g.S.AsStr.text c.args.words.now in
    let takes = taken (app_of c.in_ok-program.field-0) words run c.in_ok-program.ensures asked in
    passed_up c.from_residual-in_err-matches.result _ _ c.from_residual-in_err-matches.ensures.1 (c.in_err-matches.ensures.passes takes)

pub run_found-requires : goal.run_found-requires
run_found-requires g c =
    let words = map g.S.AsStr.text c.args.words.now in
    let asked = asks (app_of c.in_ok-program.field-0) words c.in_ok-program.ensures c.in_ok-matches.ensures.kinds in
    (asked.0, finds (app_of c.in_ok-program.field-0) words asked.0 c.in_ok-matches.matches c.in_ok-program.ensures asked.1 c.in_ok-matches.ensures.matches)

pub returns-clause-asked : goal.returns-clause-asked
returns-clause-asked g c =
    let words = map g.S.AsStr.text c.args.words.now in
    let asked = asks (app_of c.in_ok-program.field-0) words c.in_ok-program.ensures c.in_ok-matches.ensures.kinds in
    let found = finds (app_of c.in_ok-program.field-0) words asked.0 c.in_ok-matches.matches c.in_ok-program.ensures asked.1 c.in_ok-matches.ensures.matches in
    subst (Asks (drop 1 words)) (sym (c.run_found.ensures asked.0 found)) asked.1
