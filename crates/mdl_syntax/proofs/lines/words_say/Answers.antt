-- What refuses the statement refuses the line.
use Rattle.std.proofs.Common.{ℕ, List, Option, Some, Result, Ok, Err, sym, subst}
use Rattle.mdl_lines.specs.declared.fault.LineError.{LineError}
use Rattle.mdl_lines.specs.declared.fault.LineError.TheVariants.{BadSession}
use Rattle.mdl_lines.specs.Lines.{words_of}
use Rattle.mdl_syntax.specs.declared.script.Line.{Line}
use Rattle.mdl_syntax.specs.declared.statement.Statement.{Statement}
use Rattle.mdl_syntax.specs.Forms.{and_then, or_refuse, statement_of}
use Rattle.mdl_syntax.specs.Reading.{ReadsAs}
use Rattle.mdl_syntax.specs.Scripts.{words_say}
use Rattle.mdl_syntax.proofs.Reading.{line-refused}
use Rattle.mdl_syntax.proofs.lines.words_say.Goals as goal

pub returns-in-Err : goal.returns-in-Err
returns-in-Err c =
    let said : Result Statement LineError = statement_of (words_of c.in-Some.rest.now) in
    let line : ℕ → Statement → Option Line = λ session statement. Some (record { number = c.args.number; session = session; statement = statement }) in
    subst (λ (words : List (List ℕ)). ReadsAs (words_say c.args.number words) (Err c.in-Err.none)) (sym c.in-Some.ensures.word)
    (subst (λ (session : Option ℕ). ReadsAs (and_then (or_refuse BadSession session) (λ number. and_then said (λ statement. Ok (line number statement)))) (Err c.in-Err.none)) c.in-Some-session_of.ensures
    (line-refused said (line c.in-Some-session_of.session) c.in-Err.none (subst (λ read. ReadsAs said read) c.in-Err.is c.statement_of.ensures)))
