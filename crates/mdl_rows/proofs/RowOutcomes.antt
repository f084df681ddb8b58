-- What comes of statements over the space of one thread.
use Rattle.mdl_calls.specs.Words.{EachCall, IsFaithful, Program}
use Rattle.mdl_core.specs.RunLaws.{IsMadeFor}
use Rattle.mdl_core.proofs.RunOutcomes.{sure-run, outcomes-are_runs}
use Rattle.mdl_context.specs.MemoryLaws.{IsSureUnless}
use Rattle.mdl_rows.specs.Endings.{Pause}
use Rattle.mdl_rows.specs.MemoryLaws.{EachPlay, IsFault, KeepsSpaceSound, SureStatements, StatementsKeepSpaceSound}
use Rattle.mdl_rows.specs.Sessions.{Session}
use Rattle.mdl_rows.proofs.RowCalls.{rows_call}
use Rattle.mdl_rows.proofs.RowMemory.{rows_tell}

-- what follows for one program from what is so of it, follows for all statements
each_weaker : (P Q : Session → Program Pause → Type 0) → ((session : Session) (program : Program Pause) → P session program → Q session program) →
    EachPlay P → EachPlay Q
each_weaker P Q so each session =
    let (play, start, rest) = each session in
    (λ asked mark. so session _ (play asked mark), λ statement. so session _ (start statement), so session _ rest)

pub sure_rows : SureStatements
sure_rows =
    each_weaker (λ session program. IsFaithful IsFault program) (λ session program. IsSureUnless IsFault program)
    (λ session program faithful a b reply run sound. sure-run {A = Pause} IsFault program a b reply faithful sound run) rows_tell

-- a program whose calls are made for a session or for nobody
keeps_sound : (session : Session) (program : Program Pause) → EachCall (IsMadeFor session.context.who) program → KeepsSpaceSound session program
keeps_sound session program made a speaks =
    let (run, others) = outcomes-are_runs Pause program a session.context.who speaks made in
    (run, (others session.context.who speaks).1, others)

pub rows_keep_sound : StatementsKeepSpaceSound
rows_keep_sound = each_weaker (λ session program. EachCall (IsMadeFor session.context.who) program) KeepsSpaceSound keeps_sound rows_call
