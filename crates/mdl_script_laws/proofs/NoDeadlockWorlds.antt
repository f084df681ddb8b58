-- Line by line, a script leaves a world without a deadlock.
use Rattle.std.proofs.Common.{ℕ, ◌≤◌, [], ◌∷◌, length, refl, sym, subst, arith}
use Rattle.std.specs.Prelude.{codes}
use Rattle.std.proofs.lemmas.List.{length-replicate}
use Rattle.mdl_key.specs.Keys.{schema_key}
use Rattle.mdl_calls.specs.Words.{Answer, At_place, Granted, Settle_timeout, Program, Give, Ask, EachCall, outcome_of}
use Rattle.mdl_core.specs.CoreCalls.{outcome}
use Rattle.mdl_core.specs.CoreSystems.{system_of}
use Rattle.mdl_core.specs.Cores.{Core, empty_core}
use Rattle.mdl_core.specs.RunLaws.{IsMadeFor}
use Rattle.mdl_core.specs.Seats.{empty_seat}
use Rattle.mdl_system.specs.Deadlocks.{HasNoDeadlock}
use Rattle.mdl_key.specs.Words.{most_places, most_sessions}
use Rattle.mdl_lines.specs.Sessions.{IsScriptSession}
use Rattle.mdl_rows.specs.Endings.{Pause}
use Rattle.mdl_rows.specs.Playing.{going_on, starting}
use Rattle.mdl_rows.specs.Sessions.{Session}
use Rattle.mdl_script.specs.Worlds.{World, create_at, create_first_schema, creating, first_world, played, player_at}
use Rattle.mdl_script.proofs.PlayLemmas.{SpeakForAll}
use Rattle.mdl_script.proofs.SettleLemmas.{read-sessions}
use Rattle.mdl_script.proofs.SoundLemmas.{IsStaffed, first-session, made-creating, speak-empty, staffed-first}
use Rattle.mdl_script_laws.specs.NoDeadlocks.{NoDeadlockStands}
use Rattle.mdl_script_laws.proofs.NoDeadlockCalls.{IsCalm, IsQuiet}
use Rattle.mdl_script_laws.proofs.NoDeadlockPrograms.{calm-quiet}
use Rattle.mdl_script_laws.proofs.NoDeadlockRows.{IsCalmFor, rows_calm}
use Rattle.mdl_script_laws.proofs.ScriptLemmas.{Anything, Keeps, kept-lines}

-- a space has no more sessions than searches are made at once, and there is no deadlock in it
abbrev IsCalmSpace : Core → Type 0
IsCalmSpace core = (length core.seats ≤ 1024) × HasNoDeadlock (system_of core)

-- so it is by each session, and back by any
calm-by : (core : Core) (who : ℕ) → IsScriptSession who → SpeakForAll core → IsCalmSpace core → IsCalm who core
calm-by core who is speaks calm = record { managed = record { speaks = speaks who is.0 is.1; few = calm.0 }; free = calm.1 }

calm-from : (core : Core) (who : ℕ) → IsCalm who core → IsCalmSpace core
calm-from core who calm = (calm.managed.few, calm.free)

-- ---- statements

calm-played : (line who : ℕ) (program : Session → Program Pause) (world : World) → IsScriptSession who → IsStaffed world
    → ((session : Session) → IsCalmFor session.context.who (program session))
    → IsCalmSpace world.core → IsCalmSpace (played line who (program (player_at who world).session) world).world.core
calm-played line who program world is staffed leaves calm =
    let session = (player_at who world).session in
    calm-from (outcome_of outcome (program session) world.core).1 session.context.who
    (leaves session world.core (subst (λ w. IsCalm w world.core) (sym (staffed.named who is)) (calm-by world.core who is staffed.speaks calm)))

-- calls of one session by which no wait begins
calm-calls : (who : ℕ) (program : Program (Unit {0})) (core : Core) → IsScriptSession who → SpeakForAll core → EachCall (IsMadeFor who) program
    → EachCall IsQuiet program
    → IsCalmSpace core → IsCalmSpace (outcome_of outcome program core).1
calm-calls who program core is speaks made quiet calm =
    calm-from (outcome_of outcome program core).1 who (calm-quiet who program made quiet core (calm-by core who is speaks calm))

keeps-calm : Keeps (λ world. IsCalmSpace world.core) Anything
keeps-calm = record {
  starts = λ line world is free staffed calm.
      calm-played line.number line.session (λ session. starting line.statement session) world is staffed (λ session. (rows_calm session).1 line.statement) calm;
  goes = λ who world found staffed calm. (
    calm-played (player_at who world).line who (λ session. going_on session) world (first-session world who found) staffed (λ session. (rows_calm session).2) calm,
    λ k d inside. tt,
  );
  ends = λ who world is staffed calm.
      calm-calls who (Ask (Settle_timeout who) (λ _. Give tt)) world.core is staffed.speaks (refl, λ _. tt) (λ answer session. refl, λ _. tt) calm;
}

-- ---- the world at first

quiet-under : (place : ℕ) (answer : Answer) → EachCall IsQuiet (create_first_schema place answer)
quiet-under place (Granted id) = (λ answer session. refl, λ _. (λ answer session. refl, λ _. (λ answer session. refl, λ _. tt)))
quiet-under place _ = tt

quiet-at : (answer : Answer) → EachCall IsQuiet (create_at answer)
quiet-at (At_place place) = (λ answer session. refl, quiet-under place)
quiet-at _ = tt

-- nobody waits in the empty space
free-empty : HasNoDeadlock (system_of (empty_core most_places most_sessions))
free-empty from cycle ([], same, distinct, waits) = let among = waits.1.2.0.1 in absurd (omega arith)
free-empty from cycle (next ∷ rest, same, distinct, waits) = let among = waits.0.1.2.0.1 in absurd (omega arith)

calm-first : IsCalmSpace first_world.core
calm-first =
    calm-calls 1 (creating (schema_key (codes "test"))) (empty_core most_places most_sessions) (omega arith, omega arith) speak-empty (made-creating (schema_key (codes "test")))
    (λ answer session. refl, quiet-at) (omega (arith, length-replicate most_sessions empty_seat), free-empty)

-- ---- scripts

pub no_deadlock : NoDeadlockStands
no_deadlock text lines read n =
    (kept-lines (λ world. IsCalmSpace world.core) Anything keeps-calm n lines first_world (read-sessions text lines read)
    (record { staffed = staffed-first; so = calm-first })).so.1
