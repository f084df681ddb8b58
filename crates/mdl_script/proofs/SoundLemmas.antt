-- After each line the space of a script is sound, and speaks for all its sessions.
use Rattle.std.proofs.Common.{◌≡◌, ◌≢◌, ℕ, zero, suc, ◌<◌, ◌-◌, true, false, List, [], ◌∷◌, length, set, take, Option, Some, None, Result, Ok, Err, ◌⊎◌, inl, inr, refl, sym, ap, ◌∙◌, subst, arith}
use Rattle.std.specs.Prelude.{codes, if◌then◌else◌}
use Rattle.std.proofs.lemmas.Bool.Decides.{nat_tests}
use Rattle.std.proofs.lemmas.List.{length-replicate}
use Rattle.mdl_core.specs.Seats.{empty_seat}
use Rattle.mdl_syntax.specs.Scripts.{parsed}
use Rattle.mdl_script.specs.Output.{NeverForgets, StaysLawful}
use Rattle.mdl_script.proofs.SettleLemmas.{read-sessions}
use Rattle.std.specs.Option.{IfSome}
use Rattle.std.specs.List.{All}
use Rattle.std.proofs.Math.Dec.{eqb}
use Rattle.std.proofs.lemmas.Bool.Decides.{eqb_tells}
use Rattle.std.proofs.lemmas.List.{get_or-set_other, get_or-set_same, length-set}
use Rattle.std.proofs.lemmas.List.Elements.{All-head, All-tail}
use Rattle.std.proofs.lemmas.List.FromFn.{get_or-map-range_with_len, length-map-range_with_len}
use Rattle.mdl_calls.specs.Words.{Answer, At_place, Granted, Settle_timeout, Program, Give, Ask, Each, EachCall, Runs, outcome_of}
use Rattle.mdl_calls.proofs.FaithfulLemmas.{each_reply}
use Rattle.mdl_core.specs.CoreCalls.{has_settled, outcome}
use Rattle.mdl_core.specs.CoreJoins.{Joins, SpeaksFor}
use Rattle.mdl_core.specs.Cores.{Core, empty_core}
use Rattle.mdl_core.specs.RunLaws.{IsMadeFor}
use Rattle.mdl_core.specs.Ties.{IsSoundCore}
use Rattle.mdl_core.proofs.CoreSound.{empty-sound}
use Rattle.mdl_core.proofs.RunOutcomes.{outcomes-are_runs}
use Rattle.mdl_key.specs.Keys.{KeyName, schema_key}
use Rattle.mdl_key.specs.Words.{most_places, most_sessions}
use Rattle.mdl_lines.specs.declared.fault.LineError.{LineError}
use Rattle.mdl_lines.specs.Sessions.{IsScriptSession}
use Rattle.mdl_syntax.specs.declared.script.Line.{Line}
use Rattle.mdl_syntax.specs.declared.statement.Statement.{Statement}
use Rattle.mdl_syntax.specs.declared.statement.Statement.TheVariants.{Timeout}
use Rattle.mdl_rows.specs.Endings.{Pause}
use Rattle.mdl_rows.specs.MemoryLaws.{KeepsSpaceSound, session_of_pause}
use Rattle.mdl_rows.specs.Playing.{going_on, starting}
use Rattle.mdl_rows.specs.Sessions.{Session}
use Rattle.mdl_rows.proofs.RowCalls.{rows_keep_number}
use Rattle.mdl_rows.proofs.RowOutcomes.{rows_keep_sound}
use Rattle.mdl_script.specs.Worlds.{Player, Scene, World, after_timeout, ask_session, asked_waiting, continuing_settled, create_at, create_first_schema, creating, first_core, first_settled, first_world, going, going_first, line_played, lines_played, most_turns, played, player_at, script_played, session_waits, sessions, started, unasked_player, waiting_in}
use Rattle.mdl_script.proofs.PlayLemmas.{SpeakForAll, waiting-sessions}
use Rattle.mdl_script.proofs.ListLemmas.{All-find}

-- all sessions are there, each with its own number, and the space speaks for them
pub record IsStaffed (world : World) : Type 0 where
  pub all : length world.players ≡ most_sessions
  pub named : (who : ℕ) → IsScriptSession who → (player_at who world).session.context.who ≡ who
  pub speaks : SpeakForAll world.core

-- ---- statements

-- a program of a session leaves all sessions there
staffed-played : (line who : ℕ) (program : Session → Program Pause) (world : World) → IsScriptSession who
    → ((session : Session) → KeepsSpaceSound session (program session))
    → ((session : Session) → Each (λ pause. (session_of_pause pause).context.who ≡ session.context.who) (program session))
    → IsStaffed world → IsStaffed (played line who (program (player_at who world).session) world).world
staffed-played line who program world is keeps names staffed = record {
  all = length-set world.players (who - 1) next ∙ staffed.all;
  named = λ w session. by w session (eqb_tells w who);
  speaks = λ w least most. kept.2 w (staffed.speaks w least most);
} where
  session : Session
  session = (player_at who world).session

  mine : session.context.who ≡ who
  mine = staffed.named who is

  end : Pause × Core
  end = outcome_of outcome (program session) world.core

  next : Player
  next = record { session = session_of_pause end.0; line = line }

  kept : Runs Joins world.core (program session) end.0 end.1 × IsSoundCore end.1 × ((w : ℕ) → SpeaksFor world.core w → SpeaksFor end.1 w)
  kept = keeps session world.core (subst (SpeaksFor world.core) (sym mine) (staffed.speaks who is.0 is.1))

  own : (session_of_pause end.0).context.who ≡ session.context.who
  own = each_reply Joins (λ pause. (session_of_pause pause).context.who ≡ session.context.who) (program session) world.core end.1 end.0 (names session) kept.0

  inside : who - 1 < length world.players
  inside = subst (λ n. who - 1 < n) (sym staffed.all) (omega (arith, is.0, is.1))

  by : (w : ℕ) → IsScriptSession w → ((eqb w who ≡ true) × (w ≡ who)) ⊎ ((eqb w who ≡ false) × (w ≢ who))
      → (player_at w (record { core = end.1; players = set world.players (who - 1) next })).session.context.who ≡ w
  by w there (inl same) =
      let P : ℕ → Type 0 = λ k. (player_at k (record { core = end.1; players = set world.players (who - 1) next })).session.context.who ≡ k in
      subst P (sym same.1) (ap (λ (p : Player). p.session.context.who) (get_or-set_same world.players (who - 1) next (unasked_player who) inside) ∙ own ∙ mine)
  by w there (inr other) =
      ap (λ (p : Player). p.session.context.who) (get_or-set_other world.players (who - 1) (w - 1) next (unasked_player w) (λ e. other.1 (omega (arith, e, is.0, there.0)))) ∙ staffed.named w there

pub staffed-started : (line : Line) (world : World) → IsScriptSession line.session → IsStaffed world → IsStaffed (started line world).world
staffed-started line world is staffed =
    staffed-played line.number line.session (λ session. starting line.statement session) world is (λ session. (rows_keep_sound session).1 line.statement)
    (λ session. (rows_keep_number session).1 line.statement) staffed

pub staffed-going : (who : ℕ) (world : World) → IsScriptSession who → IsStaffed world → IsStaffed (going who world).world
staffed-going who world is staffed =
    staffed-played (player_at who world).line who (λ session. going_on session) world is (λ session. (rows_keep_sound session).2) (λ session. (rows_keep_number session).2) staffed

-- ---- patience that ends

pub staffed-timed_out : (who : ℕ) (world : World) → IsScriptSession who → IsStaffed world → IsStaffed (after_timeout who world)
staffed-timed_out who world is staffed =
    let program : Program (Unit {0}) = Ask (Settle_timeout who) (λ _. Give tt) in
    let kept = outcomes-are_runs (Unit {0}) program world.core who (staffed.speaks who is.0 is.1) (refl, λ _. tt) in
    record { all = staffed.all; named = staffed.named; speaks = λ w least most. kept.1 w (staffed.speaks w least most) }

staffed-waiting : (statement : Statement) (line who : ℕ) (world : World) → IsScriptSession who → IsStaffed world → IsStaffed (asked_waiting statement line who world).world
staffed-waiting Timeout line who world is staffed = staffed-timed_out who world is staffed
staffed-waiting _ line who world is staffed = staffed

pub staffed-asked : (line : Line) (world : World) → IsScriptSession line.session → IsStaffed world → IsStaffed (ask_session line world).world
staffed-asked line world is staffed =
    elim (session_waits world line.session) as (λ waits. IsStaffed (if waits then asked_waiting line.statement line.number line.session world else started line world).world) [
      | true ↦ staffed-waiting line.statement line.number line.session world is staffed
      | false ↦ staffed-started line world is staffed
    ]

-- ---- settling

pub first-session : (world : World) (who : ℕ) → first_settled world ≡ Some who → IsScriptSession who
first-session world who found = All-find IsScriptSession (has_settled world.core) (waiting_in world) who (waiting-sessions IsScriptSession world (λ w session _. session)) found

-- one session goes on, and what follows leaves them all there too
staffed-first_going : (first : Option ℕ) (world : World) (more : World → Scene) → first_settled world ≡ first → IsStaffed world
    → ((after : World) → IsStaffed after → IsStaffed (more after).world) → IsStaffed (going_first first more world).world
staffed-first_going None world more found staffed rest = staffed
staffed-first_going (Some who) world more found staffed rest = rest (going who world).world (staffed-going who world (first-session world who found) staffed)

staffed-settling : (n : ℕ) (world : World) → IsStaffed world → IsStaffed (continuing_settled n world).world
unfolding continuing_settled
staffed-settling zero world staffed = staffed
staffed-settling (suc n) world staffed = staffed-first_going (first_settled world) world (continuing_settled n) refl staffed (λ after there. staffed-settling n after there)

-- ---- lines

staffed-line : (line : Line) (world : World) → IsScriptSession line.session → IsStaffed world → IsStaffed (line_played line world).world
staffed-line line world is staffed = staffed-settling most_turns (ask_session line world).world (staffed-asked line world is staffed)

staffed-lines : (n : ℕ) (lines : List Line) (world : World) → All (λ line. IsScriptSession line.session) lines → IsStaffed world → IsStaffed (lines_played (take n lines) world).world
staffed-lines zero lines world is staffed = staffed
staffed-lines (suc n) [] world is staffed = staffed
staffed-lines (suc n) (line ∷ lines) world is staffed =
    staffed-lines n lines (line_played line world).world (All-tail (λ line. IsScriptSession line.session) line lines is)
    (staffed-line line world (All-head (λ line. IsScriptSession line.session) line lines is) staffed)

-- ---- the world at first

made-under : (place : ℕ) (answer : Answer) → EachCall (IsMadeFor 1) (create_first_schema place answer)
made-under place (Granted id) = (refl, λ _. (refl, λ _. (refl, λ _. tt)))
made-under place _ = tt

made-at : (answer : Answer) → EachCall (IsMadeFor 1) (create_at answer)
made-at (At_place place) = (refl, made-under place)
made-at _ = tt

pub made-creating : (schema : KeyName) → EachCall (IsMadeFor 1) (creating schema)
made-creating schema = (refl, made-at)

pub speak-empty : SpeakForAll (empty_core most_places most_sessions)
speak-empty who least most = (grind (arith, nat_tests, length-replicate most_sessions empty_seat), empty-sound most_places most_sessions)

speak-first : SpeakForAll first_core
speak-first who least most =
    let test = creating (schema_key (codes "test")) in
    (outcomes-are_runs (Unit {0}) test (empty_core most_places most_sessions) 1 (speak-empty 1 (omega arith) (omega arith)) (made-creating (schema_key (codes "test")))).1 who (speak-empty who least most)

pub staffed-first : IsStaffed first_world
unfolding sessions
staffed-first = record {
  all = length-map-range_with_len unasked_player 1 most_sessions;
  named = λ who session. ap (λ (p : Player). p.session.context.who)
      (get_or-map-range_with_len unasked_player 1 most_sessions (who - 1) who (unasked_player who) (omega (arith, session.0, session.1)) (omega (arith, session.0)));
  speaks = speak-first;
}

-- ---- scripts

sound_throughout : (lines : List Line) (n : ℕ) → All (λ line. IsScriptSession line.session) lines → IsSoundCore (script_played (take n lines)).world.core
sound_throughout lines n is = ((staffed-lines n lines first_world is staffed-first).speaks 1 (omega arith) (omega arith)).1

stays_lawful : (text : List ℕ) → StaysLawful (parsed text)
stays_lawful text = by (parsed text) refl where
  by : (said : Result (List Line) (ℕ × LineError)) → parsed text ≡ said → StaysLawful said
  by (Ok lines) read = λ n. (sound_throughout lines n (read-sessions text lines read)).lawful
  by (Err refusal) read = tt

never_forgets : (text : List ℕ) → NeverForgets (parsed text)
never_forgets text = by (parsed text) refl where
  by : (said : Result (List Line) (ℕ × LineError)) → parsed text ≡ said → NeverForgets said
  by (Ok lines) read = λ n. (sound_throughout lines n (read-sessions text lines read)).none_forgotten
  by (Err refusal) read = tt

-- and where it is known
pub stays_lawful_if : (input : Option (List ℕ)) → IfSome input (λ text. StaysLawful (parsed text))
stays_lawful_if None = tt
stays_lawful_if (Some text) = stays_lawful text

pub never_forgets_if : (input : Option (List ℕ)) → IfSome input (λ text. NeverForgets (parsed text))
never_forgets_if None = tt
never_forgets_if (Some text) = never_forgets text
