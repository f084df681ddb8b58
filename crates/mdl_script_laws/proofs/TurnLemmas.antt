-- The turns after a line are always enough: with each of them the locks that are left to ask for become fewer.
use Rattle.std.proofs.Common.{◌≡◌, ℕ, zero, suc, ◌<◌, ◌≤◌, ◌-◌, ◌*◌, Bool, true, false, cond, List, [], ◌∷◌, length, get_or, set, take, replicate, Option, Some, None, Result, Ok, refl, subst, ap, ◌∙◌, sym, arith}
use Rattle.std.specs.Prelude.{IfOk, codes, is_some}
use Rattle.std.specs.List.{All, find, sum_by}
use Rattle.std.proofs.lemmas.List.{get_or-set_other, get_or-set_same, get_or-replicate, length-set, length-replicate}
use Rattle.std.proofs.lemmas.List.Elements.{All-cons, All-nil, All-replicate, All-set, All-take}
use Rattle.std.proofs.lemmas.List.Sums.{sum_by-le, sum_by-set}
use Rattle.mdl_book.proofs.TicketLemmas.{find-passes}
use Rattle.mdl_key.specs.Keys.{schema_key}
use Rattle.mdl_calls.specs.Words.{Program, Settle_timeout, outcome_of}
use Rattle.mdl_core.specs.CoreCalls.{has_settled, outcome}
use Rattle.mdl_core.specs.Cores.{empty_core}
use Rattle.mdl_key.specs.Words.{most_places, most_sessions}
use Rattle.mdl_lines.specs.declared.fault.LineError.{LineError}
use Rattle.mdl_lines.specs.Lines.{lines_of}
use Rattle.mdl_lines.specs.Sessions.{IsScriptSession}
use Rattle.mdl_syntax.specs.declared.script.Line.{Line}
use Rattle.mdl_syntax.specs.Laws.{IsWithinLimits}
use Rattle.mdl_syntax.specs.Scripts.{parsed}
use Rattle.mdl_syntax.proofs.LawLemmas.{lines_say-limited}
use Rattle.mdl_context.specs.Contexts.{current_mark}
use Rattle.mdl_rows.specs.Endings.{Pause}
use Rattle.mdl_rows.specs.MemoryLaws.{session_of_pause}
use Rattle.mdl_rows.specs.Playing.{going_on, starting}
use Rattle.mdl_rows.specs.Sessions.{Left}
use Rattle.mdl_rows.specs.Statements.{row_of}
use Rattle.mdl_script.specs.Worlds.{Player, Scene, World, after_timeout, ask_session, continuing_settled, creating, first_settled, first_world, going, line_played, most_turns, most_waits, played, player_at, script_played, session_waits, started, waiting_in}
use Rattle.mdl_script.proofs.PlayLemmas.{waiting-sessions}
use Rattle.mdl_script.proofs.ListLemmas.{All-find}
use Rattle.mdl_script.proofs.SettleLemmas.{settling-none, settling-over, settling-some}
use Rattle.mdl_script.proofs.SoundLemmas.{IsStaffed, first-session, staffed-first, staffed-going, staffed-started, staffed-timed_out}
use Rattle.mdl_script_laws.specs.Turns.{AsksForAtMost, MoreTurnsDoNothing, NobodyIsLeftSettled, TurnsSuffice, most_locks, most_locks_of}
use Rattle.mdl_script_laws.proofs.ScriptLemmas.{asked-by, lines-by, new-session, plays-each}
use Rattle.mdl_script_laws.proofs.TurnPlaces.{HasFewPlaces, by-outcome, few-call, few-outcome}
use Rattle.mdl_script_laws.proofs.TurnPlays.{IsLeftWithin, PausesWithin, left-within, within-going, within-play}
use Rattle.mdl_script_laws.proofs.TurnRows.{few-locks}

-- what a session may still ask for: the locks, and the line of its last statement
pub record Due : Type 0 where
  pub line : ℕ
  pub locks : ℕ

abbrev pub nothing_due : Due
nothing_due = record { line = 0; locks = 0 }

-- all sessions are there, and what is left of each one's statement is within its dues; none are greater than those of a statement
pub record IsBounded (dues : List Due) (world : World) : Type 0 where
  pub staffed : IsStaffed world
  pub places : HasFewPlaces world.core
  pub all : length dues ≡ most_sessions
  pub few : All (λ due. due.locks ≤ most_waits) dues
  pub lines : (who : ℕ) → IsScriptSession who → (get_or dues (who - 1) nothing_due).line ≡ (player_at who world).line
  pub within : (who : ℕ) → IsScriptSession who → IsLeftWithin (get_or dues (who - 1) nothing_due).locks (player_at who world).session.left

-- a line as it is read
abbrev pub IsRead : Line → Type 0
IsRead line = IsScriptSession line.session × IsWithinLimits line.statement

-- the locks that may still be asked for
abbrev total : List Due → ℕ
total dues = sum_by (λ due. due.locks) dues

-- ---- statements

-- a program of a session is played, and what is left of its statement is within new dues
bounded-played : (line who n : ℕ) (program : Program Pause) (world : World) (dues : List Due) → IsScriptSession who → n ≤ most_waits
    → IsStaffed (played line who program world).world → PausesWithin n (outcome_of outcome program world.core).0 → IsBounded dues world
    → IsBounded (set dues (who - 1) (record { line = line; locks = n })) (played line who program world).world
bounded-played line who n program world dues is most staffed here bounded = record {
  staffed = staffed;
  places = few-outcome program world.core bounded.places;
  all = length-set dues (who - 1) new ∙ bounded.all;
  few = All-set (λ due. due.locks ≤ most_waits) dues (who - 1) new most bounded.few;
  lines = λ w session. (each w session).0;
  within = λ w session. (each w session).1;
} where
  next : Player
  next = record { session = session_of_pause (outcome_of outcome program world.core).0; line = line }

  new : Due
  new = record { line = line; locks = n }

  Fits : Due → Player → Type 0
  Fits due player = (due.line ≡ player.line) × IsLeftWithin due.locks player.session.left

  among : who - 1 < length dues
  among = let all = bounded.all in omega (arith, is.0, is.1, all)

  each : (w : ℕ) → IsScriptSession w → Fits (get_or (set dues (who - 1) new) (w - 1) nothing_due) (player_at w (played line who program world).world)
  each =
      plays-each line who program world is bounded.staffed (λ w player. Fits (get_or (set dues (who - 1) new) (w - 1) nothing_due) player)
      (subst (λ (due : Due). Fits due next) (sym (get_or-set_same dues (who - 1) new nothing_due among))
      (refl, left-within n (outcome_of outcome program world.core).0 here))
      (λ w there apart. subst (λ (due : Due). Fits due (player_at w world))
      (sym (get_or-set_other dues (who - 1) (w - 1) new nothing_due (λ e. apart (omega (arith, e, is.0, there.0)))))
      (bounded.lines w there, bounded.within w there))

-- how far a statement comes that a session starts
pub pauses-started : (line : Line) (world : World) → HasFewPlaces world.core
    → PausesWithin (most_locks_of line.statement) (outcome_of outcome (starting line.statement (player_at line.session world).session) world.core).0
pauses-started line world few =
    let session = (player_at line.session world).session in
    let most = most_locks_of line.statement in
    by-outcome (PausesWithin most) (starting line.statement session) world.core few
    (within-play most (row_of line.statement) (current_mark session.context.kept) session (few-locks line.statement).0)

pub bounded-started : (line : Line) (world : World) (dues : List Due) → IsRead line → IsBounded dues world
    → IsBounded (set dues (line.session - 1) (record { line = line.number; locks = most_locks_of line.statement })) (started line world).world
bounded-started line world dues read bounded =
    let few : most_locks_of line.statement ≤ most_locks = (few-locks line.statement).1 read.1 in
    bounded-played line.number line.session (most_locks_of line.statement) (starting line.statement (player_at line.session world).session) world dues read.0
    (omega (arith, few)) (staffed-started line world read.0 bounded.staffed) (pauses-started line world bounded.places) bounded

-- ---- turns

-- whoever comes to its turn waits, and its wait is settled
pub found-waits : (world : World) (who : ℕ) → first_settled world ≡ Some who → session_waits world who ≡ true
found-waits world who found =
    let P : ℕ → Type 0 = λ w. session_waits world w ≡ true in
    All-find P (has_settled world.core) (waiting_in world) who (waiting-sessions P world (λ w session waits. waits)) found

pub found-settled : (world : World) (who : ℕ) → IsStaffed world → first_settled world ≡ Some who
    → has_settled world.core (player_at who world).session.context.who ≡ true
found-settled world who staffed found =
    subst (λ w. has_settled world.core w ≡ true) (sym (staffed.named who (first-session world who found)))
    (find-passes (has_settled world.core) (waiting_in world) who found)

-- so it has something left
something-left : (most : ℕ) (left : Option Left) → is_some left ≡ true → IsLeftWithin most left
    → (its : Left) × (fewer : ℕ) × (left ≡ Some its) × (most ≡ suc fewer) × ((id : ℕ) → AsksForAtMost fewer (its.rest id))
something-left most None waits is = cc
something-left most (Some its) waits is = (its, is.0, refl, is.1, is.2)

-- a session's turn: it goes on, and then it may ask for one lock less
pub record Turn (world : World) (dues : List Due) (who : ℕ) : Type 0 where
  pub fewer : ℕ
  pub among : who - 1 < length dues
  pub line : (get_or dues (who - 1) nothing_due).line ≡ (player_at who world).line
  pub locks : (get_or dues (who - 1) nothing_due).locks ≡ suc fewer
  pub pauses : PausesWithin fewer (outcome_of outcome (going_on (player_at who world).session) world.core).0
  pub bounded : IsBounded (set dues (who - 1) (record { line = (player_at who world).line; locks = fewer })) (going who world).world

pub turn-going : (world : World) (dues : List Due) (who : ℕ) → first_settled world ≡ Some who → IsBounded dues world → Turn world dues who
turn-going world dues who found bounded = record {
  fewer = fewer;
  among = among;
  line = bounded.lines who is;
  locks = its.3;
  pauses = pauses;
  bounded = bounded-played player.line who fewer (going_on player.session) world dues is least (staffed-going who world is bounded.staffed) pauses bounded;
} where
  player : Player
  player = player_at who world

  is : IsScriptSession who
  is = first-session world who found

  its : (its : Left) × (fewer : ℕ) × (player.session.left ≡ Some its) × ((get_or dues
      (who - 1) nothing_due).locks ≡ suc fewer) × ((id : ℕ) → AsksForAtMost fewer (its.rest id))
  its = something-left (get_or dues (who - 1) nothing_due).locks player.session.left (found-waits world who found) (bounded.within who is)

  fewer : ℕ
  fewer = its.1

  pauses : PausesWithin fewer (outcome_of outcome (going_on player.session) world.core).0
  pauses = within-going fewer player.session its.0 world.core bounded.places its.2 its.4 (found-settled world who bounded.staffed found)

  among : who - 1 < length dues
  among = let all = bounded.all in omega (arith, is.0, is.1, all)

  least : fewer ≤ most_waits
  least = let most = bounded.few (who - 1) nothing_due among in let more = its.3 in omega (arith, most, more)

-- so all together may ask for fewer
total-falls : (world : World) (dues : List Due) (who : ℕ) → (turn : Turn world dues who)
    → total (set dues (who - 1) (record { line = (player_at who world).line; locks = turn.fewer })) < total dues
total-falls world dues who turn =
    let sums = sum_by-set (λ (due : Due). due.locks) dues (who - 1) (record { line = (player_at who world).line; locks = turn.fewer }) nothing_due turn.among in
    let more = turn.locks in
    omega (arith, sums, more)

-- a world in which nobody's turn has come, whatever may still be asked for
record IsAtRest (world : World) : Type 0 where
  dues : List Due
  bounded : IsBounded dues world
  none : first_settled world ≡ None

-- where nothing may be asked for any more, nobody waits
none-left : (world : World) (dues : List Due) → IsBounded dues world → total dues ≤ 0 → first_settled world ≡ None
none-left world dues bounded done = by (first_settled world) refl where
  by : (first : Option ℕ) → first_settled world ≡ first → first ≡ None
  by None found = refl
  by (Some who) found = let falls = total-falls world dues who (turn-going world dues who found bounded) in absurd (omega (arith, falls, done))

-- one turn, and what follows
rests-turn : (n : ℕ) (world : World) (dues : List Due) (first : Option ℕ) → first_settled world ≡ first → IsBounded dues world → total dues ≤ suc n
    → ((after : World) (left : List Due) → IsBounded left after → total left ≤ n → IsAtRest (continuing_settled n after).world) → IsAtRest (continuing_settled (suc n) world).world
rests-turn n world dues None found bounded less rest =
    let at : IsAtRest world = record { dues = dues; bounded = bounded; none = found } in
    subst (λ (scene : Scene). IsAtRest scene.world) (sym (settling-none (suc n) world found)) at
rests-turn n world dues (Some who) found bounded less rest =
    let turn = turn-going world dues who found bounded in
    let falls = total-falls world dues who turn in
    let next = set dues (who - 1) (record { line = (player_at who world).line; locks = turn.fewer }) in
    subst (λ (scene : Scene). IsAtRest scene.world) (sym (settling-some (suc n) n world who refl found))
    (rest (going who world).world next turn.bounded (omega (arith, falls, less)))

-- as many turns as locks may still be asked for are enough
rests-settling : (n : ℕ) (world : World) (dues : List Due) → IsBounded dues world → total dues ≤ n → IsAtRest (continuing_settled n world).world
rests-settling zero world dues bounded less =
    let at : IsAtRest world = record { dues = dues; bounded = bounded; none = none-left world dues bounded less } in
    subst (λ (scene : Scene). IsAtRest scene.world) (sym (settling-over world)) at
rests-settling (suc n) world dues bounded less =
    rests-turn n world dues (first_settled world) refl bounded less (λ after left there fewer. rests-settling n after left there fewer)

-- ---- lines

pub bounded-timed_out : (who : ℕ) (world : World) (dues : List Due) → IsScriptSession who → IsBounded dues world → IsBounded dues (after_timeout who world)
bounded-timed_out who world dues is bounded = record {
  staffed = staffed-timed_out who world is bounded.staffed;
  places = few-call (Settle_timeout who) world.core bounded.places;
  all = bounded.all;
  few = bounded.few;
  lines = bounded.lines;
  within = bounded.within;
}

bounded-asked : (line : Line) (world : World) (dues : List Due) → IsRead line → IsBounded dues world → (after : List Due) × IsBounded after (ask_session line world).world
bounded-asked line world dues read bounded =
    asked-by (λ scene. (after : List Due) × IsBounded after scene.world) line world (dues, bounded-timed_out line.session world dues read.0 bounded)
    (dues, bounded) (λ free. (_, bounded-started line world dues read bounded))

rests-line : (line : Line) (world : World) → IsRead line → IsAtRest world → IsAtRest (line_played line world).world
rests-line line world read rest =
    let begun = bounded-asked line world rest.dues read rest.bounded in
    let most = sum_by-le (λ (due : Due). due.locks) most_waits begun.0 begun.1.few in
    let all = begun.1.all in
    let count : total begun.0 ≤ most_turns = subst (λ k. total begun.0 ≤ k * most_waits) all most in
    rests-settling most_turns (ask_session line world).world begun.0 begun.1 count

-- ---- scripts

few-first : HasFewPlaces first_world.core
few-first = few-outcome (creating (schema_key (codes "test"))) (empty_core most_places most_sessions) (record { books = omega arith; most = omega arith })

pub bounded-first : IsBounded (replicate most_sessions nothing_due) first_world
bounded-first = record {
  staffed = staffed-first;
  places = few-first;
  all = length-replicate {A = Due} most_sessions nothing_due;
  few = All-replicate (λ (due : Due). due.locks ≤ most_waits) most_sessions nothing_due (omega arith);
  lines = λ who is. rw (new-session who is) (ap (λ (due : Due). due.line) (get_or-replicate most_sessions (who - 1) nothing_due nothing_due (omega (arith, is.0, is.1))));
  within = λ who is.
      subst (λ (p : Player). IsLeftWithin (get_or (replicate most_sessions nothing_due) (who - 1) nothing_due).locks p.session.left) (sym (new-session who is)) tt;
}

rests-first : IsAtRest first_world
rests-first = record {
  dues = replicate most_sessions nothing_due;
  bounded = bounded-first;
  none = none-left first_world (replicate most_sessions nothing_due) bounded-first
      (omega arith);
}

-- the lines that were read are of sessions that a script can name, and their statements are within the limits
pub read-limits : (text : List ℕ) (lines : List Line) → parsed text ≡ Ok lines → All IsRead lines
read-limits text lines read =
    subst (λ (said : Result (List Line) (ℕ × LineError)). IfOk said (All IsRead)) read
    (lines_say-limited 1 (lines_of text))

rests-throughout : (text : List ℕ) (lines : List Line) → parsed text ≡ Ok lines → (n : ℕ) → IsAtRest (script_played (take n lines)).world
rests-throughout text lines read n =
    lines-by IsRead IsAtRest rests-line (take n lines) first_world (All-take IsRead n lines (read-limits text lines read)) rests-first

pub turns-suffice : TurnsSuffice
turns-suffice text lines read n = (rests-throughout text lines read n).none

pub more-nothing : MoreTurnsDoNothing
more-nothing text lines read n turns = settling-none turns (script_played (take n lines)).world (turns-suffice text lines read n)

-- what isn't found passes nowhere
none-passes : (p : ℕ → Bool) (xs : List ℕ) → find p xs ≡ None → All (λ x. p x ≡ false) xs
none-passes p [] none = All-nil (λ x. p x ≡ false)
none-passes p (x ∷ xs) none =
    elim (p x) as (λ b. p x ≡ b → cond b (Some x) (find p xs) ≡ None → All (λ x. p x ≡ false) (x ∷ xs)) [
      | true ↦ λ passes e. cc
      | false ↦ λ fails e. All-cons (λ x. p x ≡ false) x xs fails (none-passes p xs e)
    ] refl none

pub nobody-left : NobodyIsLeftSettled
nobody-left text lines read n = let world = (script_played (take n lines)).world in none-passes (has_settled world.core) (waiting_in world)
    (turns-suffice text lines read n)
