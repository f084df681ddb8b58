-- After each line a session's statement waits exactly where the session has a wait in the space.
use Rattle.std.proofs.Common.{◌≡◌, ◌≢◌, ◌⊎◌, inl, inr, ℕ, ◌-◌, Bool, true, false, take, Option, Some, None, Result, Ok, Err, refl, subst, ap, ◌∙◌, sym, arith}
use Rattle.std.specs.Prelude.{codes, if◌then◌else◌, is_some, not}
use Rattle.std.specs.List.{Contains, range_with_len}
use Rattle.std.proofs.Math.Dec.{eqb}
use Rattle.std.proofs.lemmas.Bool.Decides.{eqb_tells}
use Rattle.std.proofs.lemmas.List.{get_or-replicate}
use Rattle.std.proofs.lemmas.List.Elements.{All-contains, Contains-from_at}
use Rattle.std.proofs.lemmas.List.FromFn.{get_or-range_with_len, length-range_with_len}
use Rattle.mdl_key.specs.declared.mode.Mode.{Mode}
use Rattle.mdl_key.specs.Keys.{KeyName, schema_key}
use Rattle.mdl_calls.specs.declared.answers.Settled.{Settled}
use Rattle.mdl_calls.specs.declared.answers.Settled.TheVariants as settled_as
use Rattle.mdl_calls.specs.declared.space_error.SpaceError.{SpaceError}
use Rattle.mdl_calls.specs.Words.{Answer, At_place, Done, Granted, Lost, Is_settled, Call, End_wait, Settle_timeout, SessionLocks, Program, Give, Ask, Grow, ◌>>=◌, EachCall, outcome_of}
use Rattle.mdl_core.specs.declared.pending.Pending.{Pending}
use Rattle.mdl_core.specs.CoreCalls.{end_wait_outcome, ending_at, ending_of, has_settled, outcome, poll_wait_outcome}
use Rattle.mdl_core.specs.CoreJoins.{SpeaksFor, locks_at}
use Rattle.mdl_core.specs.Cores.{Core, empty_core, has_session, seat_at}
use Rattle.mdl_core.specs.RunLaws.{IsMadeFor}
use Rattle.mdl_core.specs.Seats.{SeatView, empty_seat, is_settled_wait, is_unsettled_wait, locks_of_seat}
use Rattle.mdl_core.proofs.CallLaws.{core-keeps, core-others}
use Rattle.mdl_core.proofs.CoreSound.{calls_keep-sound}
use Rattle.mdl_core.proofs.RunOutcomes.{outcomes-are_runs}
use Rattle.mdl_key.specs.Words.{most_places, most_sessions}
use Rattle.mdl_lines.specs.Sessions.{IsScriptSession}
use Rattle.mdl_syntax.specs.declared.script.Line.{Line}
use Rattle.mdl_context.specs.declared.kept.Wanted.{Wanted}
use Rattle.mdl_context.specs.declared.request.Resume.{Resume}
use Rattle.mdl_context.specs.declared.request.Resume.TheVariants as resume
use Rattle.mdl_context.specs.Contexts.{ContextView, current_mark, waits_for_user_lock}
use Rattle.mdl_context.specs.Requests.{Outcome}
use Rattle.mdl_context.specs.Holdings.{awaited_upgrade}
use Rattle.mdl_context.specs.MemoryLaws.{IsOwnCall}
use Rattle.mdl_context.specs.Tidying.{tidied, tidying, unneeded, unpinning_all}
use Rattle.mdl_context.specs.Upgrades as upgrades
use Rattle.mdl_context.specs.Waits as waits
use Rattle.mdl_context.specs.Waits.{resuming}
use Rattle.mdl_context.proofs.OwnCallLemmas.{calls_weaker, own_made, own_tidying, own_won}
use Rattle.mdl_rows.specs.Endings.{Pause, closing, ending_of_error, ending_of_loss}
use Rattle.mdl_rows.specs.MemoryLaws.{session_of_pause}
use Rattle.mdl_rows.specs.Playing as playing
use Rattle.mdl_rows.specs.Playing.{going_on, play, starting, with_context}
use Rattle.mdl_rows.specs.Sessions.{Left, Session}
use Rattle.mdl_rows.specs.Statements.{row_of}
use Rattle.mdl_rows.proofs.RowCalls.{rows_call}
use Rattle.mdl_script.specs.Worlds.{Player, World, after_timeout, create_at, create_first_schema, creating, first_core, first_settled, first_world, going, played, player_at, script_played, session_waits, sessions, started, waiting_in}
use Rattle.mdl_script.proofs.SettleLemmas.{read-sessions}
use Rattle.mdl_script.proofs.SoundLemmas.{IsStaffed, first-session, made-creating, speak-empty, staffed-first}
use Rattle.mdl_script_laws.specs.Turns.{StatementsWaitInTheSpace}
use Rattle.mdl_script_laws.proofs.ListLemmas.{filter-among}
use Rattle.mdl_script_laws.proofs.OutcomeLemmas.{joins-outcome, outcome-then}
use Rattle.mdl_script_laws.proofs.ScriptLemmas.{Anything, IsKept, Keeps, kept-lines, new-session, plays-each}
use Rattle.mdl_script_laws.proofs.TurnLemmas.{found-settled, found-waits, nobody-left}
use Rattle.mdl_script_laws.proofs.TurnPlays.{polls-settled, settled-wait}
use Rattle.mdl_script_laws.proofs.TurnTies.{IsTied, PausesTied, stays-unpinning, tied-closing, tied-play}
use Rattle.mdl_script_laws.proofs.TurnTracks.{Tracks, call-waits, others-outcome, tracks-outcome, tracks-then, wait_after}

-- ---- one program after another

calls-first : {A B : Type 0} (P : Call → Type 0) (first : Program A) (next : A → Program B) → EachCall P (first >>= next) → EachCall P first
calls-first P (Give x) next each = tt
calls-first P (Ask call more) next each = (each.0, λ answer. calls-first P (more answer) next (each.1 answer))
calls-first P (Grow refused found) next each = (calls-first P refused next each.0, calls-first P found next each.1)

calls-next : {S A B : Type 0} (P : Call → Type 0) (step : Call → S → Answer × S) (first : Program A) (next : A → Program B) (s : S) → EachCall P (first >>= next)
    → EachCall P (next (outcome_of step first s).0)
calls-next P step (Give x) next s each = each
calls-next P step (Ask call more) next s each = calls-next P step (more (step call s).0) next (step call s).1 (each.1 (step call s).0)
calls-next P step (Grow refused found) next s each = calls-next P step found next s each.1

-- ---- a settled wait

-- a wait has come to its end, and the session has none
abbrev IsEnded : Outcome Resume → Bool → Type 0
IsEnded (Ok resume.Waiting, context) waits = ⊥
IsEnded (Ok (resume.Acquired id), context) waits = waits ≡ false
IsEnded (Ok (resume.Lost how), context) waits = waits ≡ false
IsEnded (Err error, context) waits = waits ≡ false

abbrev IsEndAnswer : Answer → Type 0
IsEndAnswer (Granted id) = Unit {0}
IsEndAnswer (Lost how) = Unit {0}
IsEndAnswer _ = ⊥

ends-at : (who : ℕ) (its : Pending) (how : Settled) (core : Core) → IsEndAnswer (ending_at who its (Some how) core).0
ends-at who its settled_as.Granted core = tt
ends-at who its settled_as.Victim core = tt
ends-at who its settled_as.Timeout core = tt
ends-at who its settled_as.Killed core = tt

ends-of : (who : ℕ) (wait : Option Pending) (its : Pending) (how : Settled) (core : Core) → wait ≡ Some its → its.settled ≡ Some how
    → IsEndAnswer (ending_of who wait core).0
ends-of who wait its how core same settled = rw same (rw settled (ends-at who its how core))

-- where the wait is settled its end is told
ends-settled : (who : ℕ) (core : Core) → has_settled core who ≡ true → IsEndAnswer (end_wait_outcome who core).0
ends-settled who core settled =
    let it = settled-wait (has_session who core) (seat_at who core).wait settled in ends-of who (seat_at who core).wait it.0 it.1 core it.2 it.3

-- a merge begins no wait
ended-merged : (id : ℕ) (mode : Mode) (context : ContextView) (end : Result (Unit {0}) SpaceError) (waits : Bool) → waits ≡ false
    → IsEnded (upgrades.merged (resume.Acquired id) id mode context end) waits
ended-merged id mode context (Ok x) waits e = e
ended-merged id mode context (Err refusal) waits e = e

tracks-merge : (who new : ℕ) (answer : Answer) → Tracks (λ end waits. waits ≡ false) (upgrades.merge_answered who new answer) false
tracks-merge who new Done = refl
tracks-merge who new _ = λ answer is. refl

tracks-won : (upgrade : Option (ℕ × Mode)) (new : ℕ) (context : ContextView) → Tracks IsEnded (waits.wait_won upgrade new context) false
tracks-won None new context = refl
tracks-won (Some (id, mode)) new context =
    tracks-then {A = Result (Unit {0}) SpaceError} {B = Outcome Resume} (λ end waits. waits ≡ false) IsEnded (upgrades.merging_new context.who id new)
    (λ end. Give (upgrades.merged (resume.Acquired id) id mode (waits.without_wait context) end)) false (λ answer is. tracks-merge context.who new answer)
    (ended-merged id mode (waits.without_wait context))

-- nor does it begin one that a context lets go of places
tracks-lost : (how : Settled) (context : ContextView) → Tracks IsEnded (tidying (Ok (resume.Lost how), context)) false
tracks-lost how context =
    tracks-then {A = Unit {0}} {B = Outcome Resume} (λ end waits. waits ≡ false) IsEnded (unpinning_all context.who (unneeded context))
    (λ _. Give (Ok (resume.Lost how), tidied context)) false (stays-unpinning context.who (unneeded context) false) (λ end waits none. none)

-- what is left then, by the answer
ended-answered : (context : ContextView) (answer : Answer) (core : Core) (before : Bool) → SpeaksFor core context.who → IsEndAnswer answer
    → is_some (locks_at core context.who).wait ≡ wait_after (End_wait context.who) answer before
    → let end = outcome_of outcome (waits.end_answered context answer) core in IsEnded end.0 (is_some (locks_at end.1 context.who).wait)
ended-answered context (Granted id) core before speaks is e =
    let program = waits.wait_won (awaited_upgrade context.wait) id context in
    tracks-outcome IsEnded program core context.who speaks
    (calls_weaker {A = Outcome Resume} (IsOwnCall context.who) (IsMadeFor context.who) (own_made context.who) program (own_won (awaited_upgrade context.wait) id context))
    (subst (Tracks IsEnded program) (sym e) (tracks-won (awaited_upgrade context.wait) id context))
ended-answered context (Lost how) core before speaks is e =
    let over : Outcome Resume = (Ok (resume.Lost how), waits.without_wait context) in
    tracks-outcome IsEnded (tidying over) core context.who speaks
    (calls_weaker {A = Outcome Resume} (IsOwnCall context.who) (IsMadeFor context.who) (own_made context.who) (tidying over) (own_tidying {A = Resume} over))
    (subst (Tracks IsEnded (tidying over)) (sym e) (tracks-lost how (waits.without_wait context)))
ended-answered context _ core before speaks is e = absurd is

-- what a program comes to is so, with whether the session has a wait then
abbrev Ends : ContextView → Program (Outcome Resume) → Core → Type 0
Ends context program core = let end = outcome_of outcome program core in IsEnded end.0 (is_some (locks_at end.1 context.who).wait)

ended-ending : (context : ContextView) (core : Core) → SpeaksFor core context.who → has_settled core context.who ≡ true → Ends context (waits.ending_wait context) core
ended-ending context core speaks settled =
    ended-answered context (end_wait_outcome context.who core).0 (end_wait_outcome context.who core).1 (is_some (locks_at core context.who).wait)
    (core-keeps calls_keep-sound core (end_wait_outcome context.who core).1 (End_wait context.who) (end_wait_outcome context.who core).0 context.who speaks
    (joins-outcome context.who core (End_wait context.who) speaks refl))
    (ends-settled context.who core settled)
    (call-waits context.who core (End_wait context.who) speaks refl)

ended-going : (searched : Option Bool) (context : ContextView) (core : Core) (how : Settled) → is_some searched ≡ true
    → poll_wait_outcome context.who core ≡ (Is_settled how, core)
    → Ends context (waits.ending_wait context) core → Ends context (waits.continuing_wait searched context) core
ended-going None context core how some polls ends = cc
ended-going (Some true) context core how some polls ends =
    subst (λ (told : Answer × Core). Ends context (waits.poll_answered context told.0) told.1) (sym polls) ends
ended-going (Some false) context core how some polls ends =
    subst (λ (told : Answer × Core). Ends context (waits.cut_off_answered context told.0) told.1) (sym polls) ends

is_some-searched : (wait : Option Wanted) → is_some wait ≡ true → is_some (waits.is_searched wait) ≡ true
is_some-searched None some = cc
is_some-searched (Some wanted) some = refl

ended-resuming : (context : ContextView) (core : Core) → SpeaksFor core context.who → is_some context.wait ≡ true → has_settled core context.who ≡ true
    → Ends context (resuming context) core
ended-resuming context core speaks some settled =
    let polls = polls-settled context.who core settled in
    ended-going (waits.is_searched context.wait) context core polls.0 (is_some-searched context.wait some) polls.1 (ended-ending context core speaks settled)

-- then the statement goes on, without a wait
tied-resumed : (left : Left) (session : Session) (end : Outcome Resume) (waits : Bool) → IsEnded end waits
    → Tracks PausesTied (playing.resumed left session end) waits
tied-resumed left session (Ok resume.Waiting, context) waits is = absurd is
tied-resumed left session (Ok (resume.Acquired id), context) waits is =
    subst (λ w. Tracks PausesTied (play (left.rest id) left.mark (with_context session context)) w) (sym is)
    (tied-play (left.rest id) left.mark (with_context session context))
tied-resumed left session (Ok (resume.Lost how), context) waits is =
    let ending = ending_of_loss (waits_for_user_lock session.context) how in
    subst (λ w. Tracks PausesTied (closing ending left.mark (with_context session context)) w) (sym is)
    (tied-closing ending left.mark (with_context session context))
tied-resumed left session (Err error, context) waits is =
    subst (λ w. Tracks PausesTied (closing (ending_of_error error) left.mark (with_context session context)) w) (sym is)
    (tied-closing (ending_of_error error) left.mark (with_context session context))

-- what a program of a session comes to is tied to whether the session has a wait then
abbrev ComesTied : ℕ → Program Pause → Core → Type 0
ComesTied who program core = let end = outcome_of outcome program core in IsTied (session_of_pause end.0) (is_some (locks_at end.1 who).wait)

tied-going_on : (session : Session) (left : Left) (core : Core) → session.left ≡ Some left → SpeaksFor core session.context.who
    → is_some session.context.wait ≡ true
    → has_settled core session.context.who ≡ true → ComesTied session.context.who (going_on session) core
tied-going_on session left core same speaks some settled =
    subst (λ (its : Option Left). ComesTied who (playing.going_on_with its bare) core) (sym same)
    (subst (λ (end : Pause × Core). IsTied (session_of_pause end.0) (is_some (locks_at end.1 who).wait)) (sym (outcome-then outcome (resuming session.context) rest core))
    (tracks-outcome PausesTied (rest end.0) end.1 who ((outcomes-are_runs (Outcome Resume) (resuming session.context) core who speaks
    (calls-first (IsMadeFor who) (resuming session.context) rest calls)).1 who speaks)
    (calls-next (IsMadeFor who) outcome (resuming session.context) rest core calls)
    (tied-resumed left bare end.0 (is_some (locks_at end.1 who).wait) (ended-resuming session.context core speaks some settled)))) where
      who : ℕ
      who = session.context.who

      bare : Session
      bare = record session { left = None }

      rest : Outcome Resume → Program Pause
      rest = playing.resumed left bare

      end : Outcome Resume × Core
      end = outcome_of outcome (resuming session.context) core

      calls : EachCall (IsMadeFor who) (resuming session.context >>= rest)
      calls = subst (λ (its : Option Left). EachCall (IsMadeFor who) (playing.going_on_with its bare)) same (rows_call session).2

-- ---- worlds

-- each session's statement waits where the session has a wait
abbrev IsSeen : World → Type 0
IsSeen world = (who : ℕ) → IsScriptSession who → IsTied (player_at who world).session (is_some (locks_at world.core who).wait)

-- a program of a session is played
seen-played : (line who : ℕ) (program : Program Pause) (world : World) → IsScriptSession who → EachCall (IsMadeFor who) program → IsStaffed world
    → ComesTied who program world.core → IsSeen world → IsSeen (played line who program world).world
seen-played line who program world is made staffed tied seen =
    plays-each line who program world is staffed (λ w player. IsTied player.session (is_some (locks_at after w).wait)) tied
    (λ w there apart.
    let own : locks_at after w ≡ locks_at world.core w =
    others-outcome program world.core who w (staffed.speaks who is.0 is.1) (staffed.speaks w there.0 there.1) apart made in
    subst (λ (has : SessionLocks). IsTied (player_at w world).session (is_some has.wait)) (sym own) (seen w there)) where
      after : Core
      after = (outcome_of outcome program world.core).1

seen-started : (line : Line) (world : World) → IsScriptSession line.session → session_waits world line.session ≡ false → IsStaffed world → IsSeen world
    → IsSeen (started line world).world
seen-started line world is free staffed seen =
    seen-played line.number line.session program world is made staffed
    (tracks-outcome PausesTied program world.core line.session (staffed.speaks line.session is.0 is.1) made tracks) seen where
      session : Session
      session = (player_at line.session world).session

      program : Program Pause
      program = starting line.statement session

      made : EachCall (IsMadeFor line.session) program
      made = subst (λ k. EachCall (IsMadeFor k) program) (staffed.named line.session is) ((rows_call session).1 line.statement)

      tracks : Tracks PausesTied program (is_some (locks_at world.core line.session).wait)
      tracks =
          let none : is_some (locks_at world.core line.session).wait ≡ false = sym (seen line.session is).left ∙ free in
          subst (λ w. Tracks PausesTied program w) (sym none) (tied-play (row_of line.statement) (current_mark session.context.kept) session)

-- who has something left
left-some : (left : Option Left) → is_some left ≡ true → (its : Left) × (left ≡ Some its)
left-some None some = cc
left-some (Some its) some = (its, refl)

seen-going : (who : ℕ) (world : World) → first_settled world ≡ Some who → IsStaffed world → IsSeen world → IsSeen (going who world).world
seen-going who world found staffed seen =
    seen-played player.line who (going_on player.session) world is made staffed tied seen where
      player : Player
      player = player_at who world

      is : IsScriptSession who
      is = first-session world who found

      named : player.session.context.who ≡ who
      named = staffed.named who is

      made : EachCall (IsMadeFor who) (going_on player.session)
      made = subst (λ k. EachCall (IsMadeFor k) (going_on player.session)) named (rows_call player.session).2

      waits : is_some player.session.left ≡ true
      waits = found-waits world who found

      tied : ComesTied who (going_on player.session) world.core
      tied =
          let its = left-some player.session.left waits in
          let here = seen who is in
          let speaks : SpeaksFor world.core player.session.context.who = subst (λ k. SpeaksFor world.core k) (sym named) (staffed.speaks who is.0 is.1) in
          subst (λ k. ComesTied k (going_on player.session) world.core) named
          (tied-going_on player.session its.0 world.core its.1 speaks (here.wait (sym here.left ∙ waits))
          (found-settled world who staffed found))

-- ---- lines

seen-timed_out : (who : ℕ) (world : World) → IsScriptSession who → IsStaffed world → IsSeen world → IsSeen (after_timeout who world)
seen-timed_out who world is staffed seen w session = by w session (eqb_tells w who) where
  speaks : SpeaksFor world.core who
  speaks = staffed.speaks who is.0 is.1

  after : Core
  after = (outcome (Settle_timeout who) world.core).1

  by : (w : ℕ) → IsScriptSession w → ((eqb w who ≡ true) × (w ≡ who)) ⊎ ((eqb w who ≡ false) × (w ≢ who))
      → IsTied (player_at w world).session (is_some (locks_at after w).wait)
  by w there (inl same) =
      let own : is_some (locks_at after who).wait ≡ is_some (locks_at world.core who).wait = call-waits who world.core (Settle_timeout who) speaks refl in
      subst (λ k. IsTied (player_at k world).session (is_some (locks_at after k).wait)) (sym same.1)
      (subst (λ waits. IsTied (player_at who world).session waits) (sym own) (seen who is))
  by w there (inr other) =
      let joins = joins-outcome who world.core (Settle_timeout who) speaks refl in
      let own : locks_at after w ≡ locks_at world.core w =
      core-others world.core after (Settle_timeout who) (outcome (Settle_timeout who) world.core).0 w (staffed.speaks w there.0 there.1)
      (λ e. other.1 (cc)) joins in
      subst (λ (has : SessionLocks). IsTied (player_at w world).session (is_some has.wait)) (sym own) (seen w there)

keeps-seen : Keeps IsSeen Anything
keeps-seen = record {
  starts = seen-started;
  goes = λ who world found staffed seen. (seen-going who world found staffed seen, λ k d inside. tt);
  ends = seen-timed_out;
}

-- ---- the world at first

-- to create a schema begins no wait
abbrev HasNone : {A : Type 0} → A → Bool → Type 0
HasNone x waits = waits ≡ false

none-under : (place : ℕ) (answer : Answer) → Tracks (HasNone {A = Unit {0}}) (create_first_schema place answer) false
none-under place (Granted id) = λ one is other its last so. refl
none-under place _ = refl

none-at : (answer : Answer) → Tracks (HasNone {A = Unit {0}}) (create_at answer) false
none-at (At_place place) = λ answer is. none-under place answer
none-at _ = refl

-- nobody has a wait in a space to which nothing was done
none-empty : (who : ℕ) → IsScriptSession who → locks_at (empty_core most_places most_sessions) who ≡ locks_of_seat empty_seat
none-empty who is = ap locks_of_seat (get_or-replicate most_sessions (who - 1) empty_seat empty_seat (omega (arith, is.0, is.1)))

-- nor in the first one
none-first : (who : ℕ) → IsScriptSession who → is_some (locks_at first_core who).wait ≡ false
none-first who is = by (eqb_tells who 1) where
  test : KeyName
  test = schema_key (codes "test")

  one : IsScriptSession 1
  one = (omega arith, omega arith)

  by : ((eqb who 1 ≡ true) × (who ≡ 1)) ⊎ ((eqb who 1 ≡ false) × (who ≢ 1)) → is_some (locks_at first_core who).wait ≡ false
  by (inl same) =
      let tracks : Tracks HasNone (creating test) (is_some (locks_at (empty_core most_places most_sessions) 1).wait) =
      subst (λ (has : SessionLocks). Tracks HasNone (creating test) (is_some has.wait)) (sym (none-empty 1 one)) (λ answer is. none-at answer) in
      subst (λ k. is_some (locks_at first_core k).wait ≡ false) (sym same.1)
      (tracks-outcome HasNone (creating test) (empty_core most_places most_sessions) 1 (speak-empty 1 one.0 one.1) (made-creating test) tracks)
  by (inr other) =
      ap (λ (has : SessionLocks). is_some has.wait)
      (others-outcome (creating test) (empty_core most_places most_sessions) 1 who (speak-empty 1 one.0 one.1) (speak-empty who is.0 is.1) other.1
      (made-creating test) ∙ none-empty who is)

seen-first : IsSeen first_world
seen-first who is =
    subst (λ (p : Player). IsTied p.session (is_some (locks_at first_core who).wait)) (sym (new-session who is))
    (record { left = sym (none-first who is); wait = λ some. let none = none-first who is in cc })

-- ---- scripts

is_some-own : (seat : SeatView) → is_some (locks_of_seat seat).wait ≡ is_some seat.wait
is_some-own seat = elim seat.wait as (λ wait. is_some (locks_of_seat (record seat { wait = wait })).wait ≡ is_some wait) [ None ↦ refl | Some wait ↦ refl ]

open-wait : (wait : Option Pending) (waits : Bool) → waits ≡ is_some wait → (waits ≡ true → is_settled_wait wait ≡ false) → waits ≡ is_unsettled_wait wait
open-wait None waits tied unsettled = tied
open-wait (Some its) waits tied unsettled = tied ∙ sym (ap not (unsettled tied))

-- a wait that isn't settled, or none
open-same : (here : Bool) (seat : SeatView) (waits : Bool) → here ≡ true → waits ≡ is_some (locks_of_seat seat).wait
    → (waits ≡ true → is_settled_wait (if here then seat.wait else None) ≡ false) → waits ≡ is_unsettled_wait (if here then seat.wait else None)
open-same here seat waits is tied unsettled =
    subst (λ h. waits ≡ is_unsettled_wait (if h then seat.wait else None)) (sym is)
    (open-wait seat.wait waits (tied ∙ is_some-own seat) (subst (λ h. waits ≡ true → is_settled_wait (if h then seat.wait else None) ≡ false) is unsettled))

-- who waits is among those who do
waits-among : (world : World) (who : ℕ) → IsScriptSession who → session_waits world who ≡ true → Contains (waiting_in world) who
unfolding sessions
waits-among world who is waits =
    filter-among (session_waits world) (range_with_len 1 most_sessions) who waits (Contains-from_at (range_with_len 1 most_sessions) who
    (who - 1, omega (arith, is.0, is.1, length-range_with_len 1 most_sessions), λ d. get_or-range_with_len 1 most_sessions (who - 1) d (omega (arith, is.0, is.1)) ∙ omega (arith, is.0)))

-- a statement waits exactly where the session has a wait that isn't settled
pub waits-in-space : StatementsWaitInTheSpace
waits-in-space text lines read n who is = open-same (has_session who world.core) (seat_at who world.core) (session_waits world who) (speaks.0) tied unsettled where
  world : World
  world = (script_played (take n lines)).world

  kept : IsKept IsSeen world
  kept =
      kept-lines IsSeen Anything keeps-seen n lines first_world (read-sessions text lines read) (record { staffed = staffed-first; so = seen-first })

  speaks : SpeaksFor world.core who
  speaks = kept.staffed.speaks who is.0 is.1

  tied : session_waits world who ≡ is_some (locks_at world.core who).wait
  tied = (kept.so who is).left

  unsettled : session_waits world who ≡ true → has_settled world.core who ≡ false
  unsettled waits =
      All-contains (λ w. has_settled world.core w ≡ false) (waiting_in world) who (nobody-left text lines read n) (waits-among world who is waits)
