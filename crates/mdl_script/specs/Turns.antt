-- The turns of a run: the sessions that a script names, each with the thread on which it runs.
use Rattle.std.specs.Prelude.{◌≡◌, ◌≢◌, ℕ, Bool, ◌==◌, List, [], ◌∷◌, ◌++◌, All, IfOk, MatchOption, Option, Some, None, flat_map, map}
use Rattle.std.specs.List.{list_any}
use Rattle.std.specs.declared.thread.PromisedHandle.{PromisedHandle}
use Rattle.mdl_syntax.specs.declared.script.Line.{Line}
use Rattle.mdl_shared.specs.declared.pass.Pass.{Pass}
use Rattle.mdl_shared.specs.Passes.{pass_number, pass_table}
use Rattle.mdl_rows.specs.declared.reply.Reply.{Reply}
use Rattle.mdl_script.specs.declared.on_thread.Answered.{Answered}
use Rattle.mdl_script.specs.declared.turns.AnswersOf.{AnswersOf}
use Rattle.mdl_script.specs.declared.turns.SessionThread.{SessionThread}
use Rattle.mdl_script.specs.Answers.{AnswersBetween, IsTranscript, Options, options_of}
use Rattle.mdl_script.specs.RunTexts.{transcripts_text}

-- whether one of these passes has this number
abbrev pub has_pass : List Pass → ℕ → Bool
has_pass passes who = list_any (λ (pass : Pass). pass_number pass == who) passes

-- what came back of a pass whose session was to execute its lines: a pass of the same session of the same table, and unless memory ran out the answers
-- that the session gave between the two
pub record CameBack (options : Options) (lines : List Line) (opened : Pass) (back : Answered) : Type 0 where
  pub number : pass_number back.pass ≡ pass_number opened
  pub there : pass_table back.pass ≡ pass_table opened
  pub answered : IfOk back.answers (λ answers. AnswersBetween options lines (pass_number opened) opened back.pass answers.items)

-- the promise is about these lines, with these options
abbrev pub IsAboutLines : Options → List Line → AnswersOf → Type 0
IsAboutLines options lines promise = (promise.script.now ≡ lines) × (options_of promise.patience promise.cache ≡ options)

-- the session is the one that runs in the caller's thread, or a thread got its pass, and keeps a promise about its answers
abbrev pub IsTurn : Options → List Line → ℕ → SessionThread → Type 0
IsTurn options lines mine turn = MatchOption turn.thread (turn.who ≡ mine)
    (λ thread. (turn.who ≢ mine) × (pass_number thread.promise.pass.value ≡ turn.who) × IsAboutLines options lines thread.promise)

-- the pass that a thread got, if there is one
abbrev pub sent_to : Option (PromisedHandle Answered AnswersOf) → List Pass
sent_to None = []
sent_to (Some thread) = thread.promise.pass.value ∷ []

-- the pass that a turn's thread got
abbrev pub pass_sent : SessionThread → List Pass
pass_sent turn = sent_to turn.thread

-- the passes that the threads of turns got
abbrev pub passes_sent : List SessionThread → List Pass
passes_sent = flat_map pass_sent

-- what turns added to a text and to a list of passes: the answers of their sessions, session by session, and what came back of the passes that threads got
pub record GainsAnswers (options : Options) (lines : List Line) (mine : ℕ) (own : List (ℕ × Reply)) (turns : List SessionThread) (before after : List ℕ) (old new : List Pass) : Type 0 where
  pub closed : List Pass
  pub passes : new ≡ old ++ closed
  pub numbers : map pass_number closed ≡ map pass_number (passes_sent turns)
  pub tables : map pass_table closed ≡ map pass_table (passes_sent turns)
  pub transcripts : List (ℕ × List (ℕ × Reply))
  pub sessions_are : map (λ (transcript : ℕ × List (ℕ × Reply)). transcript.0) transcripts ≡ map (λ (turn : SessionThread). turn.who) turns
  pub answered : All (IsTranscript options lines (passes_sent turns) closed mine own) transcripts
  pub gained : after ≡ before ++ transcripts_text transcripts
