-- What can have happened in a run of a script on threads.
use Rattle.std.specs.Prelude.{◌≡◌, ◌≢◌, ℕ, ◌+◌, false, List, [], ◌∷◌, All, Contains, Some, codes, length, map, slice_get}
use Rattle.std.specs.List.Sorted.{IsPermutation}
use Rattle.atomic_table.specs.Seated.{TableId}
use Rattle.mdl_key.specs.Words.{most_places, most_sessions}
use Rattle.mdl_rows.specs.declared.reply.Reply.{Reply}
use Rattle.mdl_steps.specs.Layout.{word_count}
use Rattle.mdl_syntax.specs.declared.script.Line.{Line}
use Rattle.mdl_syntax.specs.declared.statement.Statement.TheVariants.{CreateSchema}
use Rattle.mdl_shared.specs.declared.pass.Pass.{Pass}
use Rattle.mdl_shared.specs.Passes.{ArePasses, pass_number, pass_view}
use Rattle.mdl_shared.specs.SessionViews.{SessionView}
use Rattle.mdl_visits.specs.declared.audited.Audited.{Audited}
use Rattle.mdl_script.specs.Answers.{AreAnswers, IsClosed, IsTranscript, Options, WorksOff}
use Rattle.mdl_script.specs.Books.{AreOfOneAudit}
use Rattle.mdl_script.specs.RunTexts.{IsRunText, names_session}

-- the line by which a session asks for the first schema
abbrev pub first_line : ℕ → Line
first_line who = record { number = 1; session = who; statement = CreateSchema (codes "test") }

-- from one state to another a session executed the line for the first schema
abbrev pub MakesFirst : Options → ℕ → SessionView → SessionView → Type 0
MakesFirst options who before made = (answers : List (ℕ × Reply)) × WorksOff options (first_line who ∷ []) who before answers made

-- a session has just done so
abbrev pub HasMadeFirst : Options → ℕ → SessionView → Type 0
HasMadeFirst options who made = (before : SessionView) × MakesFirst options who before made

-- all passes come back, one for each session: unchanged if the script doesn't name the session, and it isn't the asker, session `mine`
pub record ComeBack (lines : List Line) (mine : ℕ) (given back : List Pass) : Type 0 where
  pub each : IsPermutation (map pass_number given) (map pass_number back)
  pub unnamed : (pass : Pass) → Contains given pass → names_session lines (pass_number pass) ≡ false → pass_number pass ≢ mine → Contains back pass

-- a text of a run of a script with these options, by what the asker did between two of its states: it executed the line for the first schema (`first`) and
-- then its own lines (`turn`), and at last found the books by one audit (`audited`). Each other session that the script names gave its answers between the
-- states of its passes (`answered`)
pub record IsRunBetween (options : Options) (lines : List Line) (given back : List Pass) (before after : SessionView) (text : List ℕ) : Type 0 where
  pub transcripts : List (ℕ × List (ℕ × Reply))
  pub books : List Audited
  pub made : SessionView
  pub worked : SessionView
  pub first : MakesFirst options before.me.0.number before made
  pub own : List (ℕ × Reply)
  pub turn : AreAnswers options lines before.me.0.number made own worked
  pub audited : AreOfOneAudit books worked after
  pub answered : All (IsTranscript options lines given back before.me.0.number own) transcripts
  pub told : IsRunText lines transcripts books text

-- the same by the passes that were given and those that came back: the asker's was the first, and is the first again, of the state in which the asker was
-- closed (`ended`)
pub record IsRunFrom (options : Options) (lines : List Line) (given back : List Pass) (text : List ℕ) : Type 0 where
  pub asker : Pass
  pub was_first : slice_get given 0 ≡ Some asker
  pub closed : Pass
  pub is_first : slice_get back 0 ≡ Some closed
  pub passes : ComeBack lines (pass_number asker) given back
  pub ended : SessionView
  pub is_closed : IsClosed closed ended
  pub run : IsRunBetween options lines given back (pass_view asker) ended text

-- the same at a new table of full size, with the passes of all its sessions, which had done nothing yet
pub record IsRunOf (options : Options) (lines : List Line) (text : List ℕ) : Type 0 where
  pub table : TableId
  pub slots : table.slots ≡ most_places + 1
  pub words : table.words ≡ word_count (most_places + 1) most_sessions
  pub given : List Pass
  pub all : length given ≡ most_sessions
  pub new : ArePasses table given
  pub back : List Pass
  pub run : IsRunFrom options lines given back text
