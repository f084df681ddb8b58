-- What a run of a script on threads prints: the answers to its sessions, and what is defined at the end. The wording is this project's own.
use Rattle.std.specs.Prelude.{◌≡◌, ℕ, Bool, ◌==◌, List, ◌++◌, flat_map, filter, map}
use Rattle.std.specs.List.{list_any, range_with_len}
use Rattle.mdl_key.specs.Words.{most_sessions}
use Rattle.mdl_rows.specs.declared.reply.Reply.{Reply}
use Rattle.mdl_syntax.specs.declared.script.Line.{Line}
use Rattle.mdl_visits.specs.declared.audited.Audited.{Audited}
use Rattle.mdl_script.specs.declared.told.News.TheVariants.{Ends}
use Rattle.mdl_script.specs.Finals.{AreInKeyOrder, finals_text}
use Rattle.mdl_script.specs.Texts.{told_line}

-- whether a script names a session
abbrev pub names_session : List Line → ℕ → Bool
names_session lines who = list_any (λ line. line.session == who) lines

-- the sessions that a script names, in rising order
unfoldable pub named_sessions : List Line → List ℕ
named_sessions lines = filter (names_session lines) (range_with_len 1 most_sessions)

-- the line of an answer to a session: the number of the line that asked, the session, and the reply
abbrev pub answer_line : ℕ → ℕ × Reply → List ℕ
answer_line who answer = told_line (record { line = answer.0; who = who; news = Ends answer.1 })

-- a line for each answer to a session
abbrev pub answers_text : ℕ → List (ℕ × Reply) → List ℕ
answers_text who = flat_map (answer_line who)

-- the lines of several sessions, each with its answers, session by session
abbrev pub transcripts_text : List (ℕ × List (ℕ × Reply)) → List ℕ
transcripts_text = flat_map (λ (transcript : ℕ × List (ℕ × Reply)). answers_text transcript.0 transcript.1)

-- the text of a run: the lines of all sessions, then those of the books
abbrev pub run_text : List (ℕ × List (ℕ × Reply)) → List Audited → List ℕ
run_text transcripts sorted = transcripts_text transcripts ++ finals_text sorted

-- the text of a run of a script: it is made of these transcripts, of the sessions that the script names in rising order, and of these books
pub record IsRunText (lines : List Line) (transcripts : List (ℕ × List (ℕ × Reply))) (books : List Audited) (text : List ℕ) : Type 0 where
  pub sessions : map (λ (transcript : ℕ × List (ℕ × Reply)). transcript.0) transcripts ≡ named_sessions lines
  pub sorted : List Audited
  pub in_order : AreInKeyOrder books sorted
  pub is : text ≡ run_text transcripts sorted
