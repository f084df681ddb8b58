-- A law of the texts of all runs of scripts on threads.
use Rattle.std.specs.Prelude.{◌≡◌, ℕ, List, map}
use Rattle.mdl_rows.specs.declared.reply.Reply.{Reply}
use Rattle.mdl_steps.specs.Lists.{Distinct}
use Rattle.mdl_syntax.specs.declared.script.Line.{Line}
use Rattle.mdl_visits.specs.declared.audited.Audited.{Audited}
use Rattle.mdl_script.specs.RunTexts.{IsRunText}

-- the answers to the sessions and the books at the end determine the text of a run, if no two books have the same key
abbrev pub RunsHaveOneText : Type 0
RunsHaveOneText =
    (lines : List Line) (transcripts : List (ℕ × List (ℕ × Reply))) (books : List Audited) (one other : List ℕ)
    → Distinct (map (λ (audited : Audited). audited.book.key) books) → IsRunText lines transcripts books one → IsRunText lines transcripts books other → one ≡ other
