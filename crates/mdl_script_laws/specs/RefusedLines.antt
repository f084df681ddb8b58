-- Lines of a script that are refused before the first lock of their statements: they leave the world unchanged.
use Rattle.std.specs.Prelude.{◌≡◌, ℕ, Bool, false, List, ◌∷◌, All, IsTrue, Ok, take, drop}
use Rattle.mdl_lines.specs.Sessions.{IsScriptSession}
use Rattle.mdl_syntax.specs.declared.script.Line.{Line}
use Rattle.mdl_syntax.specs.Scripts.{parsed}
use Rattle.mdl_rows.specs.declared.reply.Reply.TheVariants as reply
use Rattle.mdl_script.specs.declared.told.News.{News}
use Rattle.mdl_script.specs.declared.told.News.TheVariants.{Ends}
use Rattle.mdl_script.specs.declared.told.Told.{Told}
use Rattle.mdl_script.specs.Worlds.{World, ask_session, player_at, script_played}
use Rattle.mdl_script_laws.specs.RefusalsFirst.{is_early}

-- whether a statement is reported as refused before its first lock
abbrev pub is_early_refusal : News → Bool
is_early_refusal (Ends (reply.Error number)) = is_early number
is_early_refusal _ = false

-- two worlds with the same space and the same sessions: each session keeps the same, and has the same left to do
pub record IsSameWorld (before after : World) : Type 0 where
  pub space : after.core ≡ before.core
  pub sessions : (who : ℕ) → IsScriptSession who → (player_at who after).session ≡ (player_at who before).session

-- what is reported is of one of the lines, and asking that line changed nothing in the world that the lines before it left
abbrev pub IsOfLineThatChangedNothing : List Line → Told → Type 0
IsOfLineThatChangedNothing lines told =
    (n : ℕ) × (line : Line) × (more : List Line) × (drop n lines ≡ line ∷ more) × (told.line ≡ line.number) × (told.who ≡ line.session)
    × (let before = (script_played (take n lines)).world in IsSameWorld before (ask_session line before).world)

-- each early refusal that a script reports is the answer to a line that changed nothing
abbrev pub RefusedLinesChangeNothing : Type 0
RefusedLinesChangeNothing =
    (text : List ℕ) (lines : List Line) → parsed text ≡ Ok lines →
    All (λ told. IsTrue (is_early_refusal told.news) → IsOfLineThatChangedNothing lines told) (script_played lines).told
