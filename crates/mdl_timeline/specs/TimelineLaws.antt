-- Laws of the timelines of all scripts.
use Rattle.std.specs.Prelude.{◌≡◌, ◌≢◌, ◌≤◌, ◌↔◌, ℕ, zero, suc, List, [], ◌∷◌, ◌++◌, Contains, flat_map, map}
use Rattle.mdl_book.specs.declared.book_view.BookView.{BookView}
use Rattle.mdl_book.specs.declared.ticket.Ticket.{Ticket}
use Rattle.mdl_graph.specs.WaitsFor.{WaitsFor}
use Rattle.mdl_lines.specs.Words.{IsScriptSession}
use Rattle.mdl_picture.specs.declared.moment.Fate.TheVariants as fate
use Rattle.mdl_picture.specs.Moments.{EventView, HeldView, MomentView}
use Rattle.mdl_script.specs.declared.told.Told.{Told}
use Rattle.mdl_script.specs.Worlds.{Scene, World, ask_session, continuing_settled, first_world, lines_played, most_turns, script_played, ◌and_then◌}
use Rattle.mdl_syntax.specs.declared.script.Line.{Line}
use Rattle.mdl_view.specs.ViewLaws.{nobody}
use Rattle.mdl_timeline.specs.Moments.{answer_of, held_as, moments_of}

-- the events at these lines of a text, in order
abbrev pub events_at : List ℕ → List Line → List EventView
events_at text lines = flat_map (λ (moment : MomentView). moment.events) (moments_of text lines)

-- ---- answers

-- a line that is answered, its session, and its answer
pub record Answer : Type 0 where
  pub line : ℕ
  pub session : ℕ
  pub answer : List ℕ

-- the answer that an event shows
abbrev pub shown_by : EventView → Answer
shown_by event = record { line = event.line; session = event.session; answer = event.answer }

-- an answer that playing a script gives
abbrev pub answer_told : Told → Answer
answer_told told = record { line = told.line; session = told.who; answer = answer_of told.news }

-- the events at the lines of a script show its answers, each once and in their order
abbrev pub EventsAreAnswers : Type 0
EventsAreAnswers =
    (text : List ℕ) (lines : List Line) → map shown_by (events_at text lines) ≡ map answer_told (script_played lines).told

-- ---- turns

-- a script after its first lines and so many turns of the next line: none; the turn of the line's own session; or this one, and turns of sessions that
-- continue
abbrev pub after_turns : List Line → Line → ℕ → Scene
after_turns first line zero = lines_played first first_world
after_turns first line (suc others) = lines_played first first_world and_then ask_session line and_then continuing_settled others

-- an event that comes after these others is that of one turn of the script: all answers before the turn are shown by the others, the turn gives the
-- answer that the event shows, and the event is as `IsSo` says of the world right after the turn
pub record IsOfTurn (IsSo : EventView → World → Type 0) (lines : List Line) (earlier : List EventView) (event : EventView) : Type 0 where
  pub first : List Line
  pub line : Line
  pub later : List Line
  pub turns : ℕ
  pub part : lines ≡ first ++ line ∷ later
  pub counted : turns ≤ most_turns
  pub before : map answer_told (after_turns first line turns).told ≡ map shown_by earlier
  pub answered : map answer_told (after_turns first line (suc turns)).told ≡ map shown_by earlier ++ shown_by event ∷ []
  pub is_so : IsSo event (after_turns first line (suc turns)).world

-- each item of a list is as `IsSo` says of it and of all items before it
abbrev pub EachAfter : {A : Type 0} → (List A → A → Type 0) → List A → List A → Type 0
EachAfter IsSo earlier [] = Unit {0}
EachAfter IsSo earlier (item ∷ later) = IsSo earlier item × EachAfter IsSo (earlier ++ item ∷ []) later

-- ---- arrows

-- the arrows of a wait lead to exactly the sessions that its session waits for in this world, by the tickets at its locks. Other events have none
pub record HasArrowsOf (event : EventView) (world : World) : Type 0 where
  pub waits : event.fate ≡ fate.Waits → (other : ℕ) →
      Contains event.in_the_way other ↔ (IsScriptSession other × WaitsFor nobody world.core.books event.session other)
  pub others : event.fate ≢ fate.Waits → event.in_the_way ≡ []

-- the arrows of each event are the waits right after its own turn: neither those of the end of its line, nor of another turn
abbrev pub ArrowsAreWaits : Type 0
ArrowsAreWaits = (text : List ℕ) (lines : List Line) → EachAfter (IsOfTurn HasArrowsOf lines) [] (events_at text lines)

-- ---- locks that are held

-- what an event shows as held are exactly the granted tickets in this world
abbrev pub HoldsThoseOf : EventView → World → Type 0
HoldsThoseOf event world =
    (held : HeldView) →
    Contains event.held held
    ↔ ((book : BookView) × (ticket : Ticket) × Contains world.core.books book × Contains book.granted ticket × (held ≡ held_as book.key ticket))

-- the locks that each event shows as held are those granted right after its own turn
abbrev pub HeldLocksAreGranted : Type 0
HeldLocksAreGranted = (text : List ℕ) (lines : List Line) → EachAfter (IsOfTurn HoldsThoseOf lines) [] (events_at text lines)
