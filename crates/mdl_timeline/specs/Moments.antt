-- What happens at each line of a script, as a picture shows it. The words after errors are this project's own.
use Rattle.std.specs.Prelude.{ℕ, zero, suc, List, [], ◌∷◌, ◌++◌, Option, Some, None, codes, filter, flat_map, map, if◌then◌else◌}
use Rattle.mdl_key.specs.Keys.{KeyName, key_text}
use Rattle.mdl_key.specs.Modes.{mode_name}
use Rattle.mdl_book.specs.declared.book_view.BookView.{BookView}
use Rattle.mdl_book.specs.declared.ticket.Ticket.{Ticket}
use Rattle.mdl_graph.specs.WaitsFor.{waits_for}
use Rattle.mdl_picture.specs.declared.moment.Fate.{Fate}
use Rattle.mdl_picture.specs.declared.moment.Fate.TheVariants as fate
use Rattle.mdl_picture.specs.Moments.{EventView, HeldView, MomentView}
use Rattle.mdl_rows.specs.declared.error_number.ErrorNumber.{ErrorNumber}
use Rattle.mdl_rows.specs.declared.error_number.ErrorNumber.TheVariants.{LockWaitTimeout, Deadlock, Interrupted, UserLockDeadlock}
use Rattle.mdl_rows.specs.declared.reply.Reply.TheVariants as reply
use Rattle.mdl_script.specs.declared.told.News.{News}
use Rattle.mdl_script.specs.declared.told.News.TheVariants as news
use Rattle.mdl_script.specs.declared.told.Told.{Told}
use Rattle.mdl_script.specs.Texts.{is_wait_news, news_text}
use Rattle.mdl_script.specs.Worlds.{Scene, World, ask_session, first_settled, first_world, going, line_played, most_turns, sessions}
use Rattle.mdl_syntax.specs.declared.script.Line.{Line}
use Rattle.mdl_view.specs.ViewLaws.{nobody}
use Rattle.mdl_timeline.specs.Statements.{statement_at}

-- ---- what becomes of a statement

-- the text after an error that ended a wait
abbrev pub error_note : ErrorNumber → List ℕ
error_note Deadlock = codes ", victim"
error_note UserLockDeadlock = codes ", victim"
error_note LockWaitTimeout = codes ", timeout"
error_note Interrupted = codes ", killed"
error_note error = []

abbrev pub news_note : News → List ℕ
news_note (news.Ends (reply.Error error)) = error_note error
news_note other = []

-- the text that is printed of a statement, with the text after an error
abbrev pub answer_of : News → List ℕ
answer_of news = news_text news ++ news_note news

-- the state in which an answer leaves its statement
abbrev pub fate_of : News → Fate
fate_of (news.Waits key mode) = fate.Waits
fate_of news.Busy = fate.Busy
fate_of (news.Ends (reply.Error error)) = fate.Fails
fate_of (news.Ends reply) = fate.Ends

-- ---- blockers

-- the sessions that one waits for at these books, in order of their numbers. A session blocks others with its request until it continues, also if its
-- wait is settled
abbrev pub waited_for : ℕ → List BookView → List ℕ
waited_for who books = filter (waits_for nobody books who) sessions

-- the sessions that block the one with this answer at these books, if it begins to wait
abbrev pub in_the_way_of : List BookView → Told → List ℕ
in_the_way_of books told = if is_wait_news told.news then waited_for told.who books else []

-- ---- locks that are held

-- a granted ticket of the lock of this key
abbrev pub held_as : KeyName → Ticket → HeldView
held_as key ticket = record { session = ticket.session; mode = mode_name ticket.mode; lock = key_text key }

-- the granted tickets of a lock, in their order
abbrev pub held_in_book : BookView → List HeldView
held_in_book book = map (held_as book.key) book.granted

-- the granted tickets of these locks
abbrev pub held_in_books : List BookView → List HeldView
held_in_books books = flat_map held_in_book books

-- ---- turns

-- the event of an answer, at these books and with these words of the statement
abbrev pub event_of : List ℕ → List BookView → Told → EventView
event_of statement books told = record {
  line = told.line;
  session = told.who;
  statement = statement;
  answer = answer_of told.news;
  fate = fate_of told.news;
  in_the_way = in_the_way_of books told;
  held = held_in_books books;
}

-- the events of a turn, at the books right after it. A turn has one answer, and a wait ends the turn in which it begins: after that only deadlocks are
-- searched, which changes no book. So these are the books as they are when the wait begins
abbrev pub turn_events : List ℕ → Scene → List EventView
turn_events statement turn = map (event_of statement turn.world.core.books) turn.told

-- the turn of the session that continues, if there is one, and then more turns
abbrev pub turns_first : Option ℕ → (World → List Scene) → World → List Scene
turns_first None more world = []
turns_first (Some who) more world = going who world ∷ more (going who world).world

-- the turns of sessions that continue, at most this many: each time the one with the least number whose wait is settled
unfoldable pub turns_after : ℕ → World → List Scene
turns_after zero world = []
turns_after (suc most) world = turns_first (first_settled world) (turns_after most) world

-- ---- lines

-- the moment of a line with this statement: the events of the line's own turn, and then those of each turn that follows
abbrev pub moment_of : List ℕ → Line → World → MomentView
moment_of statement line world = record {
  line = line.number;
  session = line.session;
  events = turn_events statement (ask_session line world) ++ flat_map (turn_events []) (turns_after most_turns (ask_session line world).world);
}

-- the moments of these lines of a text, played one after the other in a world
abbrev pub moments_in : List ℕ → List Line → World → List MomentView
moments_in text [] world = []
moments_in text (line ∷ lines) world = moment_of (statement_at text line.number) line world ∷ moments_in text lines (line_played line world).world

-- the moments of these lines of a script
abbrev pub moments_of : List ℕ → List Line → List MomentView
moments_of text lines = moments_in text lines first_world
