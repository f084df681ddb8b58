-- What is true of a lock while each session has at most one ticket or one wait, and how a book is seen as a lock.
use Rattle.std.specs.Prelude.{◌≡◌, ℕ, ◌+◌, ◌≤◌, true, All, count_by}
use Rattle.mdl_key.specs.declared.namespace.Kind.{Kind}
use Rattle.mdl_key.specs.declared.mode.Mode.{Mode}
use Rattle.mdl_key.specs.Words.{clashes, has_bit}
use Rattle.mdl_book.specs.declared.book_view.BookView.{BookView}
use Rattle.mdl_book.specs.declared.ticket.Ticket.{Ticket}
use Rattle.mdl_book.specs.Tickets.{is_ticket}
use Rattle.mdl_lines.specs.Sessions.{IsScriptSession}
use Rattle.mdl_lock.specs.declared.script_command.ScriptCommand.{ScriptCommand}
use Rattle.mdl_lock.specs.Answers.{Lock, grantable_in}

-- the lists of a book, as a lock
abbrev pub lock_of : BookView → Lock
lock_of lists = record { granted = lists.granted; waiting = lists.waiting }

-- a command of a session that a script can name
abbrev pub IsNumbered : ScriptCommand → Type 0
IsNumbered command = IsScriptSession command.session

-- a ticket of a session that a script can name, whose number is 1
abbrev pub IsScriptTicket : Ticket → Type 0
IsScriptTicket ticket = (IsScriptSession ticket.session) × (ticket.number ≡ 1)

-- how many tickets a session has, granted and waiting
abbrev pub tickets_of : ℕ → Lock → ℕ
tickets_of session lock = count_by (is_ticket session 1) lock.granted + count_by (is_ticket session 1) lock.waiting

-- all tickets are those of sessions that a script can name, and no session has two
pub record IsOrderly (lock : Lock) : Type 0 where
  pub holders : All IsScriptTicket lock.granted
  pub waiters : All IsScriptTicket lock.waiting
  pub one_each : (session : ℕ) → tickets_of session lock ≤ 1

-- each waiting ticket that can be granted is in a mode of this bit map
abbrev pub AreInModes : ℕ → Kind → Lock → Type 0
AreInModes modes kind lock = All (λ ticket. grantable_in kind lock ticket.session ticket.mode ≡ true → has_bit modes ticket.mode ≡ true) lock.waiting

-- each waiting ticket that can be granted clashes with this mode
abbrev pub WereBlockedBy : Mode → Kind → Lock → Type 0
WereBlockedBy gone kind lock = All (λ ticket. grantable_in kind lock ticket.session ticket.mode ≡ true → clashes kind ticket.mode gone ≡ true) lock.waiting
