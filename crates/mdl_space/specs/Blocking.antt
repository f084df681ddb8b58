-- Whom a session blocks, whoever is settled. A session that blocks nobody is in no deadlock.
use Rattle.std.specs.Prelude.{ℕ, Bool, ◌&&◌, ◌||◌, ◌==◌, List}
use Rattle.std.specs.List.{list_any}
use Rattle.mdl_key.specs.declared.mode.Mode.{Mode}
use Rattle.mdl_key.specs.declared.namespace.Kind.{Kind}
use Rattle.mdl_key.specs.Matrices.{clashes, waits_behind}
use Rattle.mdl_book.specs.declared.book_view.BookView.{BookView}
use Rattle.mdl_book.specs.declared.ticket.Ticket.{Ticket}
use Rattle.mdl_book.specs.Books.{lock_kind}

-- whether one of these waiting tickets clashes with a granted one of this mode
abbrev pub some_clashes : Kind → List Ticket → Mode → Bool
some_clashes kind waiting held = list_any (λ wish. clashes kind wish.mode held) waiting

-- whether one of these waiting tickets waits behind another one of this mode
abbrev pub some_goes_behind : Kind → List Ticket → Mode → Bool
some_goes_behind kind waiting pending = list_any (λ wish. waits_behind kind wish.mode pending) waiting

-- whether a session has a ticket at a lock, granted or waiting, that blocks a waiting one, perhaps its own
abbrev pub blocks_at : BookView → ℕ → Bool
blocks_at book who =
    list_any (λ held. held.session == who && some_clashes (lock_kind book) book.waiting held.mode) book.granted
    || list_any (λ pending. pending.session == who && some_goes_behind (lock_kind book) book.waiting pending.mode) book.waiting

-- whether a session has such a ticket at one of these locks
abbrev pub blocks_some : List BookView → ℕ → Bool
blocks_some books who = list_any (λ book. blocks_at book who) books
