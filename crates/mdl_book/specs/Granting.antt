-- What can be granted, and what can be held together, after MySQL 5.7: `MDL_lock::can_grant_lock` of sql/mdl.cc,
-- and the Reference Manual, "Metadata Locking".
use Rattle.std.specs.Prelude.{ℕ, Bool, not, ◌&&◌, ◌||◌, ◌==◌, List, IsTrue}
use Rattle.std.specs.List.{list_all}
use Rattle.mdl_key.specs.declared.namespace.Kind.{Kind}
use Rattle.mdl_key.specs.declared.mode.Mode.{Mode}
use Rattle.mdl_key.specs.Matrices.{clashes, waits_behind}
use Rattle.mdl_book.specs.declared.ticket.Ticket.{Ticket}

-- whether a granted ticket doesn't block a session's request (its wish) for a mode: the ticket is the session's own, or the
-- request doesn't clash with it
abbrev pub stands_beside : Kind → ℕ → Mode → Ticket → Bool
stands_beside kind session mode held = held.session == session || not (clashes kind mode held.mode)

-- whether a waiting ticket doesn't block a session's request for a mode: the ticket is the session's own, or the request
-- doesn't wait behind it
abbrev pub overtakes : Kind → ℕ → Mode → Ticket → Bool
overtakes kind session mode pending = pending.session == session || not (waits_behind kind mode pending.mode)

-- whether a request clashes with no granted ticket of another session
abbrev pub is_compatible : Kind → List Ticket → ℕ → Mode → Bool
is_compatible kind granted session mode = list_all (stands_beside kind session mode) granted

-- whether a request waits behind no waiting ticket of another session
abbrev pub goes_first : Kind → List Ticket → ℕ → Mode → Bool
goes_first kind waiting session mode = list_all (overtakes kind session mode) waiting

-- whether a request is grantable: it clashes with no granted ticket of another session, and waits behind no waiting one
abbrev pub is_grantable : Kind → List Ticket → List Ticket → ℕ → Mode → Bool
is_grantable kind granted waiting session mode = is_compatible kind granted session mode && goes_first kind waiting session mode

-- a request is grantable
abbrev pub IsGrantable : Kind → List Ticket → List Ticket → ℕ → Mode → Type 0
IsGrantable kind granted waiting session mode = IsTrue (is_grantable kind granted waiting session mode)

-- whether granted tickets are lawful: no two of different sessions clash
abbrev pub is_lawful : Kind → List Ticket → Bool
is_lawful kind granted = list_all (λ ticket. is_compatible kind granted ticket.session ticket.mode) granted

-- granted tickets are lawful
abbrev pub IsLawful : Kind → List Ticket → Type 0
IsLawful kind granted = IsTrue (is_lawful kind granted)
