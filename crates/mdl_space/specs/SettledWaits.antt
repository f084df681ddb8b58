-- Which waits are settled, and which aren't.
use Rattle.std.specs.Prelude.{◌≡◌, ℕ, List, All, count_by}
use Rattle.std.specs.FinSet as set
use Rattle.std.specs.Ordering.{nat_cmp}
use Rattle.mdl_core.specs.Changes.{has_unsettled_wait}
use Rattle.mdl_core.specs.Cores.{Core, book_at}
use Rattle.mdl_core.specs.Seats.{SeatView, is_settled_wait}

-- how many of these seats have a settled wait
abbrev pub settled_waits : List SeatView → ℕ
settled_waits seats = count_by (λ seat. is_settled_wait seat.wait) seats

-- the set has just those of a place's waiters whose waits aren't settled. It may have other sessions, too
abbrev pub TellsUnsettled : set.FinSet nat_cmp → ℕ → Core → Type 0
TellsUnsettled sessions place core =
    All (λ ticket. set.contains sessions ticket.session ≡ has_unsettled_wait ticket.session core) (book_at place core).waiting
