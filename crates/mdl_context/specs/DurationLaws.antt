-- What is left of a session's tickets when it goes back to a mark, when a statement or a transaction ends, and when the explicit ones are released.
use Rattle.std.specs.Prelude.{◌≡◌, List, [], take}
use Rattle.mdl_key.specs.declared.mode.Duration.TheVariants.{Statement, Transaction, Explicit}
use Rattle.mdl_context.specs.declared.kept.Kept.{Kept}
use Rattle.mdl_context.specs.declared.request.Mark.{Mark}
use Rattle.mdl_context.specs.Contexts.{tickets_for, current_mark, beyond_mark, newest_first, of_statement, of_transaction, without_tickets, AreRising}

-- going back to a mark keeps the earliest tickets of the statement and of the transaction, up to the mark's counts,
-- and all explicit ones
abbrev pub GoingBackKeepsFronts : Type 0
GoingBackKeepsFronts =
    (mark : Mark) (kept : List Kept) → AreRising kept →
    let left = without_tickets (beyond_mark mark kept) kept in
    (tickets_for Statement left ≡ take mark.statement (tickets_for Statement kept))
    × (tickets_for Transaction left ≡ take mark.transaction (tickets_for Transaction kept))
    × (tickets_for Explicit left ≡ tickets_for Explicit kept)

-- going back to the session's current mark releases nothing
abbrev pub GoingBackToNowKeepsAll : Type 0
GoingBackToNowKeepsAll = (kept : List Kept) → beyond_mark (current_mark kept) kept ≡ []

-- the end of a statement releases the statement's tickets, and no others
abbrev pub StatementsEndAlone : Type 0
StatementsEndAlone =
    (kept : List Kept) → AreRising kept →
    let left = without_tickets (of_statement kept) kept in
    (tickets_for Statement left ≡ []) × (tickets_for Transaction left ≡ tickets_for Transaction kept) × (tickets_for Explicit left ≡ tickets_for Explicit kept)

-- the release of the explicit tickets releases no others
abbrev pub ExplicitTicketsEndAlone : Type 0
ExplicitTicketsEndAlone =
    (kept : List Kept) → AreRising kept →
    let left = without_tickets (newest_first (tickets_for Explicit kept)) kept in
    (tickets_for Statement left ≡ tickets_for Statement kept) × (tickets_for Transaction left ≡ tickets_for Transaction kept) × (tickets_for Explicit left ≡ [])

-- the end of a transaction leaves only the explicit tickets
abbrev pub EndingLeavesExplicit : Type 0
EndingLeavesExplicit = (kept : List Kept) → AreRising kept → without_tickets (of_transaction kept) kept ≡ tickets_for Explicit kept
