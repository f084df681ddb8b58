-- Each answer that is printed as JSON is a text of JSON, and a reader gets of it the value that it should have.
use Rattle.std.specs.Prelude.{List, All}
use Rattle.mdl_view_text_laws.specs.JsonTexts.{IsJson}
use Rattle.mdl_lock_rows.specs.declared.row_class.LeftOut.{LeftOut}
use Rattle.mdl_view.specs.Locks.{LockView}
use Rattle.mdl_view.specs.declared.at_lock.AtLock.{AtLock}
use Rattle.mdl_view.specs.declared.blocking.Blocking.{Blocking}
use Rattle.mdl_view_text.specs.Names.{NamesView}
use Rattle.mdl_view_text.specs.Why.{all_waits}
use Rattle.mdl_view_text.specs.declared.findings.Findings.{Findings}
use Rattle.mdl_view_text.specs.Json.{locks_json, waits_json, why_json}
use Rattle.mdl_view_text_laws.specs.Sizes.{NamesFit, LockFits, AtLockFits, BlockingFits, LeftOutFits, FindingsFit, Fits64}
use Rattle.mdl_view_text_laws.specs.AnswerValues.{locks_value, waits_value, why_value}

abbrev pub LocksAreJson : Type 0
LocksAreJson =
    (names : NamesView) (locks : List LockView) (unexplained : List AtLock) (left_out : List LeftOut)
    → NamesFit names → All LockFits locks → All AtLockFits unexplained → All LeftOutFits left_out
    → IsJson (locks_json names locks unexplained left_out) (locks_value names locks unexplained left_out)

abbrev pub WaitsAreJson : Type 0
WaitsAreJson =
    (names : NamesView) (blockings : List Blocking) (unexplained : List AtLock) (left_out : List LeftOut)
    → NamesFit names → All BlockingFits blockings → All AtLockFits unexplained → All LeftOutFits left_out
    → IsJson (waits_json names blockings unexplained left_out) (waits_value names blockings unexplained left_out)

abbrev pub WaysAreJson : Type 0
WaysAreJson =
    (names : NamesView) (found : Findings) (left_out : List LeftOut)
    → NamesFit names → FindingsFit found → Fits64 (all_waits found left_out) → All LeftOutFits left_out
    → IsJson (why_json names found left_out) (why_value names found left_out)
