-- The books that a session finds when it audits all places of the shared table.
use Rattle.std.specs.Prelude.{List}
use Rattle.mdl_steps.specs.declared.view.Keys.{Keys}
use Rattle.mdl_shared.specs.SessionViews.{SessionView}
use Rattle.mdl_visits.specs.declared.audited.Audited.{Audited}
use Rattle.mdl_visits.specs.Audits.{Audits}
use Rattle.mdl_visits.specs.Lookups.{TookDirectory}

-- books that a session found between two of its states: it took the directory, and held the latches of all places that have a key at one moment, when
-- these were their books
pub record AreOfOneAudit (books : List Audited) (s t : SessionView) : Type 0 where
  pub keys : Keys
  pub took : TookDirectory s.table.slots keys keys s.me t.me
  pub audited : Audits keys books s.me t.me
