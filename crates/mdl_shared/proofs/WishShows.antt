-- What a call shows, put together.
use Rattle.std.proofs.Common.{◌≡◌, None}
use Rattle.mdl_shared.proofs.Common.{Answer, Does, KeepsRoom, OwesNoMore, SessionView, StepSpec, TakesSteps, gained_by, lists_seen, tickets_seen}
use Rattle.mdl_shared.proofs.Faults.{if-clear}

-- by a call that has no fault of the session's own
module _ {s s′ : SessionView} (table : s′.table ≡ s.table) (sessions : s′.sessions ≡ s.sessions) where
  pub shows : {call : StepSpec} {answer : Answer} → call.fault s.pins (lists_seen s.me.0) ≡ None → Does (call.did answer (tickets_seen s.me.0)) s.me s′.me
      → call.settled answer (lists_seen s.me.0) s s′ → call.told s s′ → call.met answer (lists_seen s.me.0) s s′ → KeepsRoom (gained_by answer) s.room s′.room
      → OwesNoMore s s′ → call.owes answer s s′ → TakesSteps call answer s s′
  shows {call} fault did settled told met keeps debts owes = record {
    table = table;
    sessions = sessions;
    refused = if-clear _ (call.fault s.pins (lists_seen s.me.0)) fault;
    did = did;
    settled = settled;
    told = told;
    met = met;
    room = keeps;
    debts = debts;
    owes = owes;
  }
