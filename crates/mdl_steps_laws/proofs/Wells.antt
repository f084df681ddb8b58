-- Systems of reached tables are well-numbered.
use Rattle.std.proofs.Common.{◌≡◌, List, [], inl, inr, sym, subst, AllPairs}
use Rattle.mdl_system.proofs.NumberingLemmas.{step-well, run-well, empty-well}
use Rattle.mdl_steps_laws.proofs.FirstLemmas.{Definition, IsTold, KeyName, Reached, ReachedTablesAreWellNumbered, Rule, Slot, State, System, View, Waiter, applied, nobody_waits, none_granted, none_unended, none_waiting, opens, running_tables_tell_waits}
use Rattle.mdl_steps_laws.proofs.OneStep.{each_step_happens_or_rests}

pub rule_of : (s : State Slot View) → Reached s → Rule s
rule_of s (Reached.Opens sessions words slots open_) = opens sessions words slots open_
rule_of s (Reached.Goes _ _ before rule turn whole) = rule

-- each table has a system
pub a_system : (s : State Slot View) → Rule s → (a : System Definition) × IsTold s a
a_system s r = let x = running_tables_tell_waits s r in (x.2, (x.0, x.1, x.3, x.4))

pub reached_tables_are_well_numbered : ReachedTablesAreWellNumbered
reached_tables_are_well_numbered s (Reached.Opens sessions words slots open_) a told = record {
  granted = λ one other p. absurd (none_granted sessions words slots open_ a told one p);
  waiting = λ key waiter p. absurd (nobody_waits sessions words slots open_ a told key waiter p);
  once = λ key. subst (λ (ws : List Waiter). AllPairs (λ (one other : Waiter). (one.ticket.session ≡ other.ticket.session) → ⊥) ws) (sym (none_waiting sessions words slots open_ a told key)) ((empty-well Definition).once key);
  one_key = λ key other waiter another p. absurd (nobody_waits sessions words slots open_ a told key waiter p);
  ended = λ key waiter wait p. absurd (nobody_waits sessions words slots open_ a told key waiter p);
  one_wait = λ one other p. absurd (none_unended sessions words slots open_ a told one p);
  stands = λ wait p. absurd (none_unended sessions words slots open_ a told wait p);
}
reached_tables_are_well_numbered t (Reached.Goes s _ before rule turn whole) b told =
    let apply = λ (at : KeyName). applied at.namespace in
    let x = a_system s (rule_of s before) in
    let well = reached_tables_are_well_numbered s before x.0 x.1 in
    elim (each_step_happens_or_rests s t (rule_of s before) rule turn whole x.0 b x.1 told) [
      | inl step ↦ step-well apply step.0 x.0 b step.1 well
      | inr same ↦ run-well apply [] x.0 b same well
    ]
