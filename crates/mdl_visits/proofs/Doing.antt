-- Which deeds a session did, by what became of it.
use Rattle.mdl_visits.proofs.Common.{Deed, Does, Learns, List, MakesSteps, Mine, TableId, VersionedDefinition, Visits, VisitsAndReschedules, [], ap, ℕ}

module _ (m m′ : Mine) where
  pub does_steps : MakesSteps m m′ → Does [] m m′
  does_steps steps = (steps.0, ap (λ (x : Mine). x.0.log) steps.1, steps.2)

  pub does_visits : (place : ℕ) (ds : List Deed) → Visits place ds m m′ → Does ds m m′
  does_visits place ds visit = (visit.made, ap (λ (x : Mine). x.0.log) visit.now, visit.did)

  pub does_learns : (place : ℕ) (standing : VersionedDefinition) → Learns place standing m m′ → Does [] m m′
  does_learns place standing learns = (learns.0, ap (λ (x : Mine). x.0.log) learns.1, learns.2)

  pub does_reschedule : (id : TableId) (place : ℕ) (ds : List Deed) → VisitsAndReschedules id place ds m m′ → Does ds m m′
  does_reschedule id place ds visit = (visit.made, ap (λ (x : Mine). x.0.log) visit.now, visit.did)
