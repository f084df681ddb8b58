-- A change of the definition at the place of a held ticket in mode X: in one visit to the place, at which it is changed, or refused for what stands there
-- or for lack of memory.
use Rattle.std.specs.Prelude.{◌≡◌, ◌⊎◌, ℕ, Option, Some}
use Rattle.mdl_shared.specs.FirstWords.{Answer, Change, Changed, IsRefusedAs, Lists, OfTicket, Redefines, Refused, SessionView, SpaceError, StepSpec, VisitsOnce, X, all_tickets, exclusive_fault, no_steps, numbered}

-- why the session's own lists refuse it
abbrev pub own_fault : ℕ → Lists → Option SpaceError
own_fault id l = exclusive_fault (numbered id (all_tickets l))

-- which steps were made, and what they met
abbrev pub met : ℕ → Change → Answer → Lists → SessionView → SessionView → Type 0
met id change (Changed version) l a b =
    OfTicket id l (λ t. (t.mode ≡ X) × Redefines t.place change version a.me b.me × VisitsOnce t.place a.me b.me)
met id change (Refused why) l a b =
    (own_fault id l ≡ Some why)
    ⊎ OfTicket id l (λ t. IsRefusedAs t.place a.me.0.number change why a.me b.me × VisitsOnce t.place a.me b.me)
met id change _ l a b = ⊥

-- the call
abbrev pub change_definition : ℕ → Change → StepSpec
change_definition id change = record no_steps { fault = λ pins. own_fault id; met = met id change }
