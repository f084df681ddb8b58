-- Two held tickets of one place merged into one: in one visit to the place, once all fast tickets of the session are slow ones.
use Rattle.std.specs.Prelude.{◌≡◌, ◌⊎◌, ℕ, false, List, [], ◌∷◌, Option, Some, Ok}
use Rattle.mdl_shared.specs.FirstWords.{Alter, Answer, ByVisit, Deed, Done, LacksRoomForFast, Lists, Lose, MeetsOwn, OfTicket, Refused, SessionTicket, SessionView, ShowsStep, SpaceError, StepSpec, StopsSlowing, all_tickets, merge_deeds, merge_fault, no_steps, numbered}

-- why the session's own lists refuse it
abbrev pub own_fault : ℕ → ℕ → Lists → Option SpaceError
own_fault old new l = merge_fault (numbered old (all_tickets l)) (numbered new (all_tickets l)) l.asks

-- the old ticket gets the new one's mode, and the new one is lost
abbrev pub did : ℕ → ℕ → Answer → List SessionTicket → List Deed
did old new Done tickets = merge_deeds old new (Ok tt) (numbered new tickets)
did old new _ tickets = []

-- which steps were made, and what they met
abbrev pub met : ℕ → ℕ → Answer → Lists → SessionView → SessionView → Type 0
met old new Done l a b =
    OfTicket old l (λ kept. OfTicket new l (λ gone. ByVisit kept.place false a b (λ mid. ShowsStep mid b (λ e.
    MeetsOwn kept.place a.me.0.number old e × MeetsOwn kept.place a.me.0.number new e × (e.deeds ≡ Alter old gone.mode ∷ Lose new ∷ [])))))
met old new (Refused why) l a b = (own_fault old new l ≡ Some why) ⊎ (LacksRoomForFast why a b × StopsSlowing a.me b.me)
met old new _ l a b = ⊥

-- the call
abbrev pub merge : ℕ → ℕ → StepSpec
merge old new = record no_steps { fault = λ pins. own_fault old new; did = did old new; met = met old new }
