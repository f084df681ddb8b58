-- A stronger mode of a held ticket, if it can be granted without waiting. A mode that the ticket's own covers takes no step. Another one is granted or
-- blocked in one visit to the place, once all fast tickets of the session are slow ones.
use Rattle.std.specs.Prelude.{◌≡◌, ◌⊎◌, ℕ, true, false, List, [], Option, Some, Ok}
use Rattle.mdl_calls.specs.declared.answers.Upgrade.TheVariants as upgrade
use Rattle.mdl_shared.specs.FirstWords.{Alter, Answer, ByVisit, Deed, LacksRoomForFast, Lists, MakesNoStep, MeetsBlocked, MeetsGrantable, Mode, OfTicket, Refused, SessionTicket, SessionView, ShowsStep, SpaceError, StepSpec, StopsSlowing, Upgraded, Would_wait, all_tickets, covers, no_steps, numbered, upgrade_deeds, upgrade_fault}

-- why the session's own lists refuse it
abbrev pub own_fault : ℕ → Mode → Lists → Option SpaceError
own_fault id mode l = upgrade_fault mode l.known l.asks (numbered id (all_tickets l))

-- the ticket has the mode, unless its own covered that
abbrev pub did : ℕ → Mode → Answer → List SessionTicket → List Deed
did id mode Upgraded tickets = upgrade_deeds id mode (Ok upgrade.Upgraded) (numbered id tickets)
did id mode Would_wait tickets = upgrade_deeds id mode (Ok upgrade.WouldWait) (numbered id tickets)
did id mode _ tickets = []

-- which steps were made, and what they met
abbrev pub met : ℕ → Mode → Answer → Lists → SessionView → SessionView → Type 0
met id mode Upgraded l a b =
    OfTicket id l (λ t. (covers t.mode mode ≡ true → MakesNoStep a b)
    × (covers t.mode mode ≡ false → ByVisit t.place true a b (λ mid. ShowsStep mid b (MeetsGrantable t.place a.me.0.number mode (Alter id mode)))))
met id mode Would_wait l a b =
    OfTicket id l (λ t. (covers t.mode mode ≡ false)
    × ByVisit t.place true a b (λ mid. ShowsStep mid b (MeetsBlocked t.place a.me.0.number mode)))
met id mode (Refused why) l a b =
    (own_fault id mode l ≡ Some why)
    ⊎ (OfTicket id l (λ t. covers t.mode mode ≡ false) × LacksRoomForFast why a b × StopsSlowing a.me b.me)
met id mode _ l a b = ⊥

-- the call
abbrev pub upgrade_now : ℕ → Mode → StepSpec
upgrade_now id mode = record no_steps { fault = λ pins. own_fault id mode; did = did id mode; met = met id mode }
