-- What a call does to the session's own tickets, by its answer. The steps of the call do just these deeds (`Does`), so nothing else is done, and nothing
-- is done and undone on the way.
use Rattle.std.specs.Prelude.{ℕ, List, [], ◌∷◌, Option, Some, Result, Ok, if◌then◌else◌}
use Rattle.mdl_calls.specs.declared.answers.Upgrade.TheVariants.{Upgraded, WouldWait}
use Rattle.mdl_shared.specs.Prelude.{Alter, Deed, Lose, Mode, SessionTicket, SpaceError, Upgrade, covers}

-- the deeds of an upgrade that was tried: the ticket with this number gets the mode if it was granted
abbrev pub rise_deeds : ℕ → Mode → Upgrade → List Deed
rise_deeds id mode Upgraded = Alter id mode ∷ []
rise_deeds id mode WouldWait = []

-- the deeds of an upgrade of a ticket to a mode: none if the ticket's own mode covers that
abbrev pub upgrade_deeds : ℕ → Mode → Result Upgrade SpaceError → Option SessionTicket → List Deed
upgrade_deeds id mode (Ok how) (Some t) = if covers t.mode mode then [] else rise_deeds id mode how
upgrade_deeds id mode _ _ = []

-- the deeds of a merge: a ticket gets the mode of another one, which is released
abbrev pub merge_deeds : ℕ → ℕ → Result (Unit {0}) SpaceError → Option SessionTicket → List Deed
merge_deeds old new (Ok _) (Some gone) = Alter old gone.mode ∷ Lose new ∷ []
merge_deeds old new _ _ = []
