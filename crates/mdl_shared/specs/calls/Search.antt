-- A deadlock that the session's wait is part of. A session without a wait makes no step. Another one reads the word of its wait first, and only if the
-- wait is unsettled it searches, by one look at the directory.
use Rattle.std.specs.Prelude.{◌≡◌, ◌⊎◌, true, false, None, is_some}
use Rattle.mdl_calls.specs.declared.answers.Search.TheVariants as found
use Rattle.mdl_shared.specs.FirstWords.{Answer, Lists, LooksAtKeys, MakesNoStep, No_cycle, OwesSame, ReadsSettled, ReadsUnsettled, Refused, SearchesFor, SessionView, SettlesNothing, StepSpec, Victim_is, no_steps}

-- a search may settle the victim's wait: `Searched` of mdl_visits/specs/Searches says whose
abbrev pub settled : Answer → Lists → SessionView → SessionView → Type 0
settled No_cycle l a b = Unit {0}
settled (Victim_is victim) l a b = Unit {0}
settled _ l a b = SettlesNothing a.me b.me

-- which steps were made, and what they met. A session that has searched and found no deadlock has no search left to make
abbrev pub met : Answer → Lists → SessionView → SessionView → Type 0
met No_cycle l a b =
    (l.asks ≡ None → MakesNoStep a b)
    × (is_some l.asks ≡ true → ReadsSettled l a b ⊎ (ReadsUnsettled l a (λ mid. SearchesFor found.NoCycle mid b) × (b.me.0.searches ≡ false)))
met (Victim_is victim) l a b = (is_some l.asks ≡ true) × ReadsUnsettled l a (λ mid. SearchesFor (found.Victim victim) mid b)
met (Refused why) l a b = (is_some l.asks ≡ true) × ReadsUnsettled l a (λ mid. LooksAtKeys mid b)
met _ l a b = ⊥

-- the call. The session may learn that its own wait is settled. Whether it has yet to search is said only after a search that found no deadlock
abbrev pub search_deadlock : StepSpec
search_deadlock = record no_steps { settled = settled; told = λ a b. Unit {0}; owes = λ answer a b. OwesSame a b; met = met }
