-- What a session owes: the places that it has to reschedule, after fast releases that found that tickets may wait there.
use Rattle.std.specs.Prelude.{◌≡◌, ℕ, ◌==◌, Bool, true, false, List, slice_index_or}
use Rattle.mdl_shared.specs.Prelude.{Mine, all_but, list_any}
use Rattle.mdl_shared.specs.SessionViews.{SessionView}

-- a place is owed a reschedule, by the list of places that are owed one
abbrev pub IsOwed : ℕ → List ℕ → Type 0
IsOwed place owes = list_any (λ p. p == place) owes ≡ true

-- whether a place is owed one, by the flags of the places from 0 on
abbrev pub owed_in : ℕ → List Bool → Bool
owed_in place flags = slice_index_or flags place false

-- both say the same
abbrev pub AreOwed : List Bool → List ℕ → Type 0
AreOwed flags owes = (q : ℕ) → owed_in q flags ≡ list_any (λ p. p == q) owes

-- the session with this number owes a place a reschedule. Of other sessions' debts it knows nothing
abbrev pub Owes : SessionView → ℕ → ℕ → Type 0
Owes s who place = (who ≡ s.me.0.number) × IsOwed place s.me.0.owes

-- the session owes no place a reschedule that it didn't owe one before
abbrev pub OwesNoMore : SessionView → SessionView → Type 0
OwesNoMore a b = (place : ℕ) → IsOwed place b.me.0.owes → IsOwed place a.me.0.owes

-- what the session owes is unchanged
abbrev pub OwesSame : SessionView → SessionView → Type 0
OwesSame a b = b.me.0.owes ≡ a.me.0.owes

-- likewise, and whether it has yet to search for a deadlock
abbrev pub KeepsDebts : SessionView → SessionView → Type 0
KeepsDebts a b = OwesSame a b × (b.me.0.searches ≡ a.me.0.searches)

-- a place was rescheduled between the two: it isn't owed that any more, and what else was owed still is
abbrev pub Pays : ℕ → Mine → Mine → Type 0
Pays place m m′ = m′.0.owes ≡ all_but place m.0.owes

-- a later session, except that it owes what it owed before
abbrev pub but_owing : SessionView → SessionView → SessionView
but_owing a b = record b { me = (record b.me.0 { owes = a.me.0.owes }, b.me.1) }
