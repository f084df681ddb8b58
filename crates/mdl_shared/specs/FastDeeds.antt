-- What a session does with its fast tickets: it tries for one, releases one, and makes them slow.
use Rattle.std.specs.Prelude.{◌≡◌, ◌⊎◌, ℕ, ◌<◌, ◌≤◌, [], length}
use Rattle.mdl_shared.specs.FirstWords.{Contended, FindsObtrusive, Limit, MakesSlow, Misses, NotFast, Obtruded, SessionView, ShowsStep, most_fast, own_at}

-- why the session got no fast ticket at a place: the flag OBTRUSIVE was found up, or eight fast grants missed, or it has as many there as a session may
-- have, and made no step
abbrev pub HasNoFast : NotFast → ℕ → SessionView → SessionView → Type 0
HasNoFast (Obtruded word) place a b = FindsObtrusive place word.0 a.me b.me
HasNoFast (Contended word) place a b = Misses place 8 word.0 a.me b.me
HasNoFast Limit place a b = (b ≡ a) × (most_fast ≤ length (own_at place a.me.0.fast))

-- at each place the session has the fast tickets that it had, or none, since a step made them slow
abbrev pub AreSameOrSlow : SessionView → SessionView → Type 0
AreSameOrSlow a b =
    (q : ℕ) → (own_at q b.me.0.fast ≡ own_at q a.me.0.fast) ⊎ ((own_at q b.me.0.fast ≡ []) × ShowsStep a b (MakesSlow q))

-- below some place the session has no fast tickets, and from there on those that it had
abbrev pub AreSlowBefore : SessionView → SessionView → Type 0
AreSlowBefore a b =
    (place : ℕ) × ((q : ℕ) → (q < place → own_at q b.me.0.fast ≡ []) × (place ≤ q → own_at q b.me.0.fast ≡ own_at q a.me.0.fast))
