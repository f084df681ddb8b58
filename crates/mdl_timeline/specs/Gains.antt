-- Sets of sessions that grow.
use Rattle.std.specs.Prelude.{◌≡◌, ℕ, ◌≤◌, Bool, ◌||◌}
use Rattle.std.specs.FinSet as set
use Rattle.std.specs.Ordering.{nat_cmp}
use Rattle.mdl_key.specs.Words.{most_sessions}

-- a set of sessions gains those that pass a test, and no others
abbrev pub Gains : (ℕ → Bool) → set.FinSet nat_cmp → set.FinSet nat_cmp → Type 0
Gains test before after =
    (session : ℕ) → 1 ≤ session → session ≤ most_sessions → set.contains after session ≡ (set.contains before session || test session)
