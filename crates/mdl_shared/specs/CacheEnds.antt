-- What is in a session's cache after it lent a definition.
use Rattle.std.specs.Prelude.{◌≡◌, ℕ, Result, Ok, Err, Some, ⊤}
use Rattle.mdl_defs.specs.contracts.def_cache.DefCache.{the_row}
use Rattle.std.specs.Borrow.{Fml, MutBor, follows_so}
use Rattle.mdl_shared.specs.FirstWords.{AreMet, CacheView, Cached, FindsVersion, HasMet, Hit, OfTicket, SessionView, SpaceError, Stale, data_of, kept_of, lists_seen, looked_at, none}
use Rattle.mdl_shared.specs.KeptReads.{kept_standing}

-- what a lookup by the ticket with this number leaves in the session's cache: a definition that is found comes first, and the rest stays in order. If none
-- is found, the cache is unchanged
abbrev pub LeavesCacheOrder : ℕ → Result Cached SpaceError → SessionView → SessionView → CacheView → CacheView → Type 0
LeavesCacheOrder id (Ok (Hit definition)) a b before after =
    OfTicket id (lists_seen a.me.0) (λ t. (version : ℕ) × (kept_of t.place version before.kept ≡ Some definition.now)
    × FindsVersion t.place (kept_standing version definition.now) a b
    × (after ≡ record { kept = looked_at t.place version before.kept; capacity = before.capacity }))
LeavesCacheOrder id (Ok Stale) a b before after = after ≡ before
LeavesCacheOrder id (Err why) a b before after = after ≡ before

-- the cache after such a lookup: it has that order, and the session has met each definition in it
pub record IsCacheAfter (id : ℕ) (result : Result Cached SpaceError) (a b : SessionView) (before after : CacheView) : Type 0 where
  pub order : LeavesCacheOrder id result a b before after
  pub met : AreMet (HasMet (data_of b) b.me.0.number) after.kept

-- that holds of the cache at the end of the loan
abbrev pub EndsCached : MutBor CacheView → ℕ → Result Cached SpaceError → SessionView → SessionView → Fml
EndsCached cache id result a b =
    follows_so the_row the_row cache.ghost_name none (λ _ _. ⊤) (IsCacheAfter id result a b cache.now)
