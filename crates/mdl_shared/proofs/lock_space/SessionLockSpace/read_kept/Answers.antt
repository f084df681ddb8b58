-- A read of the session that speaks for its own number is one for that number.
use Rattle.std.proofs.Common.{◌≡◌, ℕ, Ok, Err, Result, IfOk, OnErr}
use Rattle.mdl_shared.proofs.Lemmas.{CacheView, ReadsKept, SessionView, SpaceError, UsesKept, VersionedDefinition, read_as}
use Rattle.mdl_shared.proofs.lock_space.SessionLockSpace.read_kept.Goals as goal

-- what it does to the cache, by its answer
used : (id : ℕ) (result : Result VersionedDefinition SpaceError) (a b : SessionView) (before after : CacheView) → IfOk result (λ standing. ReadsKept id standing a b before after)
    → OnErr result (after ≡ before) → UsesKept id (read_as result) a b before after
used id (Ok standing) a b before after kept left = kept
used id (Err why) a b before after kept left = left

pub returns : goal.returns
returns g c =
    let did = c.read_kept.ensures in
    let uses = used c.args.id c.read_kept.result c.args.self.now c.read_kept.new.self c.args.cache.now c.read_kept.new.cache did.kept did.left in
    rw c.requires.speaks.0 (record { joined = (did.joined, did.shown); used = uses; met = did.met; capacity = did.capacity })
