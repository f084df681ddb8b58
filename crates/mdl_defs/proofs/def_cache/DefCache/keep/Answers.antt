use Rattle.mdl_defs.proofs.CacheLemmas.{put_keeps}
use Rattle.mdl_defs.proofs.def_cache.DefCache.keep.Goals as goal

pub returns-in-Ok-clause-kept : goal.returns-in-Ok-clause-kept
returns-in-Ok-clause-kept c =
    let cache = c.self.inside.map in
    rw (c.in-Ok.ensures.entries, ← c.self.view_is) (put_keeps c.args.place c.args.version c.args.definition cache.entries cache.cap)
