-- The statement's tickets go first, and then the transaction's, which are the same as before.
use Rattle.mdl_context.proofs.BeyondLemmas.{rising-kept, kept-since, run-since}
use Rattle.mdl_context.proofs.context.Context.release_since.Goals as goal

pub returns-clause-run : goal.returns-clause-run
returns-clause-run g c =
    let rising = rising-kept _ _ (g.met.S.LockSpace.laws.rising _ _ c.requires.attends.speaks) c.requires.attends.serves in
    run-since g.S.LockSpace.joins c.args.mark c.args.self.now c.release_beyond.new.self c.args.space.now c.release_beyond.new.space c.release_beyond-2.new.space rising
    c.release_beyond.ensures.run c.release_beyond.ensures.kept c.release_beyond-2.ensures.run

pub returns-clause-kept : goal.returns-clause-kept
returns-clause-kept g c =
    let rising = rising-kept _ _ (g.met.S.LockSpace.laws.rising _ _ c.requires.attends.speaks) c.requires.attends.serves in
    kept-since c.args.mark c.args.self.now c.release_beyond.new.self c.release_beyond-2.new.self rising c.release_beyond.ensures.kept c.release_beyond-2.ensures.kept
