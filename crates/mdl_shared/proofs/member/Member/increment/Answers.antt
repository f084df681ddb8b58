-- The word counts each fast ticket, by its mode.
use Rattle.mdl_shared.proofs.FastFacts.{by-weight, fast-counted}
use Rattle.mdl_shared.proofs.member.Member.increment.Goals as goal

pub returns : goal.returns
returns c =
    let m = c.args.self.now in
    let t = c.args.held in
    by-weight t.place t.mode m.known.known c.weight.result (fast-counted m t c.requires.held) c.weight.ensures
