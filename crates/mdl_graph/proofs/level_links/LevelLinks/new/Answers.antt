-- One more session is linked, unless it is too far away.
use Rattle.std.proofs.Common.{◌≡◌, ◌∙◌, ◌<◌, ◌-◌, ◌+◌, ℕ, suc, length, subst, arith}
use Rattle.std.specs.Prelude.{slice_index}
use Rattle.std.proofs.lemmas.List.{get_or_default, length-set}
use Rattle.mdl_graph.specs.Searches.{AreChained, level_of}
use Rattle.mdl_graph.proofs.ChainLemmas.{chained-more, chained-skip}
use Rattle.mdl_graph.proofs.level_links.LevelLinks.new.Goals as goal

pub loop-session-preserved-then-level-steps : goal.loop-session-preserved-then-level-steps
loop-session-preserved-then-level-steps c =
    let levels = c.args.levels.now in
    let firsts = c.loop-session.firsts.items in
    let inv = c.loop-session.invariant in
    let session : ℕ = c.loop-session.session - 1 in
    let more : c.loop-session.session ≡ suc session = omega (arith, c.loop-session-test.true) in
    let inside : session < length levels = omega (arith, c.loop-session-test.true, c.loop-session.auto.session) in
    let near : level_of levels session < length firsts = omega (arith, c.if-level-steps.true, inv.len) in
    let next : c.index.result.now ≡ slice_index firsts (level_of levels session) =
    c.index.ensures ∙ get_or_default firsts (level_of levels session) c.index.result.now 0 near in
    record {
      len = length-set firsts (level_of levels session) (session + 1) ∙ inv.len;
      chained = rw next (chained-more levels firsts c.loop-session.afters.items session c.loop-session.session more inside near inv.chained);
    }

pub loop-session-preserved : goal.loop-session-preserved
loop-session-preserved c =
    let levels = c.args.levels.now in
    let firsts = c.loop-session.firsts.items in
    let inv = c.loop-session.invariant in
    let session : ℕ = c.loop-session.session - 1 in
    let more : c.loop-session.session ≡ suc session = omega (arith, c.loop-session-test.true) in
    record {
      len = inv.len;
      chained = chained-skip levels firsts c.loop-session.afters.items session c.loop-session.session more (omega (arith, c.if-level-steps.false, inv.len)) inv.chained;
    }

pub invariant_of-result : goal.invariant_of-result
invariant_of-result c =
    let end : c.loop-session.session ≡ 0 = omega (arith, c.loop-session-test.false) in
    subst (λ (least : ℕ). AreChained c.args.levels.now c.loop-session.firsts.items c.loop-session.afters.items least) end c.loop-session.invariant.chained
