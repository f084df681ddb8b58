-- Each request is granted that the definition grants.
use Rattle.std.proofs.Common.{◌∙◌, sym, ap}
use Rattle.std.specs.List.{list_any}
use Rattle.mdl_view.specs.Blockings.{is_blocked}
use Rattle.mdl_view.specs.Samples.{IsSample, is_apart}
use Rattle.mdl_view.proofs.PassLemmas.{grants, pass_all, pass_end, pass_step, sample_step}
use Rattle.mdl_view.proofs.granting.granted_after.Goals as goal

pub loop-ask-preserved : goal.loop-ask-preserved
loop-ask-preserved c =
    let lock = c.args.after.now in
    let may = is_blocked c.args.before.now in
    let got = c.loop-ask.got.items in
    let pending : IsSample c.in_ok-waiting.waiting.items lock.waiting = λ test one other.
    c.in_ok-waiting.ensures test one other ∙ ap (list_any (is_apart test one other)) c.waiting.ensures in
    let more = grants lock may lock.waiting c.loop-ask.granted.items _ lock.granted got c.grant_if.new.got.items c.in_ok-waiting.waiting.items _ _
    c.is_granted-is_granted.result c.in_ok-grant_if.ensures.got c.is_granted-is_granted.ensures c.deref.ensures.value c.deref-in-loop-ask.ensures.value
    c.loop-ask.invariant.sample pending in
    record {
      sample = sample_step lock.granted got c.grant_if.new.got.items _ c.loop-ask.granted.items c.grant_if.new.granted.items c.in_ok-grant_if.ensures.got
          c.loop-ask.invariant.sample c.in_ok-grant_if.ensures.sample;
      rest = pass_step lock may lock.waiting lock.granted got c.grant_if.new.got.items c.waiting-ask-items.result.now _ c.loop-ask.ask-index _
          c.waiting-ask-items.ensures c.loop-ask-test.true more c.loop-ask.invariant.rest;
    }

pub returns : goal.returns
returns c =
    let lock = c.args.after.now in
    let may = is_blocked c.args.before.now in
    pass_end lock may lock.waiting lock.granted c.loop-ask.got.items c.waiting-ask-items.result.now _ c.loop-ask.ask-index c.waiting-ask-items.ensures c.loop-ask-test.false c.loop-ask.invariant.rest
    ∙ sym (pass_all lock may lock.waiting lock.granted)
