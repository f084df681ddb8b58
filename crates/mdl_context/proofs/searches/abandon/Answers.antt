-- The wait is settled, so it is ended, and a ticket that it still gained is held and released.
use Rattle.std.proofs.Common.{refl, ap, ◌∙◌}
use Rattle.mdl_calls.specs.Words.{Knowledge, is_waiting, holds, giving_up, ending}
use Rattle.mdl_context.proofs.AttendLemmas.{known-still}
use Rattle.mdl_context.proofs.SeekLemmas.{lost-otherwise, holds-won, won-given_up, abandon-lost}
use Rattle.mdl_context.proofs.WaitLemmas.{is_ok-timed_out, told-timed_out, is_ok-ended}
use Rattle.mdl_context.proofs.searches.abandon.Goals as goal

pub unwrap-requires : goal.unwrap-requires
unwrap-requires g c =
    let knows : Knowledge = g.S.LockSpace.knows c.args.space.now c.args.who in
    is_ok-timed_out knows c.args.who _ _ (g.met.S.LockSpace.laws.explains _ _ _ _ _ refl c.settle_timeout.ensures) c.requires.waits

pub unwrap-requires-2 : goal.unwrap-requires-2
unwrap-requires-2 g c =
    let laws = g.met.S.LockSpace.laws in
    let step = rw c.unwrap.ensures at c.settle_timeout.ensures in
    let told = told-timed_out c.args.who c.unwrap.result in
    is_ok-ended told.0 _ (laws.agrees _ _ _ _ _ _ refl (laws.tells _ _ _ _ _ _ refl told.1 step) c.end_wait.ensures)

pub release-requires-clause-held : goal.release-requires-clause-held
release-requires-clause-held g c =
    let laws = g.met.S.LockSpace.laws in
    let settled = laws.changes _ _ _ _ _ refl (rw c.unwrap.ensures at c.settle_timeout.ensures) in
    let won = laws.changes _ _ _ _ _ refl (rw (c.unwrap-2.ensures, c.in-Granted.is) at c.end_wait.ensures) in
    ap (holds c.in-Granted.id) won ∙ holds-won c.in-Granted.id _ (ap is_waiting settled ∙ c.requires.waits)

pub returns-in-Granted-clause-own : goal.returns-in-Granted-clause-own
returns-in-Granted-clause-own g c =
    let laws = g.met.S.LockSpace.laws in
    let step = rw c.unwrap.ensures at c.settle_timeout.ensures in
    let ended = rw (c.unwrap-2.ensures, c.in-Granted.is) at c.end_wait.ensures in
    let settled = laws.changes _ _ _ _ _ refl step in
    let won = laws.changes _ _ _ _ _ refl ended in
    let speaks = laws.keeps _ _ _ _ _ (laws.keeps _ _ _ _ _ c.requires.speaks step) ended in
    c.release.ensures.own ∙ ap (giving_up c.in-Granted.id) won
    ∙ won-given_up c.in-Granted.id _ (ap is_waiting settled ∙ c.requires.waits) (rw won at (laws.rising _ _ speaks)) ∙ ap ending settled

pub returns-in_default : goal.returns-in_default
returns-in_default g c =
    let laws = g.met.S.LockSpace.laws in
    let lost = lost-otherwise c.unwrap-2.result c.in_default.not-Granted in
    let step = rw c.unwrap.ensures at c.settle_timeout.ensures in
    let ended = rw (c.unwrap-2.ensures, lost.1) at c.end_wait.ensures in
    let then_speaks = laws.keeps _ _ _ _ _ c.requires.speaks step in
    record {
      run = abandon-lost g.S.LockSpace.joins c.args.who _ _ _ _ lost.0 step ended;
      speaks = laws.keeps _ _ _ _ _ then_speaks ended;
      remembers = λ place key knew. known-still g.S.LockSpace laws _ _ _ _ _ then_speaks refl ended place key
          (known-still g.S.LockSpace laws _ _ _ _ _ c.requires.speaks refl step place key knew);
      own = laws.changes _ _ _ _ _ refl ended ∙ ap ending (laws.changes _ _ _ _ _ refl step);
    }
