-- Where nothing is taken nobody is granted, and a sample says of each request what the lock says.
use Rattle.std.proofs.Common.{◌∙◌, [], sym, ap}
use Rattle.std.proofs.lemmas.Result.{IfOk-weaker}
use Rattle.mdl_view.specs.Acts.{lock_after}
use Rattle.mdl_view.specs.AtOnce.{granted_from}
use Rattle.mdl_view.specs.Blockings.{is_blocked}
use Rattle.mdl_view.specs.Locks.{LockView}
use Rattle.mdl_view.proofs.PassLemmas.{same_may}
use Rattle.mdl_view.proofs.SampleLemmas.{same_blocked}
use Rattle.mdl_view.proofs.TakenLemmas.{none_granted}
use Rattle.mdl_view.proofs.granting.granted_at.Goals as goal

pub returns-then-not-takes_any : goal.returns-then-not-takes_any
returns-then-not-takes_any c = c.new.ensures.items ∙ sym (none_granted c.args.act c.args.lock.now (sym c.takes_any.ensures ∙ c.if-not-takes_any.true))

pub returns : goal.returns
returns c =
    let lock = c.args.lock.now in
    let after = lock_after c.args.act lock in
    let same = same_may after (is_blocked c.in_ok-few.few) (is_blocked lock) (same_blocked lock c.in_ok-few.few c.in_ok-few.ensures) after.waiting after.granted [] in
    IfOk-weaker c.granted_after.result _ _ (λ got e. e ∙ ap (λ (at : LockView). granted_from at (is_blocked c.in_ok-few.few) at.granted [] at.waiting) c.in_ok-after.ensures ∙ same) c.granted_after.ensures
