-- The sample says of each request what the lock says.
use Rattle.std.proofs.Common.{◌≡◌, ◌∙◌, IfOk, filter, ap, subst}
use Rattle.mdl_view.specs.Blockings.{is_unexplained}
use Rattle.mdl_view.proofs.SampleLemmas.{filter_same, same_unexplained}
use Rattle.mdl_view.proofs.upgrade.unexplained_at.Goals as goal

pub returns : goal.returns
returns c =
    let lock = c.args.lock.now in
    let few = c.in_ok-few.few in
    let same = filter_same (is_unexplained few) (is_unexplained lock) (same_unexplained lock few c.in_ok-few.ensures) in
    subst (λ list. IfOk c.unexplained_of.result (λ waits. waits.items ≡ list))
    (ap (λ waiting. filter (is_unexplained few) waiting) c.waiting.ensures ∙ same lock.waiting) c.unexplained_of.ensures
