-- What is known of the thread is another thing.
use Rattle.std.proofs.Common.{◌≡◌, ◌∙◌, Some, position, set, length, nat_eq, ◌<◌, sym, ap, arith}
use Rattle.mdl_lock_rows.specs.Owners.{described_too}
use Rattle.mdl_lock_rows.specs.Tables.{changed_at}
use Rattle.mdl_lock_rows.proofs.GrowLemmas.{changed-set, on_ok-map}
use Rattle.mdl_lock_rows.proofs.numbering.describe.Goals as goal

pub returns : goal.returns
returns c =
    let owners = c.args.owners.now.items in
    let make = described_too c.args.owner.now in
    let inside : c.in-Some.place < length owners = omega (arith, c.in-Some.ensures.within, c.requires) in
    let found : Some c.in-Some.place ≡ position (nat_eq c.args.owner.now.thread) c.args.threads.now.keys = c.in-Some.ensures.index ∙ ap (λ thread. position (nat_eq thread) c.args.threads.now.keys) c.thread.ensures in
    on_ok-map c.describe_too.result
    (λ is. ap (λ owner. set owners c.in-Some.place owner) (is ∙ ap make c.index_mut.ensures.value)
    ∙ sym (changed-set make owners c.in-Some.place _ inside) ∙ ap (λ place. changed_at place make owners) found)
    c.describe_too.ensures
