-- The session pins the place of its ticket, and so knows the kind of the lock there.
use Rattle.mdl_shared.proofs.FirstLemmas.{pinned-kind}
use Rattle.mdl_shared.proofs.Lemmas.{own-pinned, sym, ◌∙◌}
use Rattle.mdl_shared.proofs.member.Member.clonable.Goals as goal

pub kind_at-kind-requires : goal.kind_at-kind-requires
kind_at-kind-requires c = record { pinned = own-pinned c.args.self.now c.args.id c.in-Some.held (sym c.get.ensures.found ∙ c.in-Some.is) }

pub returns-clause-found : goal.returns-clause-found
returns-clause-found c =
    let m = c.args.self.now in
    let t = c.in-Some.held in
    let found = sym c.get.ensures.found ∙ c.in-Some.is in
    (found, pinned-kind t.place m.known.pins m.known.known (own-pinned m c.args.id t found) c.kind_at-kind.ensures)
