-- An audit only looks.
use Rattle.mdl_shared.proofs.Lemmas.{Mine, ap, lists_seen, member, owed-on, quietly, refl, still-member, sym, ◌∙◌}
use Rattle.mdl_shared.proofs.session.Session.audit.Goals as goal

pub audit-requires : goal.audit-requires
audit-requires g c = let is = member c.self.inside.member in record { free = record { idle = is.idle; narrow = is.narrow.1 }; empty = c.new-audited.ensures.items }

pub invariant_of-self-inside : goal.invariant_of-self-inside
invariant_of-self-inside g c =
    let m = c.self.inside.member in
    let did = c.audit.ensures.steps in
    let done = quietly m.sessions did.0 did.1.1 (λ state told. told) (λ none. refl) in
    (∣ still-member done (member m) ∣₁, (m.lists ∙ sym (ap (λ (x : Mine). lists_seen x.0) did.1.1), (m.room, (owed-on m (ap (λ (x : Mine). x.0.owes) did.1.1), tt))))
