-- A place without a kind isn't pinned.
use Rattle.mdl_shared.proofs.FirstLemmas.{are_pins_known, no-pin}
use Rattle.mdl_shared.proofs.Lemmas.{Lists, ap, member, refl, sym, ◌∙◌}
use Rattle.mdl_shared.proofs.member.Member.fast_wished.Goals as goal

pub returns-in_default : goal.returns-in_default
returns-in_default c =
    let m = c.args.self.now in
    let all = ap (λ (l : Lists). are_pins_known l.known m.known.pins) m.lists ∙ (member m).sound.pinned in
    rw (no-pin c.args.place m.known.pins m.known.known all (sym c.kind_pinned.ensures ∙ c.in_default.is)) refl
