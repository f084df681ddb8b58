-- Where no wait is settled, none is told.
use Rattle.std.proofs.Common.{◌≡◌, ◌∙◌, [], refl, sym}
use Rattle.mdl_c_calls.specs.Listings.{newly_settled}
use Rattle.mdl_c_calls.proofs.SettledLemmas.{newly-none, noted-still}
use Rattle.mdl_c_parts.proofs.WrittenLemmas.{written-none}
use Rattle.mdl_c_calls.proofs.manager.ServedSpace.tell_woken.Goals as goal

pub returns-then-settled_waits-eq0-clause-told : goal.returns-then-settled_waits-eq0-clause-told
returns-then-settled_waits-eq0-clause-told c =
    let none : newly_settled c.args.self.now c.args.told.now ≡ [] =
    newly-none c.args.self.now c.args.told.now (sym c.settled_waits.ensures ∙ c.if-settled_waits-eq0.true) in
    rw none (sym (written-none c.args.room.now), refl)

pub returns-then-settled_waits-eq0-clause-noted : goal.returns-then-settled_waits-eq0-clause-noted
returns-then-settled_waits-eq0-clause-noted c =
    noted-still c.args.self.now c.args.told.now _ (sym c.settled_waits.ensures ∙ c.if-settled_waits-eq0.true)
