-- The next table was asked, too.
use Rattle.std.proofs.Common.{◌≡◌, ℕ, ◌+◌, ◌<◌, List, [], ◌∷◌, ◌++◌, length, take, sym, ap, ◌∙◌, subst, arith}
use Rattle.mdl_visits.proofs.Lemmas.{Asked, HasAsked, KnownKey, Mine, WasAsked, asked_more, quiet_steps_on, take_more}
use Rattle.mdl_visits.proofs.calls.tables_of.tables_defined.Goals as goal

pub loop-table-preserved : goal.loop-table-preserved
loop-table-preserved g c =
    let i : ℕ = c.loop-table.table-index in
    let tables : List KnownKey = c.args.tables.now in
    let table : KnownKey = c.table-item.result in
    let inside : i < length tables = c.loop-table-test.true in
    let inv = c.loop-table.invariant in
    let first : Mine = c.args.seat.now.me in
    let came : Mine = c.loop-table.seat.me in
    let went : Mine = c.add_if_defined.new.seat.me in
    let who : ℕ = c.args.seat.now.me.0.number in
    let asked = c.add_if_defined.ensures.asked in
    let one : Asked = record { table = table; defined = asked.0 } in
    let was : WasAsked who came went one = subst (λ (n : ℕ). WasAsked n came went one) (ap (λ (x : Mine). x.0.number) inv.steps.1.1) asked.1 in
    let more : take i tables ++ table ∷ [] ≡ take (i + 1) tables =
    ap (λ (t : KnownKey). take i tables ++ t ∷ []) c.table-item.is ∙ sym (take_more tables i table inside) in
    let room = c.add_if_defined.ensures.room in
    let before = inv.room in
    let now = c.add_if_defined.ensures.steps in
    record {
      steps = quiet_steps_on c.args.seat.now c.loop-table.seat c.add_if_defined.new.seat inv.steps now;
      asked = subst (λ (ts : List KnownKey). HasAsked who ts c.add_if_defined.new.places.items first went) more
          (asked_more who (take i tables) table c.loop-table.places.items c.add_if_defined.new.places.items asked.0 first came went inv.asked
          (inv.steps.1.0, inv.steps.1.1, inv.steps.1.2) (now.1.0, now.1.1, now.1.2) was asked.2);
      room = omega (arith, inside, room, before);
    }
