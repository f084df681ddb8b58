-- A list without numbers is added.
use Rattle.std.proofs.Common.{◌≡◌, [], ◌∷◌, ◌++◌, rules, ap, ◌∙◌}
use Rattle.mdl_context.specs.Indexes.{ticket_numbers}
use Rattle.mdl_context.proofs.IndexLemmas.{one_empty_more}
use Rattle.mdl_context.proofs.by_place.list_up_to.Goals as goal

pub loop-list-preserved : goal.loop-list-preserved
loop-list-preserved c = λ q.
    let none : c.new.result.items ≡ [] = search rules in
    let more : c.push.new.self.items ≡ c.loop-list.lists.items ++ c.new.result ∷ [] = search rules in
    ap (ticket_numbers q) more ∙ one_empty_more c.loop-list.lists.items c.new.result q none ∙ c.loop-list.invariant q
