-- The manager searches, and C is told what it finds.
use Rattle.std.proofs.Common.{subst}
use Rattle.mdl_calls.specs.Words.{Search, searched}
use Rattle.mdl_c_parts.specs.Answers.{Number}
use Rattle.mdl_c_calls.specs.Managers.{Asks, JoinsServed, direct_fault, seat_of}
use Rattle.mdl_c_calls.proofs.ExportLemmas.{serves-direct}
use Rattle.mdl_c_calls.proofs.waits.gaz_one_search.Goals as goal

pub returns : goal.returns
returns c =
    let who = c.args.who in let next = c.seek.new.self in
    let asked = subst (λ m. Asks (direct_fault (seat_of who m)) (λ r. JoinsServed (Search who) (searched r) m next) c.seek.result m next) c.deref_mut.ensures.value c.seek.ensures in
    serves-direct who (Search who) searched c.in-Some.manager.value next c.seek.result c.search_code-code.result c.args.space.now.handle.manager c.put.new.self.handle.manager
    (Number c.args.victim.now c.search_code-code.new.victim) c.in-Some.ensures.taken c.put.ensures asked c.search_code-code.ensures.code c.search_code-code.ensures.told
