-- All tickets were looked at, and sorted by their places.
use Rattle.mdl_shared.proofs.Lemmas.{answers_always, arith, fast_of, rules, sorted, take_all}
use Rattle.mdl_shared.proofs.tickets.Tickets.list_fast.Goals as goal

pub returns : goal.returns
returns c =
    let listed = rw (take_all c.loop-gained.gained-index c.deref-gained-items.result.now (omega arith), c.deref-gained-items.ensures.value) at c.loop-gained.invariant in
    let keys = answers_always _ _ _ (λ f a r next called. search rules) in
    let done = c.in_ok-sort_by_key.ensures in
    rw (← c.self.view_is) (sorted (fast_of c.self.inside.places.items c.self.inside.gained.items) c.loop-gained.listed.items c.sort_by_key.new.self.items listed
    (done.sorted (λ t. t.place) keys) (c.sort_by_key.ensures.stable (λ t. t.place) keys))
