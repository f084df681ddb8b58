-- A new pin is counted. No count is above the number of sessions.
use Rattle.std.proofs.Common.{rules, ◌≡◌, ◌<◌, ◌-◌, length, true, false, ap, ◌∙◌, arith}
use Rattle.std.proofs.lemmas.List.{get_or_default}
use Rattle.mdl_space.proofs.PinCountLemmas.{counts-kept, counts-more, counts-bounded, pins, pins-with_same}
use Rattle.mdl_space.proofs.SettledLemmas.{settled-kept}
use Rattle.mdl_space.proofs.core_space.CoreSpace.pin.Goals as goal

pub overflow_add-index_mut : goal.overflow_add-index_mut
overflow_add-index_mut c =
    let counted : c.from-then-branch.result < length c.self.inside.pinned.items = search rules in
    let most = counts-bounded c.self.inside.pinned.items c.self.inside.seats.items c.self.invariant.pinned c.from-then-branch.result in
    let sessions = c.self.invariant.sessions in
    let read = c.index_mut.ensures.value in
    grind (arith, get_or_default)

pub invariant_of-self-then-branch : goal.invariant_of-self-then-branch
invariant_of-self-then-branch c =
    let seats = c.self.inside.seats.items in
    let seat = c.index_mut-seat.result.now in
    let inside : c.from.result - 1 < length seats = search rules in
    let counted : c.from-then-branch.result < length c.self.inside.pinned.items = search rules in
    let fresh : pins c.args.place seat ≡ false = search rules in
    let pinned = counts-more c.self.inside.pinned.items seats (c.from.result - 1) seat c.pin.new.self inside (search rules) c.self.invariant.pinned
    c.args.place c.from-then-branch.result c.index_mut.result.now c.from-then-branch.ensures counted c.index_mut.ensures.value fresh c.in_ok-pin.ensures.pinned in
    let same : c.pin.new.self.wait ≡ seat.wait = search rules in
    let settled = settled-kept seats (c.from.result - 1) seat c.pin.new.self inside (search rules) same in
    search (rules, pinned, settled)

pub invariant_of-self-else-branch : goal.invariant_of-self-else-branch
invariant_of-self-else-branch c =
    let seats = c.self.inside.seats.items in
    let seat = c.index_mut-seat.result.now in
    let inside : c.from.result - 1 < length seats = search rules in
    let had : pins c.args.place seat ≡ true = search rules in
    let pinned = counts-kept c.self.inside.pinned.items seats (c.from.result - 1) seat c.pin.new.self inside (search rules) c.self.invariant.pinned
    (λ place. ap (pins place) c.in_ok-pin.ensures.pinned ∙ pins-with_same c.args.place seat had place) in
    let same : c.pin.new.self.wait ≡ seat.wait = search rules in
    let settled = settled-kept seats (c.from.result - 1) seat c.pin.new.self inside (search rules) same in
    search (rules, pinned, settled)
