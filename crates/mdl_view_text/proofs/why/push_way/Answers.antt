-- The pieces, one behind the other.
use Rattle.std.proofs.Common.{◌≡◌, ◌++◌, List, OnOk, subst}
use Rattle.mdl_view.specs.declared.at_lock.AtLock.{AtLock}
use Rattle.mdl_view_text.specs.Why.{granted_lines, held_text, way_head}
use Rattle.mdl_view_text.proofs.Pieces.{behind, last_behind}
use Rattle.mdl_view_text.proofs.why.push_way.Goals as goal

pub returns : goal.returns
returns c =
    last_behind c.push_granted.result c.args.out.now.items (way_head c.args.names.now c.args.place c.args.found.now.way ++ held_text c.args.names.now c.args.found.now) (granted_lines c.args.names.now c.args.found.now.at_once.items) c.push_held.new.out.items c.push_granted.new.out.items
    (behind c.args.out.now.items (way_head c.args.names.now c.args.place c.args.found.now.way) (held_text c.args.names.now c.args.found.now) c.push_way_head.new.out.items c.push_held.new.out.items
    c.in_ok-push_way_head.ensures c.in_ok-push_held.ensures)
    (subst (λ (x : List AtLock). OnOk c.push_granted.result (c.push_granted.new.out.items ≡ c.push_held.new.out.items ++ granted_lines c.args.names.now x)) c.deref.ensures.value c.push_granted.ensures)
