-- The pieces, one behind the other.
use Rattle.std.proofs.Common.{◌∙◌, ◌++◌, ap, codes}
use Rattle.mdl_view_text.specs.Json.{tickets_member}
use Rattle.mdl_view_text.proofs.Pieces.{behind, last_behind}
use Rattle.mdl_view_text.proofs.json_why.push_way_waits.Goals as goal

pub returns : goal.returns
returns c =
    last_behind c.push.result c.args.out.now.items (tickets_member c.args.names.now (codes ",\"at_once\":") c.args.found.now.at_once.items ++ tickets_member c.args.names.now (codes ",\"in_turn\":") c.args.found.now.in_turn.items) (codes "}") c.push_tickets_member-2.new.out.items c.push.new.out.items
    (behind c.args.out.now.items (tickets_member c.args.names.now (codes ",\"at_once\":") c.args.found.now.at_once.items) (tickets_member c.args.names.now (codes ",\"in_turn\":") c.args.found.now.in_turn.items) c.push_tickets_member.new.out.items c.push_tickets_member-2.new.out.items
    (c.in_ok-push_tickets_member.ensures ∙ ap (λ x. c.args.out.now.items ++ tickets_member c.args.names.now (codes ",\"at_once\":") x) c.deref.ensures.value)
    (c.in_ok-push_tickets_member-2.ensures ∙ ap (λ x. c.push_tickets_member.new.out.items ++ tickets_member c.args.names.now (codes ",\"in_turn\":") x) c.deref-2.ensures.value)) c.push.ensures
