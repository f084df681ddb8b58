-- The pieces, one behind the other.
use Rattle.std.proofs.Common.{◌∙◌, ◌++◌, ap, codes}
use Rattle.mdl_view_text.specs.Json.{ticket_object}
use Rattle.mdl_view_text.specs.Layouts.{listed}
use Rattle.mdl_view_text.proofs.Pieces.{behind, last_behind}
use Rattle.mdl_view_text.proofs.json_rows.push_granted_member.Goals as goal

pub returns : goal.returns
returns c =
    last_behind c.push-2.result c.args.out.now.items (codes ",\"granted\":[" ++ listed (codes ",") (ticket_object c.args.names.now) 0 c.args.lock.now.granted) (codes "]") c.push_granted.new.out.items c.push-2.new.out.items
    (behind c.args.out.now.items (codes ",\"granted\":[") (listed (codes ",") (ticket_object c.args.names.now) 0 c.args.lock.now.granted) c.push.new.out.items c.push_granted.new.out.items
    c.in_ok-push.ensures (c.in_ok-push_granted.ensures ∙ ap (λ x. c.push.new.out.items ++ listed (codes ",") (ticket_object c.args.names.now) 0 x) c.granted.ensures)) c.push-2.ensures
