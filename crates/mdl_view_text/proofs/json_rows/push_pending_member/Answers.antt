-- The pieces, one behind the other.
use Rattle.std.proofs.Common.{◌∙◌, ◌++◌, ap, codes}
use Rattle.mdl_view_text.specs.Json.{waiting_object}
use Rattle.mdl_view_text.specs.Layouts.{listed}
use Rattle.mdl_view_text.proofs.Pieces.{behind, last_behind}
use Rattle.mdl_view_text.proofs.json_rows.push_pending_member.Goals as goal

pub returns : goal.returns
returns c =
    last_behind c.push-2.result c.args.out.now.items (codes ",\"waiting\":[" ++ listed (codes ",") (waiting_object c.args.names.now (codes "PENDING")) 0 c.args.lock.now.waiting) (codes "]") c.push_waiting.new.out.items c.push-2.new.out.items
    (behind c.args.out.now.items (codes ",\"waiting\":[") (listed (codes ",") (waiting_object c.args.names.now (codes "PENDING")) 0 c.args.lock.now.waiting) c.push.new.out.items c.push_waiting.new.out.items
    c.in_ok-push.ensures (c.in_ok-push_waiting.ensures ∙ ap (λ x. c.push.new.out.items ++ listed (codes ",") (waiting_object c.args.names.now (codes "PENDING")) 0 x) c.waiting.ensures)) c.push-2.ensures
