-- The pieces, one behind the other.
use Rattle.std.proofs.Common.{codes}
use Rattle.mdl_view.specs.Modes.{lock_mode_name}
use Rattle.mdl_view_text.specs.Json.{session_member, text_member}
use Rattle.mdl_view_text.proofs.Pieces.{last_behind}
use Rattle.mdl_view_text.proofs.json_text.push_ticket_members.Goals as goal

pub returns : goal.returns
returns c =
    last_behind c.push_mode_member.result c.args.out.now.items (session_member c.args.names.now (codes "{\"session\":") c.args.ticket.session) (text_member (codes ",\"mode\":") (lock_mode_name c.args.ticket.mode)) c.push_session_member.new.out.items c.push_mode_member.new.out.items
    c.in_ok-push_session_member.ensures c.push_mode_member.ensures
