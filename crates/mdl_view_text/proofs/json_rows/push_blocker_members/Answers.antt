-- The pieces, one behind the other.
use Rattle.std.proofs.Common.{◌∙◌, ◌++◌, ap, codes}
use Rattle.mdl_view.specs.Modes.{lock_mode_name}
use Rattle.mdl_view_text.specs.Json.{reason_word, session_member, text_member}
use Rattle.mdl_view_text.proofs.Pieces.{behind, last_behind}
use Rattle.mdl_view_text.proofs.json_rows.push_blocker_members.Goals as goal

pub returns : goal.returns
returns c =
    last_behind c.push_mode_member.result c.args.out.now.items (session_member c.args.names.now (codes ",\"blocking\":") c.args.blocking.other.session ++ text_member (codes ",\"reason\":") (reason_word c.args.blocking.reason)) (text_member (codes ",\"blocking_mode\":") (lock_mode_name c.args.blocking.other.mode)) c.push_text_member.new.out.items c.push_mode_member.new.out.items
    (behind c.args.out.now.items (session_member c.args.names.now (codes ",\"blocking\":") c.args.blocking.other.session) (text_member (codes ",\"reason\":") (reason_word c.args.blocking.reason)) c.push_session_member.new.out.items c.push_text_member.new.out.items
    c.in_ok-push_session_member.ensures (c.in_ok-push_text_member.ensures ∙ ap (λ x. c.push_session_member.new.out.items ++ text_member (codes ",\"reason\":") x) c.reason_word.ensures)) c.push_mode_member.ensures
