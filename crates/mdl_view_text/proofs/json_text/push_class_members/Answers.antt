-- The pieces, one behind the other.
use Rattle.std.proofs.Common.{◌≡◌, ◌∙◌, ◌++◌, ℕ, List, OnOk, ap, codes, subst}
use Rattle.mdl_view_text.specs.Json.{text_member}
use Rattle.mdl_view_text.proofs.Pieces.{last_behind}
use Rattle.mdl_view_text.proofs.json_text.push_class_members.Goals as goal

pub returns : goal.returns
returns c =
    last_behind c.push_text_member-2.result c.args.out.now.items (text_member (codes "{\"object_type\":") c.args.left.now.class.object_type) (text_member (codes ",\"lock_type\":") c.args.left.now.class.lock_type) c.push_text_member.new.out.items c.push_text_member-2.new.out.items
    (c.in_ok-push_text_member.ensures ∙ ap (λ x. c.args.out.now.items ++ text_member (codes "{\"object_type\":") x) c.object_type.ensures)
    (subst (λ (x : List ℕ). OnOk c.push_text_member-2.result (c.push_text_member-2.new.out.items ≡ c.push_text_member.new.out.items ++ text_member (codes ",\"lock_type\":") x)) c.lock_type.ensures c.push_text_member-2.ensures)
