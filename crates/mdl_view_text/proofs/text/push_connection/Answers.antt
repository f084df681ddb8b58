-- The pieces, one behind the other.
use Rattle.std.proofs.Common.{[], codes}
use Rattle.mdl_view_text.specs.Names.{numbered}
use Rattle.mdl_view_text.proofs.Pieces.{last_behind}
use Rattle.mdl_view_text.proofs.text.push_connection.Goals as goal

pub returns : goal.returns
returns c =
    last_behind c.push_numbered-2.result c.args.out.now.items (numbered (codes "connection ") c.args.connection (codes " (thread ")) (numbered [] c.args.thread (codes ")")) c.push_numbered.new.out.items c.push_numbered-2.new.out.items
    c.in_ok-push_numbered.ensures c.push_numbered-2.ensures
