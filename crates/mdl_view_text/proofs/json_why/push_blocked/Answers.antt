-- One element more.
use Rattle.std.proofs.Common.{◌++◌, codes}
use Rattle.mdl_view_text.specs.Json.{blocked_object}
use Rattle.mdl_view_text.specs.Layouts.{listed}
use Rattle.mdl_view_text.proofs.Pieces.{next_listed}
use Rattle.mdl_view_text.proofs.json_why.push_blocked.Goals as goal

pub loop-place-preserved : goal.loop-place-preserved
loop-place-preserved c =
    next_listed (codes ",") (blocked_object c.args.names.now) c.args.waits.now c.loop-place.place c.index-waits-place.result
    (c.args.out.now.items ++ listed (codes ",") (blocked_object c.args.names.now) 0 c.args.waits.now) c.loop-place.out.items c.push_mark.new.out.items
    c.push_blocked_wait.new.out.items c.loop-place-test.true c.index-waits-place.is c.loop-place.invariant c.in_ok-push_mark.ensures c.in_ok-push_blocked_wait.ensures
