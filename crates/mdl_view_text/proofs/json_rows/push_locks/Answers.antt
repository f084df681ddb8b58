-- One element more.
use Rattle.std.proofs.Common.{◌++◌, codes}
use Rattle.mdl_view_text.specs.Json.{lock_object}
use Rattle.mdl_view_text.specs.Layouts.{listed}
use Rattle.mdl_view_text.proofs.Pieces.{next_listed}
use Rattle.mdl_view_text.proofs.json_rows.push_locks.Goals as goal

pub loop-place-preserved : goal.loop-place-preserved
loop-place-preserved c =
    next_listed (codes ",") (lock_object c.args.names.now) c.args.locks.now c.loop-place.place c.index-locks-place.result
    (c.args.out.now.items ++ listed (codes ",") (lock_object c.args.names.now) 0 c.args.locks.now) c.loop-place.out.items c.push_mark.new.out.items
    c.push_lock.new.out.items c.loop-place-test.true c.index-locks-place.is c.loop-place.invariant c.in_ok-push_mark.ensures c.in_ok-push_lock.ensures
