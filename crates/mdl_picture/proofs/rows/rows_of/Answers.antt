-- The rows of one moment more.
use Rattle.std.proofs.Common.{[]}
use Rattle.mdl_picture.specs.Rows.{with_moment_rows}
use Rattle.mdl_picture.proofs.FoldLemmas.{one_more}
use Rattle.mdl_picture.proofs.rows.rows_of.Goals as goal

pub loop-moment-preserved : goal.loop-moment-preserved
loop-moment-preserved c =
    one_more with_moment_rows [] c.args.moments.now c.loop-moment.moment-index c.moment-item.result c.loop-moment.rows.items c.add_moment_rows.new.rows.items
    c.loop-moment-test.true c.moment-item.is c.loop-moment.invariant c.in_ok-add_moment_rows.ensures
