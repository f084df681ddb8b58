-- One class more.
use Rattle.std.proofs.Common.{◌++◌, codes}
use Rattle.mdl_view_text.specs.Json.{left_out_object}
use Rattle.mdl_view_text.specs.Layouts.{listed}
use Rattle.mdl_view_text.proofs.Pieces.{next_listed}
use Rattle.mdl_view_text.proofs.json_text.push_classes.Goals as goal

pub loop-place-preserved : goal.loop-place-preserved
loop-place-preserved c =
    next_listed (codes ",") left_out_object c.args.classes.now c.loop-place.place c.index-classes-place.result
    (c.args.out.now.items ++ listed (codes ",") left_out_object 0 c.args.classes.now) c.loop-place.out.items c.push_mark.new.out.items
    c.push_class.new.out.items c.loop-place-test.true c.index-classes-place.is c.loop-place.invariant c.in_ok-push_mark.ensures c.in_ok-push_class.ensures
