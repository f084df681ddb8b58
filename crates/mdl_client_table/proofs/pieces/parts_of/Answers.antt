-- The parts that the iterator gives, collected.
use Rattle.std.proofs.Common.{◌==◌, rules, tests}
use Rattle.std.proofs.lemmas.Iterator.Consumers.{map_from_collect}
use Rattle.std.proofs.lemmas.Iterator.Splits.{YieldsList-from_slice_split}
use Rattle.mdl_client_table.proofs.pieces.parts_of.Goals as goal

pub returns : goal.returns
returns c =
    map_from_collect c.collect.result c.collect.ensures.ran
    (YieldsList-from_slice_split _ (λ byte. byte == c.args.separator) c.args.line.now c.split.ensures.rest c.split.ensures.done c.split.ensures.closure (λ x b q k. search (rules, tests)))
