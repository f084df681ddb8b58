-- What the iterator gives.
use Rattle.std.proofs.Common.{◌==◌, ℕ, List, Bor, rules, tests}
use Rattle.std.specs.Str.Lines.{strip_carriage_return}
use Rattle.std.proofs.lemmas.Iterator.{YieldsList-from_map_by}
use Rattle.std.proofs.lemmas.Iterator.Consumers.{YieldsList-at, map_from_collect}
use Rattle.std.proofs.lemmas.Iterator.Splits.{YieldsList-from_slice_split}
use Rattle.mdl_lines.proofs.lines.lines_of.Goals as goal

pub returns : goal.returns
returns c =
    map_from_collect _ c.collect.ensures.ran (YieldsList-from_map_by _ (λ (line : Bor (List ℕ)). line.now) strip_carriage_return
    (YieldsList-at c.map.ensures.source (YieldsList-from_slice_split _ (λ byte. byte == 10) c.args.text.now c.split.ensures.rest c.split.ensures.done c.split.ensures.closure (λ x b q k. search (rules, tests))))
    c.map.ensures.closure (λ x b q k. search (rules, tests)))
