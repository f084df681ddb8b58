-- The names are those of the modes, one for one.
use Rattle.std.proofs.Common.{ℕ, List, Bor, sym, ◌∙◌, rules}
use Rattle.std.proofs.lemmas.Iterator.{YieldsList-from_slice, YieldsList-from_map_by}
use Rattle.std.proofs.lemmas.Iterator.Consumers.{YieldsList-at, map_from_collect}
use Rattle.mdl_key.specs.Modes.{mode_name}
use Rattle.mdl_lock.proofs.MatrixRows.{joined_names}
use Rattle.mdl_lock.proofs.matrices.row_text.Goals as goal

pub returns : goal.returns
returns c =
    let same = rw c.in_ok-names.was at
    (map_from_collect c.collect.result c.collect.ensures.ran
    (YieldsList-from_map_by _ (λ (name : Bor (List ℕ)). name.now) mode_name (YieldsList-at c.map.ensures.source (YieldsList-from_slice c.args.row.now c.iter.ensures.rest)) c.map.ensures.closure (λ x r q k. search rules))) in
    let text = joined_names (λ (name : Bor (List ℕ)). name.now) _ c.args.row.now (sym c.is_empty.ensures ∙ c.if-is_empty.false) (rw (← c.deref.ensures.value) at same) in
    rw text at c.join.ensures.ok
