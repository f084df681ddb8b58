-- The next key is listed, where it is that of a table.
use Rattle.std.proofs.Common.{◌≡◌, ℕ, ◌+◌, ◌<◌, List, [], ◌∷◌, ◌++◌, length, take, sym, ap, ◌∙◌, arith, length-take-le}
use Rattle.mdl_steps.proofs.Lemmas.{KeyName, KnownKey, table_at, tables_from, tables_more, take_more}
use Rattle.mdl_steps.proofs.schemas.list_tables.Goals as goal

pub loop-index-preserved : goal.loop-index-preserved
loop-index-preserved c =
    let i : ℕ = c.loop-index.index in
    let keys : List KeyName = c.args.keys.now in
    let schema : List ℕ = c.args.schema.now in
    let key : KeyName = c.index-keys-index.result in
    let inside : i < length keys = c.loop-index-test.true in
    let place : i + 1 ≡ 1 + length (take i keys) = (let so_far = length-take-le i keys (omega (arith, inside)) in omega (arith, so_far)) in
    c.in_ok-list_table.ensures
    ∙ ap (λ (ts : List KnownKey). ts ++ table_at schema (i + 1) key) c.loop-index.invariant
    ∙ ap (λ (p : ℕ). tables_from schema 1 (take i keys) ++ table_at schema p key) place
    ∙ sym (tables_more schema 1 (take i keys) key)
    ∙ ap (tables_from schema 1) (ap (λ (k : KeyName). take i keys ++ k ∷ []) c.index-keys-index.is ∙ sym (take_more keys i key inside))
