use Rattle.std.proofs.Common.{◌≡◌, false, sym, arith}
use Rattle.std.specs.List.{list_any}
use Rattle.mdl_key.specs.Keys.{key_eq, table_key}
use Rattle.mdl_syntax.proofs.TableLemmas.{add-full, add-more}
use Rattle.mdl_syntax.proofs.table_names.TableNames.add.Goals as goal

pub returns-then-self-eq-MOST_TABLES : goal.returns-then-self-eq-MOST_TABLES
returns-then-self-eq-MOST_TABLES c =
    add-full (λ name. table_key name.schema.now name.table.now) c.self.inside.names c.self.inside.count c.args.self.now c.args.word.now (sym c.self.view_is) c.self.invariant.1 c.if-self-eq-MOST_TABLES.true

pub returns : goal.returns
returns c =
    let new : list_any (key_eq (table_key c.in-Some.name.schema.now c.in-Some.name.table.now)) c.args.self.now ≡ false = cc in
    add-more (λ name. table_key name.schema.now name.table.now) c.self.inside.names c.self.inside.count c.args.self.now c.args.word.now c.in-Some.name (sym c.self.view_is) c.self.invariant.1 (omega arith) c.in-Some.ensures new
