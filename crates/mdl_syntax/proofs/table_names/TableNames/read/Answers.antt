use Rattle.std.proofs.Common.{length, ap, ◌∙◌, arith}
use Rattle.std.proofs.lemmas.Bool.Decides.{nat_tests}
use Rattle.std.proofs.lemmas.List.{length-map}
use Rattle.mdl_key.specs.Keys.{table_key}
use Rattle.mdl_lines.specs.Lines.{words_of}
use Rattle.mdl_syntax.specs.Forms.{each_word, more_tables}
use Rattle.mdl_syntax.proofs.TableLemmas.{listed-some}
use Rattle.mdl_syntax.proofs.table_names.TableNames.read.Goals as goal

pub returns : goal.returns
returns c =
    let read = c.loop-word.invariant.read ∙ ap (each_word more_tables c.loop-word.tables) c.in_default.ensures.word in
    let same = ap length c.as_slice.ensures ∙ length-map c.as_slice.result.now (λ name. table_key name.schema.now name.table.now) in
    listed-some more_tables (words_of c.args.words.now) c.loop-word.tables read (λ none. let no_length = ap length none in grind (arith, nat_tests))
