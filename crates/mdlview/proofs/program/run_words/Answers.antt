-- Words that are refused ask for nothing, unless memory ran out.
use Rattle.std.proofs.Common.{◌∙◌, map}
use Rattle.clap.specs.Words.{kind_of}
use Rattle.clap.proofs.WalkLemmas.{list_any-map}
use Rattle.mdlview.specs.Runs.{is_help_word}
use Rattle.mdlview.proofs.RunEnds.{refused_ends}
use Rattle.mdlview.proofs.program.run_words.Goals as goal

pub returns-in-Err-clause-others : goal.returns-in-Err-clause-others
returns-in-Err-clause-others g c other =
    refused_ends (map g.S.AsStr.text c.args.words.now) (kind_of c.in-Err.refusal) c.calls_for_help.result c.tell_refusal.result
    (g.R.Read.remaining c.args.input.now) (g.W.Write.contents c.args.output.now) (g.W.Write.contents c.tell_refusal.new.output)
    c.in-Err.ensures.taken (c.calls_for_help.ensures ∙ list_any-map is_help_word g.S.AsStr.text c.args.words.now)
    c.tell_refusal.ensures.memory c.tell_refusal.ensures.help c.tell_refusal.ensures.refused
