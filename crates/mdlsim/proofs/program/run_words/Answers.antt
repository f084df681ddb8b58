-- Words that are refused ask for no run, unless memory ran out.
use Rattle.std.proofs.Common.{drop, map}
use Rattle.mdlsim.proofs.WordEnds.{ends_by_words}
use Rattle.mdlsim.proofs.program.run_words.Goals as goal

pub returns-clause-others : goal.returns-clause-others
returns-clause-others g c other none =
    ends_by_words (drop 1 (map g.S.AsStr.text c.args.words.now)) c.command-asked.result c.lacks_memory.result c.run_asked.result
    (g.R.Read.remaining c.args.input.now) (g.W.Write.contents c.args.output.now) (g.W.Write.contents c.run_asked.new.output)
    (g.E.Write.contents c.args.errors.now) (g.E.Write.contents c.run_asked.new.errors)
    c.if-lacks_memory.false c.command-asked.ensures.asked c.command-asked.ensures.taken c.lacks_memory.ensures.refused
    c.run_asked.ensures.ran c.run_asked.ensures.refused
