-- One place more.
use Rattle.mdl_view_text.specs.Explanations.{ends_word}
use Rattle.mdl_view_text.proofs.WordLemmas.{one_end_more}
use Rattle.mdl_view_text.proofs.refused_words.word_ends.Goals as goal

pub loop-place-preserved : goal.loop-place-preserved
loop-place-preserved c =
    one_end_more (ends_word c.args.line.now) c.loop-place.place c.loop-place.ends.items c.add_end.new.ends.items c.loop-place.invariant c.in_ok-add_end.ensures
