-- Both ways by a lemma.
use Rattle.mdl_word.proofs.BlockLemmas.{blocks_by-from_clash, clash_from_blocks_by}
use Rattle.mdl_word.proofs.laws.blocks_where_counted_tickets_clash.Goals as goal

pub returns : goal.returns
returns c = λ counts kind ask. (clash_from_blocks_by counts kind ask, λ clash. blocks_by-from_clash counts kind ask clash.0 clash.1 clash.2)
