-- Each list is among the other.
use Rattle.mdl_book.proofs.MemberLemmas.{lawful-among}
use Rattle.mdl_book.proofs.laws.lawful_by_members.Goals as goal

pub returns : goal.returns
returns c = λ kind a b same. (lawful-among kind a b (λ t. (same t).1), lawful-among kind b a (λ t. (same t).0))
