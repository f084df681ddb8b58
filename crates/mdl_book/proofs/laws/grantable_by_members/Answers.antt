-- Each list is among the other.
use Rattle.mdl_book.proofs.MemberLemmas.{grantable-among}
use Rattle.mdl_book.proofs.laws.grantable_by_members.Goals as goal

pub returns : goal.returns
returns c = λ kind granted granted′ waiting waiting′ session mode same same′. (
  grantable-among kind granted granted′ waiting waiting′ session mode (λ t. (same t).1) (λ t. (same′ t).1),
  grantable-among kind granted′ granted waiting′ waiting session mode (λ t. (same t).0) (λ t. (same′ t).0),
)
