-- The next one is found by a test that says so.
use Rattle.std.proofs.Common.{refl}
use Rattle.mdl_book.proofs.FastLemmas.{next_grantable-covered}
use Rattle.mdl_book.proofs.laws.who_is_next_is_grantable.Goals as goal

pub returns : goal.returns
returns c = λ word fast unsettled lists ticket covers next. next_grantable-covered covers unsettled lists ticket refl next
