-- No bit is set, so no number is contained.
use Rattle.std.proofs.Common.{nat_cmp, ◌∙◌, sym}
use Rattle.std.specs.FinSet as set
use Rattle.std.specs.Cmp.{nat_cmp_total}
use Rattle.mdl_book.proofs.SessionLemmas.{contains-zeros}
use Rattle.mdl_book.proofs.sessions.Sessions.new.Goals as goal

pub returns : goal.returns
returns c = set.same_set nat_cmp_total set.nat_cmp-IsAntisymmetric _ _ (λ q. contains-zeros q ∙ sym (set.contains-empty nat_cmp q))
