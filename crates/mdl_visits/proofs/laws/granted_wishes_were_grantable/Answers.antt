-- By what lets a ticket join those that are granted.
use Rattle.mdl_visits.proofs.Lemmas.{and_from, may_join}
use Rattle.mdl_visits.proofs.laws.granted_wishes_were_grantable.Goals as goal

pub returns : goal.returns
returns c = λ place who mode deed e meets.
    let latch = meets.latch in (
      latch,
      meets.did,
      meets.word,
      meets.freed,
      meets.held,
      λ fast lawful counts. and_from _ _ (may_join who latch.book fast latch.obtrusive latch.noted mode lawful counts meets.beside) meets.first,
    )
