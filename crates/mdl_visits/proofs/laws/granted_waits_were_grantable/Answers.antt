-- By what lets a ticket join those that are granted.
use Rattle.mdl_visits.proofs.Lemmas.{and_from, may_join}
use Rattle.mdl_visits.proofs.laws.granted_waits_were_grantable.Goals as goal

pub returns : goal.returns
returns c = λ id place m m′ g e meets.
    let before = meets.before in (
      before,
      meets.wish,
      meets.held,
      meets.waits,
      λ fast lawful counts. and_from _ _ (may_join g.session before.book fast before.obtrusive before.noted meets.wish.mode lawful counts meets.beside) meets.first,
    )
