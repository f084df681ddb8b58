-- By what a packed word's counts tell of the fast tickets.
use Rattle.mdl_visits.proofs.Lemmas.{can_be_granted-fast, inl, inr, sym, ◌∙◌}
use Rattle.mdl_visits.proofs.laws.waits_left_werent_grantable.Goals as goal

pub returns : goal.returns
returns c = λ id place word h tickets m m′ passed t among known is. elim (passed t among known is) [
  | inl settled ↦ inl settled
  | inr cannot ↦ inr (λ fast counts others. sym (can_be_granted-fast counts h.book.granted h.book.waiting t.session t.mode others) ∙ cannot)
]
