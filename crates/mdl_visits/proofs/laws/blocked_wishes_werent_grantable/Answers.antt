-- By what a packed word's counts tell of the fast tickets.
use Rattle.mdl_visits.proofs.Lemmas.{can_be_granted-fast, sym, ◌∙◌}
use Rattle.mdl_visits.proofs.laws.blocked_wishes_werent_grantable.Goals as goal

pub returns : goal.returns
returns c = λ place who mode e meets.
    let book = meets.latch.book in
    (meets.latch, meets.word, meets.held, λ fast counts others. sym (can_be_granted-fast counts book.granted book.waiting who mode others) ∙ meets.blocked)
