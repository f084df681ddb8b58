-- The words of C name a wish, or a key that there can't be.
use Rattle.std.proofs.Common.{◌≡◌, refl, sym, ◌∙◌}
use Rattle.mdl_context.specs.Requests.{trying}
use Rattle.mdl_c_calls.specs.ContextCodes.{tried_code, tried_told}
use Rattle.mdl_c_calls.specs.Exports.{Tells}
use Rattle.mdl_c_calls.specs.Transactions.{Reports, ServesContext}
use Rattle.mdl_c_calls.proofs.WishLemmas.{unwished, wished}
use Rattle.mdl_c_calls.proofs.transactions.gaz_one_try_acquire.Goals as goal

pub returns-in-Ok : goal.returns-in-Ok
returns-in-Ok c =
    let before = c.args.space.now.handle.manager in let after = c.try_acquire.new.space.handle.manager in
    wished c.args.namespace c.args.schema.now c.args.table.now c.args.mode c.args.duration c.in-Some.mode c.in-Some-duration_of.duration c.in-Ok.key
    (λ wish. ServesContext c.args.who (trying wish) tried_code before c.try_acquire.result after (Reports tried_told c.args.ticket.now c.try_acquire.new.ticket))
    (λ wrong. Tells wrong before c.try_acquire.result after × (c.try_acquire.new.ticket ≡ c.args.ticket.now))
    (sym c.mode_of.ensures ∙ c.in-Some.is) (sym c.duration_of.ensures ∙ c.in-Some-duration_of.is) c.in-Ok.ensures c.try_acquire.ensures

pub returns-in-Err : goal.returns-in-Err
returns-in-Err c =
    let before = c.args.space.now.handle.manager in let ticket = c.args.ticket.now in
    unwished c.args.namespace c.args.schema.now c.args.table.now c.args.mode c.args.duration c.in-Some.mode c.in-Some-duration_of.duration c.in-Err.code
    (λ wish. ServesContext c.args.who (trying wish) tried_code before c.in-Err.code before (Reports tried_told ticket ticket))
    (λ wrong. Tells wrong before c.in-Err.code before × (ticket ≡ ticket))
    (sym c.mode_of.ensures ∙ c.in-Some.is) (sym c.duration_of.ensures ∙ c.in-Some-duration_of.is) c.in-Err.ensures ((refl, refl), refl)
