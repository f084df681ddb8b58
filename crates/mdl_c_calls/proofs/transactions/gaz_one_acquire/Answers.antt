-- The words of C name a wish, or a key that there can't be.
use Rattle.std.proofs.Common.{◌≡◌, refl, sym, ◌∙◌}
use Rattle.mdl_context.specs.Requests.{acquiring}
use Rattle.mdl_c_calls.specs.ContextCodes.{acquire_code, acquire_told}
use Rattle.mdl_c_calls.specs.Exports.{Tells}
use Rattle.mdl_c_calls.specs.Transactions.{Reports, ServesContext}
use Rattle.mdl_c_calls.proofs.WishLemmas.{unwished, wished}
use Rattle.mdl_c_calls.proofs.transactions.gaz_one_acquire.Goals as goal

pub returns-in-Ok : goal.returns-in-Ok
returns-in-Ok c =
    let before = c.args.space.now.handle.manager in let after = c.acquire.new.space.handle.manager in
    wished c.args.namespace c.args.schema.now c.args.table.now c.args.mode c.args.duration c.in-Some.mode c.in-Some-duration_of.duration c.in-Ok.key
    (λ wish. ServesContext c.args.who (acquiring wish) acquire_code before c.acquire.result after (Reports acquire_told c.args.number.now c.acquire.new.number))
    (λ wrong. Tells wrong before c.acquire.result after × (c.acquire.new.number ≡ c.args.number.now))
    (sym c.mode_of.ensures ∙ c.in-Some.is) (sym c.duration_of.ensures ∙ c.in-Some-duration_of.is) c.in-Ok.ensures c.acquire.ensures

pub returns-in-Err : goal.returns-in-Err
returns-in-Err c =
    let before = c.args.space.now.handle.manager in let number = c.args.number.now in
    unwished c.args.namespace c.args.schema.now c.args.table.now c.args.mode c.args.duration c.in-Some.mode c.in-Some-duration_of.duration c.in-Err.code
    (λ wish. ServesContext c.args.who (acquiring wish) acquire_code before c.in-Err.code before (Reports acquire_told number number))
    (λ wrong. Tells wrong before c.in-Err.code before × (number ≡ number))
    (sym c.mode_of.ensures ∙ c.in-Some.is) (sym c.duration_of.ensures ∙ c.in-Some-duration_of.is) c.in-Err.ensures ((refl, refl), refl)
