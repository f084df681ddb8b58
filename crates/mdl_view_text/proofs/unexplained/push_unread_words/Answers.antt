-- The name and the rest are what they are to be.
use Rattle.std.proofs.Common.{◌≡◌, ◌∙◌, ◌++◌, ℕ, List, OnOk, codes, subst}
use Rattle.mdl_view_text.specs.Layouts.{line_with}
use Rattle.mdl_view_text.specs.Why.{unread_rest}
use Rattle.mdl_view_text.proofs.unexplained.push_unread_words.Goals as goal

pub returns : goal.returns
returns c =
    subst (λ (x : List ℕ). OnOk c.push_line_with.result (c.push_line_with.new.out.items ≡ c.args.out.now.items ++ line_with (codes "   rows that wait and aren't read: ") x (unread_rest c.args.left.now)))
    (c.deref.ensures.value ∙ c.in_ok-name.ensures)
    (subst (λ (y : List ℕ). OnOk c.push_line_with.result (c.push_line_with.new.out.items ≡ c.args.out.now.items ++ line_with (codes "   rows that wait and aren't read: ") c.deref.result.now y))
    (c.deref-2.ensures.value ∙ c.in_ok-rest.ensures) c.push_line_with.ensures)
