-- The count of a place tells whether a session pins it.
use Rattle.std.proofs.Common.{rules, ◌≡◌, ◌<◌, length, ap, ◌∙◌}
use Rattle.mdl_book.specs.declared.book_view.BookView.{BookView}
use Rattle.mdl_core.specs.Cores.{Core, book_at}
use Rattle.mdl_space.proofs.PlaceLemmas.{used-by_pin, used-by_version}
use Rattle.mdl_space.proofs.ServingLemmas.{book_here}
use Rattle.mdl_space.proofs.core_space.CoreSpace.is_in_use.Goals as goal

pub returns-then-index-ne0 : goal.returns-then-index-ne0
returns-then-index-ne0 c =
    let counted : c.from.result < length c.self.inside.pinned.items = search rules in
    used-by_pin c.args.self.now _ c.self.inside.pinned.items c.args.place c.from.result c.index.result.now c.self.view_is c.self.invariant.pinned c.from.ensures
    counted c.index.ensures (search rules)

pub returns-else-index-ne0 : goal.returns-else-index-ne0
returns-else-index-ne0 c =
    let core : Core = c.args.self.now in
    let counted : c.from.result < length c.self.inside.pinned.items = search rules in
    let book : c.index-else-index-ne0.result.now ≡ book_at c.args.place core =
    book_here core _ c.args.place c.from-else-index-ne0.result c.index-else-index-ne0.result.now (ap (λ (k : Core). k.books) c.self.view_is) c.requires
    c.from-else-index-ne0.ensures c.index-else-index-ne0.ensures in
    used-by_version core _ c.self.inside.pinned.items c.args.place c.from.result c.index.result.now c.self.view_is c.self.invariant.pinned c.from.ensures
    counted c.index.ensures c.version.result (search rules) (c.version.ensures ∙ ap (λ (b : BookView). b.standing.version) book)
