-- Both tickets stand in the book, and the mode of the one that goes clashes with no other session's.
use Rattle.std.proofs.Common.{subst}
use Rattle.mdl_key.specs.Refusals.{RefusesJust}
use Rattle.mdl_book.specs.declared.book_view.BookView.{BookView}
use Rattle.mdl_book.specs.Books.{change_fault, lock_kind, removing}
use Rattle.mdl_space.proofs.ModeLemmas.{changed_unrefused, stands_without, compatible_without}
use Rattle.mdl_space.proofs.granting.fold.Goals as goal

pub unwrap-requires-2 : goal.unwrap-requires-2
unwrap-requires-2 c =
    let book : BookView = c.args.book.now in
    let left : BookView = removing c.args.who c.args.gone.id book in
    changed_unrefused c.args.who c.args.kept c.args.gone.mode left c.set_mode.result
    (subst (λ (b : BookView). RefusesJust (change_fault c.args.who c.args.kept c.args.gone.mode 0 b) c.set_mode.result) c.remove.ensures.removed c.set_mode.ensures.refused)
    (stands_without c.args.who c.args.kept c.args.gone.id book.granted c.requires.two c.requires.kept)
    (compatible_without (lock_kind book) c.args.who c.args.gone.id c.args.who c.args.gone.mode book.granted c.requires.compatible)
