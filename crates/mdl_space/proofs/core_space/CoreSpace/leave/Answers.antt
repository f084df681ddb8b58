-- The ticket stands in the book.
use Rattle.std.proofs.Common.{◌≡◌, ap}
use Rattle.mdl_core.specs.Cores.{Core, book_at}
use Rattle.mdl_space.proofs.ServingLemmas.{book_here, is_ok_found}
use Rattle.mdl_space.proofs.core_space.CoreSpace.leave.Goals as goal

pub unwrap-requires : goal.unwrap-requires
unwrap-requires c =
    let here : c.index_mut-book.result.now ≡ book_at c.args.wait.place c.args.self.now =
    book_here c.args.self.now _ c.args.wait.place c.from.result c.index_mut-book.result.now (ap (λ (core : Core). core.books) c.self.view_is) c.requires.key c.from.ensures c.index_mut-book.ensures.value in
    rw (c.cancel.ensures.answer, here) (is_ok_found _ _ c.requires.waits)
