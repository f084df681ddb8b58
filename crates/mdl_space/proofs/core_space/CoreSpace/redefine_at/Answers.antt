-- A refused change leaves the book, and so the space.
use Rattle.std.proofs.Common.{◌≡◌, ap, subst, Err}
use Rattle.mdl_calls.specs.Words.{change_takes_memory, redefined}
use Rattle.mdl_core.specs.Words.{Core, Makes, book_at, booking, redefining_fault, redefined_unless}
use Rattle.mdl_space.proofs.DefinitionLemmas.{redefined-made, answered-so, booked-view}
use Rattle.mdl_space.proofs.ServingLemmas.{book_here}
use Rattle.mdl_space.proofs.core_space.CoreSpace.redefine_at.Goals as goal

pub returns-in_err-version : goal.returns-in_err-version
returns-in_err-version c =
    let core : Core = c.args.self.now in
    let here : c.index_mut-book.result.now ≡ book_at c.args.place core =
    book_here core _ c.args.place c.from.result c.index_mut-book.result.now (ap (λ (k : Core). k.books) c.self.view_is) c.requires c.from.ensures c.index_mut-book.ensures.value in
    let made = redefined-made core c.args.place c.args.change.now (Err c.in_err-version.field-0.0) c.index_mut-book.result.now c.redefine.new.self here tt
    c.in_err-version.ensures.unchanged c.in_err-version.ensures.refused c.in_err-version.ensures.drop in
    let told = answered-so c.from_residual.result c.in_err-version.field-0.0 c.from_residual.ensures.0 c.from_residual.ensures.1 in
    let after = booked-view core _ c.args.place c.from.result c.redefine.new.self c.self.view_is c.from.ensures in
    subst (λ s. Makes (change_takes_memory c.args.change.now) (redefined_unless (redefining_fault c.args.place c.args.change.now core) c.args.place c.args.change.now) core (redefined c.from_residual.result) s) after
    (subst (λ r. Makes (change_takes_memory c.args.change.now) (redefined_unless (redefining_fault c.args.place c.args.change.now core) c.args.place c.args.change.now) core r (booking c.args.place c.redefine.new.self core)) told made)
