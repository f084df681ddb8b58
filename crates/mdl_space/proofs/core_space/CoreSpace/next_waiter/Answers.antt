-- The book finds the next one, since it is told whose waits are unsettled.
use Rattle.std.proofs.Common.{◌≡◌, ap, ◌∙◌}
use Rattle.std.specs.Option.{option_map}
use Rattle.mdl_book.specs.Books.{next_grantable}
use Rattle.mdl_book.specs.Tickets.{ticket_id}
use Rattle.mdl_core.specs.Cores.{Core, book_at}
use Rattle.mdl_space.proofs.ServingLemmas.{next_in_book, book_here}
use Rattle.mdl_space.proofs.core_space.CoreSpace.next_waiter.Goals as goal

pub returns : goal.returns
returns c =
    let here : c.index.result.now ≡ book_at c.args.place c.args.self.now =
    book_here c.args.self.now _ c.args.place c.from.result c.index.result.now (ap (λ (core : Core). core.books) c.self.view_is) c.requires.key c.from.ensures c.index.ensures in
    c.next_grantable.ensures.exact ∙ ap (λ lists. option_map ticket_id (next_grantable 0 c.args.unsettled.now lists)) here
    ∙ ap (option_map ticket_id) (next_in_book c.args.unsettled.now c.args.place c.args.self.now c.requires.unsettled)
