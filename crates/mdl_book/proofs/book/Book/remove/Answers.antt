-- The granted tickets that are left are lawful.
use Rattle.mdl_book.proofs.GrantingLemmas.{lawful_without, lawful_without-beside}
use Rattle.mdl_book.proofs.book.Book.remove.Goals as goal

pub returns-clause-lawful : goal.returns-clause-lawful
returns-clause-lawful c = rw (c.take_ticket.ensures.taken, ← c.self.view_is) (lawful_without _ c.args.session c.args.number c.self.inside.granted.tickets)

pub returns-clause-lawful_with_fast : goal.returns-clause-lawful_with_fast
returns-clause-lawful_with_fast c =
    rw (c.take_ticket.ensures.taken, ← c.self.view_is) (λ fast. lawful_without-beside _ c.args.session c.args.number fast c.self.inside.granted.tickets)
