-- A grantable ticket clashes with none, so the granted ones stay lawful.
use Rattle.std.proofs.Common.{◌≡◌, ◌++◌, [], ◌∷◌, rules}
use Rattle.mdl_key.specs.Modes.{kind_of}
use Rattle.mdl_book.proofs.GrantingLemmas.{lawful_push, compatible-from_grantable, lawful_admit-beside}
use Rattle.mdl_book.proofs.book.Book.admit.Goals as goal

pub returns-clause-lawful : goal.returns-clause-lawful
returns-clause-lawful c =
    let granted = c.self.inside.granted.tickets in
    let waiting = c.self.inside.waiting.tickets in
    let kind = kind_of c.self.inside.key.namespace in
    let pushed : c.push_reserved.new.self.tickets ≡ granted ++ c.in_ok-ticket.ticket ∷ [] = search rules in
    rw (pushed, ← c.self.view_is) (λ grantable. lawful_push kind granted c.in_ok-ticket.ticket (compatible-from_grantable kind granted waiting c.in_ok-ticket.ticket grantable))

pub returns-clause-lawful_with_fast : goal.returns-clause-lawful_with_fast
returns-clause-lawful_with_fast c =
    let granted = c.self.inside.granted.tickets in
    let pushed : c.push_reserved.new.self.tickets ≡ granted ++ c.in_ok-ticket.ticket ∷ [] = search rules in
    rw (pushed, ← c.self.view_is) (λ fast. lawful_admit-beside (kind_of c.self.inside.key.namespace) fast granted c.self.inside.waiting.tickets c.in_ok-ticket.ticket)
