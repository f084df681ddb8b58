-- A ticket that clashes with none is granted, so the granted ones stay lawful.
use Rattle.std.proofs.Common.{◌≡◌, true, ◌++◌, [], ◌∷◌, rules}
use Rattle.mdl_key.specs.Modes.{kind_of}
use Rattle.mdl_book.specs.FastTickets.{may_stand}
use Rattle.mdl_book.specs.Granting.{is_compatible}
use Rattle.mdl_book.proofs.FastLemmas.{covers_of, lawful_push-covered}
use Rattle.mdl_book.proofs.GrantingLemmas.{lawful_push}
use Rattle.mdl_book.proofs.book.Book.grant.Goals as goal

pub returns-clause-lawful : goal.returns-clause-lawful
returns-clause-lawful c =
    let granted = c.self.inside.granted.tickets in
    let compatible : is_compatible (kind_of c.self.inside.key.namespace) granted c.args.ticket.session c.args.ticket.mode ≡ true = search rules in
    let pushed : c.push_reserved.new.self.tickets ≡ granted ++ c.args.ticket ∷ [] = search rules in
    rw (pushed, ← c.self.view_is) (lawful_push (kind_of c.self.inside.key.namespace) granted c.args.ticket compatible)

pub returns-clause-lawful_covered : goal.returns-clause-lawful_covered
returns-clause-lawful_covered c =
    let granted = c.self.inside.granted.tickets in
    let stands : may_stand (kind_of c.self.inside.key.namespace) granted c.args.word.0 c.args.ticket.session c.args.ticket.mode ≡ true = search rules in
    let pushed : c.push_reserved.new.self.tickets ≡ granted ++ c.args.ticket ∷ [] = search rules in
    rw (pushed, ← c.self.view_is) (λ fast covers. lawful_push-covered covers granted c.args.ticket stands)

pub returns-clause-lawful_with_fast : goal.returns-clause-lawful_with_fast
returns-clause-lawful_with_fast c = λ fast counts others. returns-clause-lawful_covered c fast (covers_of counts)
