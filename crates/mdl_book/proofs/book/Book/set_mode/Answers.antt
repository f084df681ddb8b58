-- The new mode of the ticket clashes with none, so the granted ones stay lawful.
use Rattle.std.proofs.Common.{◌≡◌, true, [], rules}
use Rattle.mdl_key.specs.Modes.{kind_of}
use Rattle.mdl_book.specs.FastTickets.{may_stand}
use Rattle.mdl_book.specs.Granting.{is_compatible}
use Rattle.mdl_book.proofs.FastLemmas.{covers_of, lawful_changed-covered}
use Rattle.mdl_book.proofs.GrantingLemmas.{lawful_changed-beside}
use Rattle.mdl_book.proofs.book.Book.set_mode.Goals as goal

pub returns-clause-lawful : goal.returns-clause-lawful
returns-clause-lawful c =
    let granted = c.self.inside.granted.tickets in
    let kind = kind_of c.self.inside.key.namespace in
    let compatible : is_compatible kind granted c.args.session c.args.mode ≡ true = search rules in
    rw (c.set_mode.ensures.tickets, ← c.self.view_is) (lawful_changed-beside kind c.args.session c.args.number c.args.mode [] granted compatible)

pub returns-clause-lawful_covered : goal.returns-clause-lawful_covered
returns-clause-lawful_covered c =
    let granted = c.self.inside.granted.tickets in
    let kind = kind_of c.self.inside.key.namespace in
    let stands : may_stand kind granted c.args.word.0 c.args.session c.args.mode ≡ true = search rules in
    rw (c.set_mode.ensures.tickets, ← c.self.view_is) (λ fast covers. lawful_changed-covered covers granted c.args.session c.args.number c.args.mode stands)

pub returns-clause-lawful_with_fast : goal.returns-clause-lawful_with_fast
returns-clause-lawful_with_fast c = λ fast counts others. returns-clause-lawful_covered c fast (covers_of counts)
