-- The ticket at the index goes from one list to the other. A grantable ticket clashes with none, so the granted ones stay lawful.
use Rattle.std.proofs.Common.{◌≡◌, ◌++◌, [], ◌∷◌, List, Option, Some, sym, ap, ◌∙◌, arith, rules}
use Rattle.std.specs.Prelude.{slice_get}
use Rattle.std.specs.List.{remove}
use Rattle.std.specs.Option.{ok_or, option_to_list}
use Rattle.std.proofs.lemmas.Option.{slice_get_read}
use Rattle.mdl_key.specs.Modes.{kind_of}
use Rattle.mdl_book.specs.declared.book_error.BookError.TheVariants.{NotHere}
use Rattle.mdl_book.specs.declared.book_view.BookView.{BookView}
use Rattle.mdl_book.specs.declared.ticket.Ticket.{Ticket}
use Rattle.mdl_book.specs.Books.{admitting_by_index}
use Rattle.mdl_book.proofs.AdmitLemmas.{by_index-past, by_index-admits}
use Rattle.mdl_book.proofs.GrantingLemmas.{lawful_push, compatible-from_grantable, lawful_admit-beside}
use Rattle.mdl_book.proofs.book.Book.admit_at.Goals as goal
use Rattle.mdl_book.proofs.book.Book.admit_at.Goals.{After-push_reserved}

pub returns-then-index-len-clause-admitted : goal.returns-then-index-len-clause-admitted
returns-then-index-len-clause-admitted c =
    rw (← c.self.view_is) (by_index-past c.args.index (record { key = c.self.inside.key; granted = c.self.inside.granted.tickets; waiting = c.self.inside.waiting.tickets; standing = c.self.inside.standing })
    (omega (arith, c.len.ensures.value, c.if-index-len.true)))

pub returns-then-index-len-clause-as_admit : goal.returns-then-index-len-clause-as_admit
returns-then-index-len-clause-as_admit c = λ session number first.
    returns-then-index-len-clause-admitted c ∙ by_index-admits session number c.args.index c.args.self.now first

found : (c : After-push_reserved) → slice_get c.self.inside.waiting.tickets c.args.index ≡ Some c.take_at-admitted.result
found c =
    slice_get_read c.self.inside.waiting.tickets c.len.result c.args.index c.take_at-admitted.result c.len.ensures.value c.if-index-len.false c.take_at-admitted.ensures.value

pub returns-clause-answer : goal.returns-clause-answer
returns-clause-answer c = rw (← c.self.view_is) (sym (ap (λ (o : Option Ticket). ok_or o NotHere) (found c)))

pub returns-clause-admitted : goal.returns-clause-admitted
returns-clause-admitted c =
    let granted : List Ticket = c.self.inside.granted.tickets in
    let waiting : List Ticket = c.self.inside.waiting.tickets in
    let lists : List Ticket → List Ticket → BookView = λ first second. record { key = c.self.inside.key; granted = first; waiting = second; standing = c.self.inside.standing } in
    let pushed : c.push_reserved.new.self.tickets ≡ granted ++ c.take_at-admitted.result ∷ [] = c.push_reserved.ensures.tickets in
    ap (λ (first : List Ticket). lists first c.take_at-admitted.new.self.tickets) pushed
    ∙ ap (λ (second : List Ticket). lists (granted ++ c.take_at-admitted.result ∷ []) second) c.take_at-admitted.ensures.tickets
    ∙ ap (λ (o : Option Ticket). lists (granted ++ option_to_list o) (remove waiting c.args.index)) (sym (found c))
    ∙ ap (λ (book : BookView). admitting_by_index c.args.index book) c.self.view_is

pub returns-clause-as_admit : goal.returns-clause-as_admit
returns-clause-as_admit c = λ session number first. returns-clause-admitted c ∙ by_index-admits session number c.args.index c.args.self.now first

pub returns-clause-lawful : goal.returns-clause-lawful
returns-clause-lawful c =
    let granted = c.self.inside.granted.tickets in
    let waiting = c.self.inside.waiting.tickets in
    let kind = kind_of c.self.inside.key.namespace in
    let pushed : c.push_reserved.new.self.tickets ≡ granted ++ c.take_at-admitted.result ∷ [] = search rules in
    rw (pushed, ← c.self.view_is) (λ grantable. lawful_push kind granted c.take_at-admitted.result (compatible-from_grantable kind granted waiting c.take_at-admitted.result grantable))

pub returns-clause-lawful_with_fast : goal.returns-clause-lawful_with_fast
returns-clause-lawful_with_fast c =
    let granted = c.self.inside.granted.tickets in
    let pushed : c.push_reserved.new.self.tickets ≡ granted ++ c.take_at-admitted.result ∷ [] = search rules in
    rw (pushed, ← c.self.view_is) (λ fast. lawful_admit-beside (kind_of c.self.inside.key.namespace) fast granted c.self.inside.waiting.tickets c.take_at-admitted.result)
