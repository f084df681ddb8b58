-- The next waiter is known by its session and its number: its ticket waits, and its session has an unsettled wait.
use Rattle.std.proofs.Common.{◌≡◌, Some, true, sym, ap, subst, ◌∙◌}
use Rattle.std.specs.Prelude.{is_some}
use Rattle.std.specs.FinSet as set
use Rattle.std.specs.Option.{option_map}
use Rattle.mdl_book.specs.Books as book
use Rattle.mdl_book.specs.Tickets.{ticket_id}
use Rattle.mdl_calls.specs.declared.answers.Settled.TheVariants as settled_as
use Rattle.mdl_core.specs.Changes.{losing}
use Rattle.mdl_core.specs.Words.{Core, has_session, book_at, booking, next_ready, admitting_if}
use Rattle.mdl_space.specs.SettledWaits.{TellsUnsettled}
use Rattle.mdl_space.proofs.ServingLemmas.{nobody, next-waits, next-has_session, next-is_some, next-admitted, is_ok_found, tells-granted, book_here, written_book}
use Rattle.mdl_space.proofs.core_space.CoreSpace.serve_next.Goals as goal
use Rattle.mdl_space.proofs.core_space.CoreSpace.serve_next.Goals.{After-remove}

pub returns-in_default-clause-found : goal.returns-in_default-clause-found
returns-in_default-clause-found c = sym (ap is_some (nobody _ (sym c.in_default.is ∙ c.next_waiter.ensures)))

pub returns-in_default-clause-served : goal.returns-in_default-clause-served
returns-in_default-clause-served c =
    sym (ap (λ next. admitting_if c.args.place next c.args.self.now) (nobody _ (sym c.in_default.is ∙ c.next_waiter.ensures)))

pub unwrap-requires : goal.unwrap-requires
unwrap-requires c =
    let next : Some (c.in-Some.who, c.in-Some.number) ≡ option_map ticket_id (next_ready c.args.place c.args.self.now) = sym c.in-Some.is ∙ c.next_waiter.ensures in
    let here : c.index_mut-book.result.now ≡ book_at c.args.place c.args.self.now =
    book_here c.args.self.now _ c.args.place c.from.result c.index_mut-book.result.now (ap (λ (core : Core). core.books) c.self.view_is) c.requires.key c.from.ensures c.index_mut-book.ensures.value in
    rw (c.admit.ensures.answer, here) (is_ok_found _ _ (next-waits c.args.place c.in-Some.who c.in-Some.number c.args.self.now next))

pub settle-requires : goal.settle-requires
settle-requires c =
    let has = next-has_session c.args.place c.in-Some.who c.in-Some.number c.args.self.now (sym c.in-Some.is ∙ c.next_waiter.ensures) in
    subst (λ (core : Core). has_session c.in-Some.who core ≡ true) (sym c.self.view_is) has

pub returns-clause-found : goal.returns-clause-found
returns-clause-found c = sym (next-is_some c.args.place c.in-Some.who c.in-Some.number c.args.self.now (sym c.in-Some.is ∙ c.next_waiter.ensures))

granted_is : (c : After-remove) → c.settle.new.self
    ≡ losing c.in-Some.who settled_as.Granted (booking c.args.place (book.admitting c.in-Some.who c.in-Some.number (book_at c.args.place c.args.self.now)) c.args.self.now)
granted_is c =
    let core : Core = c.args.self.now in
    let lists : c.index_mut-book.result.now ≡ book_at c.args.place core =
    book_here core _ c.args.place c.from.result c.index_mut-book.result.now (ap (λ (k : Core). k.books) c.self.view_is) c.requires.key c.from.ensures c.index_mut-book.ensures.value in
    c.settle.ensures
    ∙ ap (losing c.in-Some.who settled_as.Granted)
    (written_book core _ c.args.place c.from.result c.admit.new.self _ c.self.view_is c.from.ensures (c.admit.ensures.admitted ∙ ap (book.admitting c.in-Some.who c.in-Some.number) lists))

pub returns-clause-served : goal.returns-clause-served
returns-clause-served c =
    granted_is c ∙ sym (next-admitted c.args.place c.in-Some.who c.in-Some.number c.args.self.now (sym c.in-Some.is ∙ c.next_waiter.ensures))

pub returns-clause-unsettled : goal.returns-clause-unsettled
returns-clause-unsettled c =
    let core : Core = c.args.self.now in
    let has = next-has_session c.args.place c.in-Some.who c.in-Some.number core (sym c.in-Some.is ∙ c.next_waiter.ensures) in
    subst (λ sessions. TellsUnsettled sessions c.args.place c.settle.new.self) (sym c.remove.ensures)
    (subst (TellsUnsettled (set.remove c.args.unsettled.now c.in-Some.who) c.args.place) (sym (granted_is c))
    (tells-granted c.args.unsettled.now core c.args.place c.in-Some.who c.in-Some.number has c.requires.key c.requires.unsettled))
