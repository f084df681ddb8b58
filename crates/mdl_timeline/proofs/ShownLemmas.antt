-- What an event shows of the world right after its turn: who is waited for, and which locks are held.
use Rattle.std.proofs.Common.{◌≡◌, ◌≢◌, ◌↔◌, ◌∙◌, ◌-◌, ◌<◌, inl, inr, ℕ, Bool, true, false, cond, List, [], ◌∷◌, filter, get_or, ap, sym, subst, refl, arith}
use Rattle.std.specs.List.{Contains}
use Rattle.std.specs.Prelude.{slice_index_or}
use Rattle.std.proofs.lemmas.List.Elements.{All-contains, All-contains_itself, All-filter, Contains-get_or, filter_passes}
use Rattle.std.specs.List.{range_with_len}
use Rattle.std.proofs.lemmas.List.FromFn.{get_or-range_with_len, length-range_with_len}
use Rattle.mdl_book.specs.declared.book_view.BookView.{BookView}
use Rattle.mdl_book.specs.declared.ticket.Ticket.{Ticket}
use Rattle.mdl_book.specs.Books.{empty_book}
use Rattle.mdl_key.specs.declared.namespace.Namespace.TheVariants.{Global}
use Rattle.mdl_graph.specs.WaitsFor.{waits_for}
use Rattle.mdl_key.specs.Words.{most_sessions}
use Rattle.mdl_lines.specs.Words.{IsScriptSession}
use Rattle.mdl_picture.specs.declared.moment.Fate.TheVariants as fate
use Rattle.mdl_rows.specs.declared.reply.Reply.TheVariants as reply
use Rattle.mdl_script.specs.declared.told.News.{News}
use Rattle.mdl_script.specs.declared.told.News.TheVariants as news
use Rattle.mdl_script.specs.declared.told.Told.{Told}
use Rattle.mdl_script.specs.Texts.{is_wait_news}
use Rattle.mdl_script.specs.Worlds.{World, sessions}
use Rattle.mdl_system.proofs.OrderLemmas.{Contains-cons_cases, Contains-here, Contains-later}
use Rattle.mdl_system.proofs.MemberLemmas.{Contains-none, Contains-map, Contains-map_from, Contains-flat_map, Contains-flat_map_from}
use Rattle.mdl_view.specs.ViewLaws.{nobody}
use Rattle.mdl_timeline.specs.Moments.{event_of, fate_of, held_as, held_in_book, held_in_books, in_the_way_of, waited_for}
use Rattle.mdl_timeline.specs.TimelineLaws.{HasArrowsOf, HoldsThoseOf}

-- ---- sessions

session-from : (other : ℕ) → Contains sessions other → IsScriptSession other
unfolding sessions
session-from other (k, inside, is) =
    let short : k < most_sessions = (let long = length-range_with_len 1 most_sessions in omega arith) in
    let at = get_or-range_with_len 1 most_sessions k other short in (omega (arith, is, at), omega (arith, is, at, short))

session-to : (other : ℕ) → IsScriptSession other → Contains sessions other
unfolding sessions
session-to other (least, most) =
    let short : other - 1 < most_sessions = omega arith in
    let at : get_or (range_with_len 1 most_sessions) (other - 1) other ≡ other = (let there = get_or-range_with_len 1 most_sessions (other - 1) other short in omega (arith, there)) in
    (other - 1, (let long = length-range_with_len 1 most_sessions in omega arith), at)

-- ---- what a filter keeps

to-filter : (p : ℕ → Bool) (xs : List ℕ) (x : ℕ) → Contains xs x → p x ≡ true → Contains (filter p xs) x
to-filter p [] x among passes = absurd (Contains-none x among)
to-filter p (y ∷ ys) x among passes = by (λ later. to-filter p ys x later passes) (p y) refl
  where
    by : (Contains ys x → Contains (filter p ys) x) → (b : Bool) → p y ≡ b → Contains (cond b (y ∷ filter p ys) (filter p ys)) x
    by rest true e = elim (Contains-cons_cases y ys x among) [
      | inl later ↦ Contains-later y (filter p ys) x (rest later)
      | inr here ↦ subst (Contains (y ∷ filter p ys)) (sym here) (Contains-here y (filter p ys))
    ]
    by rest false e = elim (Contains-cons_cases y ys x among) [
      | inl later ↦ rest later
      | inr here ↦ absurd (let f : true ≡ false = sym passes ∙ ap p here ∙ e in cc)
    ]

-- ---- waits

-- those that a session waits for
waited : (who : ℕ) (books : List BookView) (other : ℕ)
    → Contains (waited_for who books) other ↔ (IsScriptSession other × (waits_for nobody books who other ≡ true))
waited who books other = (from, to) where
  waits : ℕ → Bool
  waits = waits_for nobody books who

  from : Contains (waited_for who books) other → IsScriptSession other × (waits_for nobody books who other ≡ true)
  from among = (
    session-from other (All-contains (Contains sessions) (filter waits sessions) other (All-filter waits (Contains sessions) sessions (All-contains_itself sessions)) among),
    All-contains (λ session. waits session ≡ true) (filter waits sessions) other (filter_passes waits sessions) among,
  )

  to : IsScriptSession other × (waits_for nobody books who other ≡ true) → Contains (waited_for who books) other
  to (session, so) = to-filter waits sessions other (session-to other session) so

-- only an answer that is a wait leaves its statement waiting
wait-waits : (answer : News) → fate_of answer ≡ fate.Waits → is_wait_news answer ≡ true
wait-waits (news.Waits key mode) is = refl
wait-waits news.Busy is = cc
wait-waits (news.Ends (reply.Error error)) is = cc
wait-waits (news.Ends reply.Ok) is = cc
wait-waits (news.Ends (reply.Columns tables)) is = cc
wait-waits (news.Ends (reply.Number number)) is = cc
wait-waits (news.Ends reply.Null) is = cc

none-else : (answer : News) → fate_of answer ≢ fate.Waits → is_wait_news answer ≡ false
none-else (news.Waits key mode) isn't = absurd (isn't refl)
none-else news.Busy isn't = refl
none-else (news.Ends reply) isn't = refl

pub has-arrows : (statement : List ℕ) (told : Told) (world : World) → HasArrowsOf (event_of statement world.core.books told) world
has-arrows statement told world = record { waits = waits; others = others } where
  books : List BookView
  books = world.core.books

  waits : fate_of told.news ≡ fate.Waits → (other : ℕ)
      → Contains (in_the_way_of books told) other ↔ (IsScriptSession other × (waits_for nobody books told.who other ≡ true))
  waits is other =
      subst (λ b. Contains (cond b (waited_for told.who books) []) other ↔ (IsScriptSession other × (waits_for nobody books told.who other ≡ true)))
      (sym (wait-waits told.news is)) (waited told.who books other)

  others : fate_of told.news ≢ fate.Waits → in_the_way_of books told ≡ []
  others isn't = ap (λ b. cond b (waited_for told.who books) []) (none-else told.news isn't)

-- ---- locks that are held

pub holds : (statement : List ℕ) (told : Told) (world : World) → HoldsThoseOf (event_of statement world.core.books told) world
holds statement told world held = (from, to) where
  books : List BookView
  books = world.core.books

  no_lock : BookView
  no_lock = empty_book (record { namespace = Global; schema = []; table = [] })

  IsHeld : Type 0
  IsHeld = (book : BookView) × (ticket : Ticket) × Contains books book × Contains book.granted ticket × (held ≡ held_as book.key ticket)

  from : Contains (held_in_books books) held → IsHeld
  from among =
      let there = Contains-flat_map_from held_in_book books no_lock held among in
      let book = slice_index_or books there.0 no_lock in
      let ticket = Contains-map_from (held_as book.key) book.granted held there.2 in
      (book, ticket.0, Contains-get_or books there.0 no_lock there.1, ticket.1, ticket.2)

  to : IsHeld → Contains (held_in_books books) held
  to (book, ticket, (k, inside, is), granted, so) =
      subst (Contains (held_in_books books)) (sym so)
      (Contains-flat_map held_in_book books k book (held_as book.key ticket) inside
      (subst (λ (b : BookView). Contains (held_in_book b) (held_as book.key ticket)) (sym is) (Contains-map (held_as book.key) book.granted ticket granted)))
