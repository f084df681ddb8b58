-- A graph that was built with nobody settled, searched once it is known who is.
use Rattle.std.proofs.Common.{◌≡◌, ℕ, zero, suc, Bool, true, false, not, List, [], ◌∷◌, ◌++◌, length, map, cond, refl, sym, ap, subst, ◌∙◌, inl, inr}
use Rattle.std.specs.Prelude.{◌&&◌, ◌||◌, ◌==◌, filter}
use Rattle.std.specs.List.{list_any}
use Rattle.std.specs.Option.{option_map}
use Rattle.std.proofs.lemmas.Bool.{and_parts, eqb-true, false≢true, not-true}
use Rattle.std.proofs.lemmas.List.Elements.{filter-append}
use Rattle.mdl_key.specs.Words.{waits_behind}
use Rattle.mdl_book.specs.declared.book_view.BookView.{BookView}
use Rattle.mdl_book.specs.declared.ticket.Ticket.{Ticket}
use Rattle.mdl_book.specs.Books.{lock_kind}
use Rattle.mdl_graph.specs.declared.cycle.Member.{Member}
use Rattle.mdl_graph.specs.Cycles.{are_distinct, chosen_cycle, first_chosen, is_cycle_through, leads, lists_of}
use Rattle.mdl_graph.specs.Graphs.{GraphView, IsGraphOf, cycle_found, deadlock_in, member_of, unsettled_deadlock, waits}
use Rattle.mdl_graph.specs.Members.{Among, AreAmong}
use Rattle.mdl_graph.specs.Searches.{Pairs, AreWished, are_joined, holds}
use Rattle.mdl_graph.specs.WaitsFor.{SessionTest, holds_against, is_unsettled, nobody, waits_for, wish_of, wishes_at, wishes_in}
use Rattle.mdl_graph.proofs.MemberLemmas.{among_filter, among_filtered, among_map, among_these, contained, flat_mapped, mapped}

-- ---- cycles of some sessions hang on these sessions' waits alone

filter_among : {X : Type 0} (one two : X → Bool) (xs : List X) → ((x : X) → Among x xs → one x ≡ two x) → filter one xs ≡ filter two xs
filter_among one two [] same = refl
filter_among one two (x ∷ xs) same =
    let rest : filter one xs ≡ filter two xs = filter_among one two xs (λ y among. same y (inr among)) in
    (λ i. cond (same x (inl refl) i) (x ∷ rest i) (rest i))

-- the lists of some sessions have no others
lists_within : (sessions : List ℕ) (n : ℕ) (list : List ℕ) → Among list (lists_of sessions n) → AreAmong list sessions
lists_within sessions zero list (inl none) = λ x among. absurd (subst (λ (xs : List ℕ). Among x xs) none among)
lists_within sessions zero list (inr later) = absurd later
lists_within sessions (suc n) list (inl none) = λ x among. absurd (subst (λ (xs : List ℕ). Among x xs) none among)
lists_within sessions (suc n) list (inr later) =
    let from = flat_mapped (λ (rest : List ℕ). map (λ (session : ℕ). session ∷ rest) sessions) list (lists_of sessions n) later in
    let first = mapped (λ (session : ℕ). session ∷ from.0) list sessions from.2 in
    λ x among. elim (subst (λ (xs : List ℕ). Among x xs) first.2 among) [
      | inl here ↦ subst (λ (session : ℕ). Among session sessions) (sym here) first.1
      | inr behind ↦ lists_within sessions n from.0 from.1 x behind
    ]

module _ (one two : ℕ → ℕ → Bool) (sessions : List ℕ) (same : (a b : ℕ) → Among a sessions → Among b sessions → one a b ≡ two a b) where
  leads_among : (target session : ℕ) (rest : List ℕ) → Among target sessions → Among session sessions → AreAmong rest sessions
      → leads one target session rest ≡ leads two target session rest
  leads_among target session [] ends begins within = same session target begins ends
  leads_among target session (next ∷ rest) ends begins within =
      let onward = within next (inl refl) in
      let later = leads_among target next rest ends onward (λ x among. within x (inr among)) in
      (λ i. same session next begins onward i && later i)

  cycle_among : (from : ℕ) (cycle : List ℕ) → AreAmong cycle sessions → is_cycle_through one from cycle ≡ is_cycle_through two from cycle
  cycle_among from [] within = refl
  cycle_among from (first ∷ rest) within =
      elim (first == from) as (λ b. (first == from) ≡ b
      → (b && are_distinct (first ∷ rest) && leads one from first rest) ≡ (b && are_distinct (first ∷ rest) && leads two from first rest)) [
        | true ↦ λ e.
            let here = within first (inl refl) in
            ap (λ (b : Bool). true && are_distinct (first ∷ rest) && b)
            (leads_among from first rest (subst (λ (session : ℕ). Among session sessions) (eqb-true first from e) here) here (λ x among. within x (inr among)))
        | false ↦ λ e. refl
      ] refl

  pub chosen_among : (from : ℕ) → chosen_cycle one sessions from ≡ chosen_cycle two sessions from
  chosen_among from =
      ap first_chosen (filter_among (is_cycle_through one from) (is_cycle_through two from) (lists_of sessions (length sessions))
      (λ list among. cycle_among from list (lists_within sessions (length sessions) list among)))

-- ---- the requests and the waits that stay

wishes_left_at : (settled : SessionTest) (book : BookView) (tickets : List Ticket)
    → filter (λ (wish : Member). is_unsettled settled wish.session) (map (wish_of book) (filter (λ (ticket : Ticket). is_unsettled nobody ticket.session) tickets))
    ≡ map (wish_of book) (filter (λ (ticket : Ticket). is_unsettled settled ticket.session) tickets)
wishes_left_at settled book [] = refl
wishes_left_at settled book (ticket ∷ tickets) =
    let before = filter (λ (wish : Member). is_unsettled settled wish.session) (map (wish_of book) (filter (λ (other : Ticket). is_unsettled nobody other.session) tickets)) in
    let after = filter (λ (other : Ticket). is_unsettled settled other.session) tickets in
    elim (is_unsettled settled ticket.session) as (λ b. cond b (wish_of book ticket ∷ before) before ≡ map (wish_of book) (cond b (ticket ∷ after) after)) [
      | true ↦ ap (λ (wishes : List Member). wish_of book ticket ∷ wishes) (wishes_left_at settled book tickets)
      | false ↦ wishes_left_at settled book tickets
    ]

pub wishes_left : (settled : SessionTest) (books : List BookView)
    → filter (λ (wish : Member). is_unsettled settled wish.session) (wishes_in nobody books) ≡ wishes_in settled books
wishes_left settled [] = refl
wishes_left settled (book ∷ books) =
    filter-append (λ (wish : Member). is_unsettled settled wish.session) (wishes_at nobody book) (wishes_in nobody books)
    ∙ (λ i. wishes_left_at settled book book.waiting i ++ wishes_left settled books i)

-- whoever isn't settled waits for the same ones among those who aren't
waits_still : (settled : SessionTest) (books : List BookView) (waiter other : ℕ) → settled waiter ≡ false → settled other ≡ false
    → waits_for settled books waiter other ≡ waits_for nobody books waiter other
waits_still settled books waiter other first second =
    (λ i. list_any (λ (book : BookView). not (first i)
    && list_any (λ (wish : Ticket). wish.session == waiter && (not (wish.session == other) && (holds_against book wish.mode other
    || (not (second i) && list_any (λ (pending : Ticket). pending.session == other && waits_behind (lock_kind book) wish.mode pending.mode) book.waiting)))) book.waiting) books)

wish_unsettled : (settled : SessionTest) (wishes : List Member) (session : ℕ)
    → Among session (map (λ (wish : Member). wish.session) (filter (λ (wish : Member). is_unsettled settled wish.session) wishes)) → settled session ≡ false
wish_unsettled settled wishes session among =
    let wish = mapped (λ (one : Member). one.session) session (filter (λ (one : Member). is_unsettled settled one.session) wishes) among in
    let passes = among_filtered (λ (one : Member). is_unsettled settled one.session) wish.0 wishes wish.1 in
    ap settled wish.2 ∙ not-true (settled wish.0.session) passes.1

-- ---- the graph

pub settles_later : (settled : SessionTest) (books : List BookView) (graph : GraphView) (from : ℕ) → IsGraphOf nobody books graph
    → unsettled_deadlock settled graph from ≡ deadlock_in settled books from
settles_later settled books graph from is =
    let waiting : ℕ → ℕ → Bool = λ waiter other. is_unsettled settled waiter && waits graph waiter other in
    let wishes = wishes_in settled books in
    let sessions = map (λ (wish : Member). wish.session) wishes in
    let left : filter (λ (wish : Member). is_unsettled settled wish.session) graph.wishes ≡ wishes =
    ap (filter (λ (wish : Member). is_unsettled settled wish.session)) is.same_wishes ∙ wishes_left settled books in
    let open_still : (session : ℕ) → Among session sessions → settled session ≡ false = λ session among.
    wish_unsettled settled (wishes_in nobody books) session
    (subst (λ (those : List Member). Among session (map (λ (wish : Member). wish.session) those)) (sym (wishes_left settled books)) among) in
    ap (λ (those : List Member). cycle_found those waiting from) left
    ∙ ap (option_map (map (member_of wishes))) (chosen_among waiting (waits_for settled books) sessions
    (λ waiter other first second.
    ap (λ (b : Bool). not b && waits graph waiter other) (open_still waiter first)
    ∙ is.same_waits waiter other
    ∙ sym (waits_still settled books waiter other (open_still waiter first) (open_still other second))) from)

-- ---- a copy of the graph without some requests

left_step : (unsettled same is_here tied rest : Bool) → (same ≡ true → is_here ≡ unsettled)
    → cond is_here ((same && tied) || (unsettled && rest)) (unsettled && rest) ≡ (unsettled && ((same && tied) || rest))
left_step true same true tied rest agree = refl
left_step true true false tied rest agree = absurd (false≢true (agree refl))
left_step true false false tied rest agree = refl
left_step false true true tied rest agree = absurd (false≢true (sym (agree refl)))
left_step false false true tied rest agree = refl
left_step false same false tied rest agree = refl

module _ (settled : SessionTest) where
  abbrev left : Pairs → Pairs
  left waits = filter (λ (wait : ℕ × ℕ). is_unsettled settled wait.1) waits

  pub joined_left : (waits stands : Pairs) (waiter other : ℕ) → are_joined (left waits) stands waiter other ≡ (is_unsettled settled waiter && are_joined waits stands waiter other)
  joined_left [] stands waiter other = elim (is_unsettled settled waiter) as (λ b. false ≡ (b && false)) [ true ↦ refl | false ↦ refl ]
  joined_left (wait ∷ waits) stands waiter other =
      let tied = not (wait.1 == other) && holds stands other wait.0 in
      let rest = are_joined waits stands waiter other in
      elim (is_unsettled settled wait.1) as (λ b. ((wait.1 == waiter) ≡ true → b ≡ is_unsettled settled waiter)
      → are_joined (cond b (wait ∷ left waits) (left waits)) stands waiter other ≡ (is_unsettled settled waiter && ((wait.1 == waiter && tied) || rest))) [
        | true ↦ λ agree.
            ap (λ (b : Bool). (wait.1 == waiter && tied) || b) (joined_left waits stands waiter other)
            ∙ left_step (is_unsettled settled waiter) (wait.1 == waiter) true tied rest agree
        | false ↦ λ agree.
            joined_left waits stands waiter other
            ∙ left_step (is_unsettled settled waiter) (wait.1 == waiter) false tied rest agree
      ] (λ same. ap (is_unsettled settled) (eqb-true wait.1 waiter same))

  holds_left : (waits : Pairs) (row session : ℕ) → holds waits row session ≡ false → holds (left waits) row session ≡ false
  holds_left [] row session none = refl
  holds_left (wait ∷ waits) row session none =
      let here = wait.0 == row && wait.1 == session in
      elim here as (λ b. here ≡ b → (b || holds waits row session) ≡ false → holds (left (wait ∷ waits)) row session ≡ false) [
        | true ↦ λ e found. absurd (false≢true (sym found))
        | false ↦ λ e rest.
            elim (is_unsettled settled wait.1) as (λ b. holds (cond b (wait ∷ left waits) (left waits)) row session ≡ false) [
              | true ↦ ap (λ (b : Bool). b || holds (left waits) row session) e ∙ holds_left waits row session rest
              | false ↦ holds_left waits row session rest
            ]
      ] refl none

  pub wished_left : (wishes : List Member) (rows : ℕ) (waits stands : Pairs) → AreWished wishes rows waits stands
      → AreWished (filter (λ (wish : Member). is_unsettled settled wish.session) wishes) rows (left waits) stands
  wished_left wishes rows waits stands were = record {
    wished = λ waiter other joined.
        let parts = and_parts (is_unsettled settled waiter) (are_joined waits stands waiter other) (sym (joined_left waits stands waiter other) ∙ joined) in
        let sessions = map (λ (wish : Member). wish.session) wishes in
        let one = mapped (λ (wish : Member). wish.session) waiter wishes (among_these sessions waiter (were.wished waiter other parts.1)) in
        let kept = among_filter (λ (wish : Member). is_unsettled settled wish.session) one.0 wishes one.1 (ap (is_unsettled settled) (sym one.2) ∙ parts.0) in
        let sessions_left = map (λ (wish : Member). wish.session) (filter (λ (wish : Member). is_unsettled settled wish.session) wishes) in
        contained sessions_left waiter (subst (λ (session : ℕ). Among session sessions_left) (sym one.2)
        (among_map (λ (wish : Member). wish.session) one.0 (filter (λ (wish : Member). is_unsettled settled wish.session) wishes) kept));
    known = λ row session above. holds_left waits row session (were.known row session above);
    fresh = were.fresh;
  }
