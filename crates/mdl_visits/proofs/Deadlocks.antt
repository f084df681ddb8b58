-- The settled sessions by the words of waits, and the graph of all books.
use Rattle.std.proofs.Common.{◌≡◌, ℕ, ◌==◌, ◌||◌, ◌&&◌, Bool, true, false, not, List, [], ◌∷◌, ◌++◌, Option, refl, sym, ap, ◌∙◌, subst, arith, ◌%◌}
use Rattle.mdl_graph.proofs.UnsettledLemmas.{settles_later}
use Rattle.std.specs.FinSet as set
use Rattle.mdl_visits.proofs.Common.{AddsBook, Audited, BookView, GraphView, IsBuiltOf, IsGraphOf, Member, WaitRead, books_of, empty_graph, list_any-append, map-append, nat_cmp, nat_cmp_total, nat_tests, nobody, option_map, settled_by, unsettled_deadlock, unsigned_tied, victim_in, victim_of, waits}

-- ---- who is settled

pub none_settled : (settled : set.FinSet nat_cmp) → settled ≡ set.empty → (session : ℕ) → set.contains settled session ≡ false
none_settled settled none session = ap (λ (s : set.FinSet nat_cmp). set.contains s session) none ∙ set.contains-empty nat_cmp session

-- a word more tells of its session alone
one_more : (words : List WaitRead) (h : WaitRead) (session : ℕ)
    → settled_by (words ++ h ∷ []) session ≡ (settled_by words session || (h.session == session && not (h.word.0 % 8 == 1)))
one_more words h session =
    let one = h.session == session && not (h.word.0 % 8 == 1) in
    let all : settled_by (words ++ h ∷ []) session ≡ (settled_by words session || (one || false)) =
    list_any-append (λ (x : WaitRead). x.session == session && not (x.word.0 % 8 == 1)) words (h ∷ []) in
    all ∙ ap (λ (b : Bool). settled_by words session || b) (or_false one)
  where
    or_false : (b : Bool) → (b || false) ≡ b
    or_false true = refl
    or_false false = refl

module _ (old : set.FinSet nat_cmp) (words : List WaitRead) (h : WaitRead) (before : (session : ℕ) → set.contains old session ≡ settled_by words session) where
  pub put_settled : (new : set.FinSet nat_cmp) → new ≡ set.insert old h.session → (h.word.0 % 8 == 1) ≡ false
      → (session : ℕ) → set.contains new session ≡ settled_by (words ++ h ∷ []) session
  put_settled new put closed session =
      let here : (set.contains old session || (h.session == session && true)) ≡ ((session == h.session) || set.contains old session) = grind (arith, nat_tests) in
      ap (λ (s : set.FinSet nat_cmp). set.contains s session) put
      ∙ set.contains-insert nat_cmp_total old h.session session
      ∙ ap (λ (b : Bool). b || set.contains old session) (unsigned_tied session h.session)
      ∙ sym here
      ∙ ap (λ (b : Bool). b || (h.session == session && true)) (before session)
      ∙ ap (λ (b : Bool). settled_by words session || (h.session == session && not b)) (sym closed)
      ∙ sym (one_more words h session)

  pub passed_open : (h.word.0 % 8 == 1) ≡ true → (session : ℕ) → set.contains old session ≡ settled_by (words ++ h ∷ []) session
  passed_open open_still session =
      let none : settled_by words session ≡ (settled_by words session || (h.session == session && false)) = grind (arith, nat_tests) in
      before session ∙ none ∙ ap (λ (b : Bool). settled_by words session || (h.session == session && not b)) (sym open_still) ∙ sym (one_more words h session)

-- ---- the graph

-- a graph of no books
pub built_of_none : (settled : set.FinSet nat_cmp) (graph : GraphView) → settled ≡ set.empty → graph ≡ empty_graph settled → IsGraphOf nobody [] graph
built_of_none settled graph none made = record {
  same_settled = λ session. ap (λ (g : GraphView). set.contains g.settled session) made ∙ none_settled settled none session;
  same_wishes = ap (λ (g : GraphView). g.wishes) made;
  same_waits = λ waiter other. ap (λ (g : GraphView). waits g waiter other) made;
}

-- the graph of a book more
pub built_of_more : (before : List Audited) (one : Audited) (graph later : GraphView) → AddsBook one.book graph later → IsBuiltOf before graph → IsBuiltOf (before ++ one ∷ []) later
built_of_more before one graph later adds built =
    subst (λ (books : List BookView). IsGraphOf nobody books later) (sym (map-append (λ (a : Audited). a.book) before (one ∷ []))) (adds nobody (books_of before) built)

-- the victim by a graph that was searched once it was known who is settled
pub victim_same : (settled : set.FinSet nat_cmp) (words : List WaitRead) (audited : List Audited) (from : ℕ) (graph : GraphView) (cycle : Option (List Member))
    → ((session : ℕ) → set.contains settled session ≡ settled_by words session) → IsBuiltOf audited graph → cycle ≡ unsettled_deadlock (set.contains settled) graph from
    → option_map victim_of cycle ≡ victim_in (settled_by words) (books_of audited) from
victim_same settled words audited from graph cycle told built found =
    ap (option_map victim_of)
    (found
    ∙ (λ i. unsettled_deadlock (λ session. told session i) graph from)
    ∙ settles_later (settled_by words) (books_of audited) graph from built)
