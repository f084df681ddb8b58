-- The victim of a deadlock in the lock space of one thread is a session whose wait is open.
use Rattle.std.proofs.Common.{◌≡◌, ℕ, suc, ◌-◌, ◌<◌, Bool, true, false, not, ◌&&◌, ◌==◌, inl, inr, List, [], ◌∷◌, length, map, cond, Option, Some, None, refl, sym, ap, subst, ◌∙◌, arith, eqb-true}
use Rattle.std.specs.Prelude.{Contains, is_some, slice_index_or, if◌then◌else◌}
use Rattle.std.specs.List.{list_any}
use Rattle.std.specs.Option.{option_map}
use Rattle.std.proofs.lemmas.Bool.{and_parts}
use Rattle.std.proofs.lemmas.List.{get_or_default}
use Rattle.std.proofs.lemmas.List.Folds.{Any-from_list_any}
use Rattle.mdl_key.specs.Keys.{global_key}
use Rattle.mdl_book.specs.declared.book_view.BookView.{BookView}
use Rattle.mdl_book.specs.declared.ticket.Ticket.{Ticket}
use Rattle.mdl_book.specs.Books.{empty_book}
use Rattle.mdl_graph.specs.declared.cycle.Member.{Member}
use Rattle.mdl_graph.proofs.CycleLaws.{chosen_cycles, member_of_cycle_waits}
use Rattle.mdl_graph.specs.Cycles.{chosen_cycle}
use Rattle.mdl_graph.specs.Graphs.{member_of, victim_in}
use Rattle.mdl_graph.proofs.MemberLemmas.{contained}
use Rattle.mdl_graph.specs.Members.{Among}
use Rattle.mdl_graph.specs.Victims.{falls_before, weakest, victim_of}
use Rattle.mdl_graph.specs.WaitsFor.{SessionTest, is_unsettled, is_tied, waits_at, waits_for, wishes_in}
use Rattle.mdl_core.specs.declared.pending.Pending.{Pending}
use Rattle.mdl_core.specs.CoreCalls.{has_settled, victim_at, wait_at}
use Rattle.mdl_core.specs.Cores.{Core, book_at, seat_at, has_key, has_session}
use Rattle.mdl_core.specs.Seats.{is_settled_wait}
use Rattle.mdl_core.specs.Ties.{IsTied}
use Rattle.mdl_core.proofs.CoreReads.{of_within}
use Rattle.mdl_core.proofs.CoreWaiting.{wait-at}

-- ---- the victim is a member of its cycle

-- the one that falls is one of these
weakest-among : (wishes : List Member) (first : Member) (sessions : List ℕ)
    → Among (weakest first (map (member_of wishes) sessions)).session (first.session ∷ sessions)
weakest-among wishes first [] = inl refl
weakest-among wishes first (next ∷ rest) =
    elim (falls_before first (member_of wishes next)) as
    (λ b. Among (weakest (cond b first (member_of wishes next)) (map (member_of wishes) rest)).session (first.session ∷ next ∷ rest)) [
      | true ↦ elim (weakest-among wishes first rest) [ inl same ↦ inl same | inr later ↦ inr (inr later) ]
      | false ↦ inr (weakest-among wishes (member_of wishes next) rest)
    ]

-- so the victim of a deadlock waits for somebody
victim-waits_for : (settled : SessionTest) (books : List BookView) (from victim : ℕ) → victim_in settled books from ≡ Some victim
    → (other : ℕ) × (waits_for settled books victim other ≡ true)
victim-waits_for settled books from victim found = by (chosen_cycle waits sessions from) refl found
  where
    wishes : List Member
    wishes = wishes_in settled books

    sessions : List ℕ
    sessions = map (λ (wish : Member). wish.session) wishes

    waits : ℕ → ℕ → Bool
    waits = waits_for settled books

    by : (o : Option (List ℕ)) → chosen_cycle waits sessions from ≡ o → option_map victim_of (option_map (map (member_of wishes)) o) ≡ Some victim
        → (other : ℕ) × (waits victim other ≡ true)
    by None e f = cc
    by (Some []) e f = let none = chosen_cycles waits sessions from [] e in cc
    by (Some (first ∷ rest)) e f =
        let same : (weakest (member_of wishes first) (map (member_of wishes) rest)).session ≡ victim = cc in
        member_of_cycle_waits waits from (first ∷ rest) victim (chosen_cycles waits sessions from (first ∷ rest) e)
        (contained (first ∷ rest) victim (subst (λ v. Among v (first ∷ rest)) same (weakest-among wishes (member_of wishes first) rest)))

-- ---- who waits for somebody

-- a session that waits for somebody has a ticket that waits at a place, and its wait isn't settled
record WaitsSomewhere (core : Core) (waiter : ℕ) : Type 0 where
  place : ℕ
  ticket : Ticket
  key : has_key place core ≡ true
  among : Contains (book_at place core).waiting ticket
  own : ticket.session ≡ waiter
  unsettled : has_settled core waiter ≡ false

is_false : (b : Bool) → not b ≡ true → b ≡ false
is_false true e = cc
is_false false e = refl

waits_for-somewhere : (core : Core) (waiter other : ℕ) → waits_for (has_settled core) core.books waiter other ≡ true → WaitsSomewhere core waiter
waits_for-somewhere core waiter other waits =
    let settled : SessionTest = has_settled core in
    let at = Any-from_list_any (λ (book : BookView). waits_at settled book waiter other) core.books waits in
    let k : ℕ = at.0 in
    let book : BookView = at.1 in
    let lt : k < length core.books = at.2 in
    let tests = and_parts (is_unsettled settled waiter) (list_any (λ (wish : Ticket). wish.session == waiter && is_tied settled book other wish) book.waiting) at.4 in
    let wish = Any-from_list_any (λ (wish : Ticket). wish.session == waiter && is_tied settled book other wish) book.waiting tests.1 in
    let own = and_parts (wish.1.session == waiter) (is_tied settled book other wish.1) wish.4 in
    let here : suc k - 1 ≡ k = omega arith in
    let there : book_at (suc k) core ≡ book =
    ap (λ n. slice_index_or core.books n (empty_book global_key)) here ∙ get_or_default core.books k (empty_book global_key) book lt ∙ at.3 in
    record {
      place = suc k;
      ticket = wish.1;
      key = of_within (suc k) (length core.books) (omega arith) (omega (arith, lt));
      among = subst (λ (b : BookView). Contains b.waiting wish.1) (sym there) (wish.0, wish.2, wish.3);
      own = eqb-true _ _ own.0;
      unsettled = is_false (settled waiter) tests.0;
    }

-- ---- the victim's wait

none_settled : {T : Type 0} (o : Option T) → is_some o ≡ false → o ≡ None
none_settled None e = refl
none_settled (Some how) e = cc

-- the victim of a deadlock is a session whose wait is open
pub victim-waits : (core : Core) (who victim : ℕ) → IsTied core → victim_at who core ≡ Some victim
    → (wait : Pending) × (has_session victim core ≡ true) × ((seat_at victim core).wait ≡ Some wait) × (wait.settled ≡ None)
victim-waits core who victim tied found =
    let to = victim-waits_for (has_settled core) core.books who victim found in
    let at = waits_for-somewhere core victim to.0 to.1 in
    let waits = wait-at core at.place at.ticket tied at.key at.among in
    let wait : Pending = waits.0 in
    let is : has_session victim core ≡ true = subst (λ w. has_session w core ≡ true) at.own waits.1.has in
    let its : (seat_at victim core).wait ≡ Some wait = subst (λ w. (seat_at w core).wait ≡ Some wait) at.own waits.1.waits in
    let same : wait_at victim core ≡ Some wait = ap (λ b. if b then (seat_at victim core).wait else None) is ∙ its in
    (wait, is, its, none_settled wait.settled (sym (ap is_settled_wait same) ∙ at.unsettled))
