-- One wish more is put behind the others, with its row.
use Rattle.std.proofs.Common.{◌≡◌, ◌∙◌, ℕ, Bool, take, get_or, [], ◌∷◌, ◌++◌, length, arith, sym, ap, subst, true, false}
use Rattle.std.specs.Prelude.{◌&&◌, ◌||◌, ◌==◌}
use Rattle.std.specs.FinSet as set
use Rattle.std.specs.List.{list_any}
use Rattle.std.proofs.lemmas.List.{take_more}
use Rattle.std.proofs.lemmas.List.Folds.{list_any-append}
use Rattle.mdl_key.specs.declared.mode.Mode.TheVariants.{IX}
use Rattle.mdl_book.specs.declared.ticket.Ticket.{Ticket}
use Rattle.mdl_graph.specs.Searches.{are_joined, stands_against}
use Rattle.mdl_graph.specs.WaitsFor.{SessionTest, is_tied, is_unsettled}
use Rattle.std.proofs.lemmas.Bool.Decides.{nat_tests}
use Rattle.std.proofs.lemmas.Grind.{common_steps}
use Rattle.mdl_graph.proofs.JoinLemmas.{known-push, or_false, rows-known, tie-push, tie-skip}
use Rattle.mdl_graph.proofs.rows.add_waiters.Goals as goal
use Rattle.mdl_graph.proofs.rows.add_waiters.Goals.{then-not-contains+in_ok-row+in_ok-push+in_ok-push-2, else-not-contains}

pub loop-ticket-preserved : goal.loop-ticket-preserved
loop-ticket-preserved c =
    let inv = c.loop-ticket.invariant in
    let i = c.loop-ticket.ticket-index in
    let book = c.args.book.now in
    let settled : SessionTest = set.contains c.args.settled.now in
    let none : Ticket = record { session = 0; mode = IX; number = 0 } in
    let tickets = c.waiting-ticket-items.result.now in
    let ticket : Ticket = get_or tickets i none in
    let more = take_more tickets i none c.loop-ticket-test.true in
    let pushed : (waiter other : ℕ) → list_any (λ wish. wish.session == waiter && is_tied settled book other wish) (take i tickets ++ ticket ∷ [])
    ≡ (list_any (λ wish. wish.session == waiter && is_tied settled book other wish) (take i tickets) || (ticket.session == waiter && is_tied settled book other ticket)) =
    λ waiter other.
    list_any-append (λ wish. wish.session == waiter && is_tied settled book other wish) (take i tickets) (ticket ∷ [])
    ∙ ap (λ (b : Bool). list_any (λ wish. wish.session == waiter && is_tied settled book other wish) (take i tickets) || b) (or_false (ticket.session == waiter && is_tied settled book other ticket)) in
    elim c.if-not-contains.branch [
      | then-not-contains+in_ok-row+in_ok-push+in_ok-push-2 w ↦ record {
        wishes_len = grind (arith, common_steps);
        wishes_kept = grind (arith, common_steps);
        ranks_len = grind (arith, common_steps);
        ranks_kept = grind (arith, common_steps);
        waits_len = grind (arith, common_steps);
        waits_kept = grind (arith, common_steps);
        stands_len = grind (arith, common_steps);
        stands_kept = grind (arith, common_steps);
        begun = inv.begun;
        known = rw (w.ranks-is, w.waits-is, w.in_ok-push-2.ensures.items)
            (known-push c.loop-ticket.waits.items w.in_ok-row.row ticket.session (length w.row_of.new.ranks.items) w.in_ok-row.ensures.known
            (λ one other above. inv.known one other (omega (arith, above, w.in_ok-row.ensures.ranks_len))));
        fresh = rw (w.ranks-is, w.stands-is) w.in_ok-row.ensures.fresh;
        modes = rw (w.ranks-is, w.stands-is) w.in_ok-row.ensures.modes;
        wishes = grind (arith, common_steps, nat_tests);
        ties = λ waiter other.
            rw (w.waits-is, w.stands-is, w.in_ok-push-2.ensures.items, more)
            (tie-push c.loop-ticket.waits.items c.loop-ticket.stands.items w.row_of.new.stands.items (length c.loop-ticket.ranks.items) w.in_ok-row.row
            ticket.session waiter other
            (are_joined c.args.waits.now.items c.args.stands.now.items waiter other) (is_unsettled settled waiter)
            (list_any (λ wish. wish.session == waiter && is_tied settled book other wish) (take i tickets))
            (stands_against settled book ticket.mode other)
            w.in_ok-row.ensures.same (rows-known (length c.loop-ticket.ranks.items) c.loop-ticket.waits.items inv.known) (inv.ties waiter other)
            (w.in_ok-row.ensures.row other) (λ same. subst (λ (x : ℕ). is_unsettled settled x ≡ true) same (grind (arith, common_steps)))
            ∙ ap (λ (b : Bool). are_joined c.args.waits.now.items c.args.stands.now.items waiter other || (is_unsettled settled waiter && b)) (sym (pushed waiter other)));
      }
      | else-not-contains w ↦ record {
        wishes_len = grind (arith, common_steps);
        wishes_kept = grind (arith, common_steps);
        ranks_len = grind (arith, common_steps);
        ranks_kept = grind (arith, common_steps);
        waits_len = grind (arith, common_steps);
        waits_kept = grind (arith, common_steps);
        stands_len = grind (arith, common_steps);
        stands_kept = grind (arith, common_steps);
        begun = inv.begun;
        known = rw (w.ranks-is, w.waits-is) inv.known;
        fresh = rw (w.ranks-is, w.stands-is) inv.fresh;
        modes = rw (w.ranks-is, w.stands-is) inv.modes;
        wishes = grind (arith, common_steps, nat_tests);
        ties = λ waiter other.
            rw (w.waits-is, w.stands-is, more)
            (inv.ties waiter other
            ∙ tie-skip ticket.session waiter (are_joined c.args.waits.now.items c.args.stands.now.items waiter other) (is_unsettled settled waiter)
            (list_any (λ wish. wish.session == waiter && is_tied settled book other wish) (take i tickets)) (is_tied settled book other ticket)
            (λ same. subst (λ (x : ℕ). is_unsettled settled x ≡ false) same (grind (arith, common_steps)))
            ∙ ap (λ (b : Bool). are_joined c.args.waits.now.items c.args.stands.now.items waiter other || (is_unsettled settled waiter && b)) (sym (pushed waiter other)));
      }
    ]

pub returns-in_err-row-clause-wishes_kept : goal.returns-in_err-row-clause-wishes_kept
returns-in_err-row-clause-wishes_kept c = grind (arith, common_steps)

pub returns-in_err-row-clause-ranks_kept : goal.returns-in_err-row-clause-ranks_kept
returns-in_err-row-clause-ranks_kept c = grind (arith, common_steps)

pub returns-in_err-row-clause-waits_kept : goal.returns-in_err-row-clause-waits_kept
returns-in_err-row-clause-waits_kept c = grind (arith, common_steps)

pub returns-in_err-row-clause-stands_kept : goal.returns-in_err-row-clause-stands_kept
returns-in_err-row-clause-stands_kept c = grind (arith, common_steps)

pub returns-in_err-push-clause-wishes_kept : goal.returns-in_err-push-clause-wishes_kept
returns-in_err-push-clause-wishes_kept c = grind (arith, common_steps)

pub returns-in_err-push-clause-ranks_kept : goal.returns-in_err-push-clause-ranks_kept
returns-in_err-push-clause-ranks_kept c = grind (arith, common_steps)

pub returns-in_err-push-clause-waits_kept : goal.returns-in_err-push-clause-waits_kept
returns-in_err-push-clause-waits_kept c = grind (arith, common_steps)

pub returns-in_err-push-clause-stands_kept : goal.returns-in_err-push-clause-stands_kept
returns-in_err-push-clause-stands_kept c = grind (arith, common_steps)

pub returns-in_err-push-2-clause-wishes_kept : goal.returns-in_err-push-2-clause-wishes_kept
returns-in_err-push-2-clause-wishes_kept c = grind (arith, common_steps)

pub returns-in_err-push-2-clause-ranks_kept : goal.returns-in_err-push-2-clause-ranks_kept
returns-in_err-push-2-clause-ranks_kept c = grind (arith, common_steps)

pub returns-in_err-push-2-clause-waits_kept : goal.returns-in_err-push-2-clause-waits_kept
returns-in_err-push-2-clause-waits_kept c = grind (arith, common_steps)

pub returns-in_err-push-2-clause-stands_kept : goal.returns-in_err-push-2-clause-stands_kept
returns-in_err-push-2-clause-stands_kept c = grind (arith, common_steps)

pub returns-clause-wishes_kept : goal.returns-clause-wishes_kept
returns-clause-wishes_kept c = c.loop-ticket.invariant.wishes_kept

pub returns-clause-ranks_kept : goal.returns-clause-ranks_kept
returns-clause-ranks_kept c = c.loop-ticket.invariant.ranks_kept

pub returns-clause-waits_kept : goal.returns-clause-waits_kept
returns-clause-waits_kept c = c.loop-ticket.invariant.waits_kept

pub returns-clause-stands_kept : goal.returns-clause-stands_kept
returns-clause-stands_kept c = c.loop-ticket.invariant.stands_kept

pub returns-clause-fresh : goal.returns-clause-fresh
returns-clause-fresh c = c.loop-ticket.invariant.fresh

pub returns-clause-known : goal.returns-clause-known
returns-clause-known c = c.loop-ticket.invariant.known

pub row_of-requires-clause-fresh : goal.row_of-requires-clause-fresh
row_of-requires-clause-fresh c = c.loop-ticket.invariant.fresh

pub row_of-requires-clause-modes : goal.row_of-requires-clause-modes
row_of-requires-clause-modes c = c.loop-ticket.invariant.modes
