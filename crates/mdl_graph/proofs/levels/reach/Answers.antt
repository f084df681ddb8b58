-- One session more is offered the step.
use Rattle.std.proofs.Common.{◌≡◌, ◌≢◌, ◌<◌, ◌∙◌, ◌+◌, ◌++◌, ◌∷◌, [], ℕ, Bool, length, take, get_or, sym, ap, arith}
use Rattle.std.specs.Prelude.{not, ◌&&◌, ◌||◌, ◌==◌}
use Rattle.std.proofs.lemmas.List.{take_more}
use Rattle.mdl_graph.specs.Searches.{Pairs, holds, level_of, opened, stands_in, value_at, waits_in}
use Rattle.mdl_graph.proofs.LevelLemmas.{reach-step, reach-skip, reached-more}
use Rattle.mdl_graph.proofs.SpanLemmas.{holds_here, holds_else}
use Rattle.mdl_graph.proofs.levels.reach.Goals.{then-wait-row+then-session-next+in_ok-offer, else-wait-row, else-wait-row-via-then-wait-row+else-session-next, else-wait-row-via-else-wait-row}
use Rattle.mdl_graph.proofs.levels.reach.Goals as goal

pub offer-requires-clause-within : goal.offer-requires-clause-within
offer-requires-clause-within c =
    let below : value_at c.near-wait-items.result.now c.loop-wait.wait-index < length c.args.levels.now.items =
    c.near-wait-items.ensures.within (length c.args.levels.now.items) c.requires.within c.loop-wait.wait-index c.loop-wait-test.true in
    omega (arith, below, c.loop-wait.invariant.len, c.from-session.ensures)

pub loop-wait-preserved : goal.loop-wait-preserved
loop-wait-preserved c =
    let items : Pairs = c.near-wait-items.result.now in
    let i = c.loop-wait.wait-index in
    let row = c.args.row in
    let next = c.args.next in
    let steps = c.args.steps in
    let value = c.from-session.result in
    let inv = c.loop-wait.invariant in
    let wait : ℕ × ℕ = get_or items i (0, 0) in
    let more : take (i + 1) items ≡ take i items ++ wait ∷ [] = take_more items i (0, 0) c.loop-wait-test.true in
    let here : wait.0 ≡ row → (session : ℕ) → holds (take (i + 1) items) row session ≡ ((value == session) || holds (take i items) row session) =
    λ same session.
    ap (λ (pairs : Pairs). holds pairs row session) more ∙ holds_here (take i items) wait row session same
    ∙ ap (λ (v : ℕ). (v == session) || holds (take i items) row session) (sym c.from-session.ensures) in
    elim c.if-wait-row.branch [
      | then-wait-row+then-session-next+in_ok-offer w ↦
          let apart : value ≢ next = λ same. w.if-session-next.true same in
          let levels : (session : ℕ) → level_of w.offer.new.levels.items session
          ≡ opened steps (session == value) (opened steps (waits_in (take i items) row next session) (level_of c.args.levels.now.items session)) =
          λ session. w.in_ok-offer.ensures.levels session ∙ ap (opened steps (session == value)) (inv.levels session) in
          record {
            len = rw w.levels-is (w.in_ok-offer.ensures.len ∙ inv.len);
            levels = λ session.
                let known = level_of c.args.levels.now.items session in
                rw w.levels-is
                (levels session ∙ reach-step steps known value next session (holds (take i items) row session) c.requires.steps apart
                ∙ ap (λ (b : Bool). opened steps (not (session == next) && b) known) (sym (here w.if-wait-row.true session)));
            reached = λ session.
                let known = level_of c.args.levels.now.items session in
                let more = reached-more steps known (waits_in (take i items) row next session) (session == value) (stands_in c.args.reached.now.items session) c.requires.steps in
                rw (w.levels-is, w.reached-is, w.in_ok-offer.ensures.reached session, inv.reached session, levels session, inv.levels session) more;
            count = rw (w.levels-is, w.reached-is) (w.in_ok-offer.ensures.count ∙ inv.count);
          }
      | else-wait-row w ↦ record {
        len = rw w.levels-is inv.len;
        levels = λ session.
            let known = level_of c.args.levels.now.items session in
            rw w.levels-is
            (inv.levels session
            ∙ elim w.else-wait-row.branch [
              | else-wait-row-via-then-wait-row+else-session-next v ↦
                  reach-skip steps known value next session (holds (take i items) row session) v.if-session-next.false
                  ∙ ap (λ (b : Bool). opened steps (not (session == next) && b) known) (sym (here v.if-wait-row.true session))
              | else-wait-row-via-else-wait-row v ↦
                  ap (λ (b : Bool). opened steps (not (session == next) && b) known)
                  (sym (ap (λ (pairs : Pairs). holds pairs row session) more ∙ holds_else (take i items) wait row session v.if-wait-row.false))
            ]);
        reached = λ session. rw (w.levels-is, w.reached-is) (inv.reached session);
        count = rw (w.levels-is, w.reached-is) inv.count;
      }
    ]
