-- Each turn goes one step further back.
use Rattle.std.proofs.Common.{◌≡◌, ◌∙◌, ◌<◌, ℕ, Bool, suc, List, length, sym, ap, subst, add-one, arith, [], true}
use Rattle.std.specs.List.{list_any}
use Rattle.std.specs.Vec.{vec_len}
use Rattle.std.specs.Prelude.{◌==◌, ◌||◌, ◌&&◌, not}
use Rattle.std.proofs.lemmas.Bool.{eqb-true}
use Rattle.std.proofs.lemmas.List.{nil_from_length}
use Rattle.std.proofs.lemmas.Grind.{common_steps}
use Rattle.mdl_graph.specs.Searches.{IsSearched, is_at, level_of, opened, stands_in, waits_by}
use Rattle.mdl_graph.proofs.SearchLemmas.{further, reached_further, over_found, over_none}
use Rattle.mdl_graph.proofs.levels.levels_back.Goals as goal
use Rattle.mdl_graph.proofs.levels.levels_back.Goals.{then-loop-levels-test+else-level_at-eq0, else-loop-levels-test}

pub loop-levels-preserved : goal.loop-levels-preserved
loop-levels-preserved c =
    let waits : ℕ → ℕ → Bool = waits_by c.args.waits.now c.args.stands.now in
    let from = c.args.from in
    let n = c.loop-levels.steps in
    let old = c.loop-levels.levels.items in
    let new = c.spread.new.levels.items in
    let front = c.loop-levels.front.items in
    let inv = c.loop-levels.invariant in
    let steps : (session : ℕ) → level_of new session ≡ opened (suc n) (list_any (waits session) front) (level_of old session) =
    subst (λ (k : ℕ). (session : ℕ) → level_of new session ≡ opened k (list_any (waits session) front) (level_of old session)) (add-one n)
    (λ session. rw (← c.deref-in-loop-levels.ensures.value) (c.in_ok-spread.ensures.levels session)) in
    let here : 0 < length front = grind (arith, common_steps) in
    let swapped : c.swap.new.x.items ≡ c.spread.new.reached.items = grind (arith, common_steps) in
    let reached : (session : ℕ) → stands_in c.spread.new.reached.items session ≡ ((level_of old session == 0) && not (level_of new session == 0)) =
    λ session. c.in_ok-spread.ensures.reached session ∙ ap (λ (sessions : List ℕ). stands_in sessions session || ((level_of old session == 0) && not (level_of new session == 0))) inv.reached in
    let count : length c.spread.new.reached.items ≡ length c.swap.new.x.items = ap (λ (sessions : List ℕ). length sessions) (sym swapped) in
    let empty : length c.loop-levels.reached.items ≡ 0 = ap (λ (sessions : List ℕ). length sessions) inv.reached in
    record {
      len = c.in_ok-spread.ensures.len ∙ inv.len;
      rows = c.in_ok-spread.ensures.rows ∙ inv.rows;
      done = c.in_ok-spread.ensures.done;
      searched = subst (λ (k : ℕ). IsSearched waits from new k) (sym (add-one n)) (further waits from n old new front inv.searched inv.front steps);
      front = λ session.
          ap (λ (sessions : List ℕ). stands_in sessions session) swapped ∙ reached session
          ∙ reached_further waits from n old new front inv.searched inv.front steps session
          ∙ ap (λ (k : ℕ). is_at new from k session) (sym (add-one n));
      reached = grind (arith, common_steps);
      room = λ more. omega (arith, c.in_ok-spread.ensures.count, count, empty, more, inv.room here);
    }

pub returns-clause-over : goal.returns-clause-over
returns-clause-over c =
    let waits : ℕ → ℕ → Bool = waits_by c.args.waits.now c.args.stands.now in
    let levels = c.loop-levels.levels.items in
    let inv = c.loop-levels.invariant in
    let empty : c.is_empty.result ≡ true → c.loop-levels.front.items ≡ [] = λ e. nil_from_length c.loop-levels.front.items (let none : (vec_len c.loop-levels.front == 0) ≡ true = sym c.is_empty.ensures ∙ e in omega (arith, eqb-true (vec_len c.loop-levels.front) 0 none, c.loop-levels.front.ok)) in
    elim c.loop-levels-test.branch [
      | then-loop-levels-test+else-level_at-eq0 w ↦
          let level : w.level_at.result ≡ level_of levels c.args.from = grind (arith, common_steps) in
          let some : 0 < level_of levels c.args.from = grind (arith, common_steps, level) in
          over_found waits c.args.from levels c.loop-levels.steps inv.searched some
      | else-loop-levels-test w ↦ over_none waits c.args.from levels c.loop-levels.steps inv.searched
          (λ session. sym (inv.front session) ∙ ap (λ (sessions : List ℕ). stands_in sessions session) (empty (grind (arith, common_steps))))
    ]
