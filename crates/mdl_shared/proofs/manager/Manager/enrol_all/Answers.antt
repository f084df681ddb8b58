-- The next pass is that of the next number, and there are as many sessions as the table has words for.
use Rattle.std.proofs.Common.{◌≡◌, ◌+◌, ◌++◌, ◌∷◌, [], ◌<◌, ℕ, rules, arith, ltb, true, false, List, length, get_or, subst, sym, ap, refl, ◌∙◌}
use Rattle.mdl_shared.proofs.Lemmas.{ArePasses, IsPass, SeatState, TableId, arc_value, enrolled_seat, get_or_append_left, get_or_push, length_push, nat_tests, session_count, word_count}
use Rattle.mdl_shared.proofs.manager.Manager.enrol_all.Goals as goal
use Rattle.mdl_shared.specs.declared.pass.Pass.{Pass}

counted : (slots words sessions : ℕ) → words ≡ word_count slots sessions → sessions ≡ session_count slots words
counted slots words sessions is = omega (arith, is)

passes_more : (table : TableId) (passes : List Pass) (next : Pass) → ArePasses table passes → IsPass table (length passes + 1) next → ArePasses table (passes ++ next ∷ [])
passes_more table passes next are is k d inside =
    elim (ltb k (length passes)) as (λ b. ltb k (length passes) ≡ b → IsPass table (k + 1) (get_or (passes ++ next ∷ []) k d)) [
      | true ↦ λ e. let old : k < length passes = grind (arith, nat_tests) in rw (get_or_append_left passes (next ∷ []) d k old) (are k d old)
      | false ↦ λ e. let longer = length_push passes next in
          let last : length passes ≡ k = grind (arith, nat_tests, longer, inside) in
          rw (get_or_push passes next d k last) (subst (λ (n : ℕ). IsPass table (n + 1) next) last is)
    ] refl

pub loop-passes-preserved : goal.loop-passes-preserved
loop-passes-preserved c =
    let is : c.new-member.result.seat ≡ enrolled_seat (arc_value c.args.table.now).shared.table_id (length c.loop-passes.passes.items + 1) =
    c.new-member.ensures.made.0 ∙ c.in-Some.ensures.enrolled.2
    ∙ (λ i. enrolled_seat (c.loop-passes.invariant.seated i) (sym c.loop-passes.invariant.given i + 1)) in record {
      seated = search rules;
      most = search rules;
      given = search rules;
      passes = rw c.in_ok-push.ensures.items (passes_more _ c.loop-passes.passes.items _ c.loop-passes.invariant.passes (record {
        theirs = ap (λ (s : SeatState). s.table) is;
        numbered = ap (λ (s : SeatState). s.me.0.number) is;
        sessions = c.new-member.ensures.made.1 ∙ counted _ _ c.args.sessions c.requires.sessions.1;
        fresh = ap (λ (s : SeatState). s.me) is;
        unpinned = c.new-member.ensures.unpinned;
      }));
    }
