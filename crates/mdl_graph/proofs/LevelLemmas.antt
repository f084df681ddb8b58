-- What a step does to how far the sessions are.
use Rattle.std.proofs.Common.{◌≡◌, ◌≢◌, ℕ, ◌<◌, Bool, true, false, not, List, length, refl, ap, sym, subst, ◌∙◌, inl, inr, arith, get_or-set_same, get_or-set_other}
use Rattle.std.specs.Prelude.{◌&&◌, ◌||◌, ◌==◌, slice_index_or, slice_set}
use Rattle.std.proofs.lemmas.Bool.{cases_eq, and_from, not_from_false, ne_eqb}
use Rattle.std.proofs.lemmas.Bool.Decides.{nat_tests}
use Rattle.mdl_graph.specs.Searches.{Pairs, AreDone, holds, level_of, opened, waits_in}

-- two steps of one length
pub opened-twice : (steps known : ℕ) (one other : Bool) → 0 < steps → opened steps other (opened steps one known) ≡ opened steps (other || one) known
opened-twice steps known true true some = grind (arith, nat_tests)
opened-twice steps known true false some = grind (arith, nat_tests)
opened-twice steps known false true some = grind (arith, nat_tests)
opened-twice steps known false false some = grind (arith, nat_tests)

-- a session more that waits in a row
pub reach-step : (steps known value next session : ℕ) (rest : Bool) → 0 < steps → (value ≢ next)
    → opened steps (session == value) (opened steps (not (session == next) && rest) known) ≡ opened steps (not (session == next) && ((value == session) || rest)) known
reach-step steps known value next session rest some apart =
    opened-twice steps known (not (session == next) && rest) (session == value) some
    ∙ ap (λ (b : Bool). opened steps b known) (elim (cases_eq session value) [
      | inl same ↦
          let here : (session == value) ≡ true = grind (arith, nat_tests, same) in
          let there : (value == session) ≡ true = grind (arith, nat_tests, same) in
          let off : (session == next) ≡ false = grind (arith, nat_tests, same, apart) in
          rw (here, there, off) refl
      | inr differ ↦
          let here : (session == value) ≡ false = grind (arith, nat_tests, differ) in
          let there : (value == session) ≡ false = grind (arith, nat_tests, differ) in
          rw (here, there) refl
    ])

-- the session itself
pub reach-skip : (steps known value next session : ℕ) (rest : Bool) → value ≡ next
    → opened steps (not (session == next) && rest) known ≡ opened steps (not (session == next) && ((value == session) || rest)) known
reach-skip steps known value next session rest same =
    ap (λ (b : Bool). opened steps b known) (elim (cases_eq session next) [
      | inl here ↦ let test : (session == next) ≡ true = grind (arith, nat_tests, here) in rw test refl
      | inr apart ↦ let test : (value == session) ≡ false = grind (arith, nat_tests, same, apart) in rw test refl
    ])

-- a row whose waiters were all reached
pub turn-skip : (steps known : ℕ) (here rest : Bool) → (here ≡ true → 0 < opened steps rest known) → opened steps rest known ≡ opened steps (here || rest) known
turn-skip steps known false rest done = refl
turn-skip steps known true true done = refl
turn-skip steps known true false done = let some : 0 < opened steps false known = done refl in grind (arith, nat_tests, some)

-- those who were reached, in two steps
pub reached-more : (steps known : ℕ) (one other there : Bool) → 0 < steps
    → ((there || ((known == 0) && not (opened steps one known == 0)))
    || ((opened steps one known == 0) && not (opened steps other (opened steps one known) == 0)))
    ≡ (there || ((known == 0) && not (opened steps other (opened steps one known) == 0)))
reached-more steps known one other true some = refl
reached-more steps known true true false some = grind (arith, nat_tests)
reached-more steps known true false false some = grind (arith, nat_tests)
reached-more steps known false true false some = grind (arith, nat_tests)
reached-more steps known false false false some = grind (arith, nat_tests)

opened-some : (steps known : ℕ) (is_open : Bool) → 0 < known → opened steps is_open known ≡ known
opened-some steps known is_open some = let full : (known == 0) ≡ false = grind (arith, nat_tests, some) in rw full refl

opened-open : (steps known : ℕ) → 0 < steps → 0 < opened steps true known
opened-open steps known some = grind (arith, nat_tests, some)

-- a row is done where the session was reached from which all others in it were
pub done-more : (done : List Bool) (row : ℕ) (flag : Bool) (waits : Pairs) (old new : List ℕ) (next steps : ℕ) → AreDone done waits old
    → ((session : ℕ) → level_of new session ≡ opened steps (waits_in waits row next session) (level_of old session))
    → 0 < steps → row < length done → (flag ≡ true → 0 < level_of new next) → AreDone (slice_set done row flag) waits new
done-more done row flag waits old new next steps were levels some inside reached = λ one session is waiting.
    elim (cases_eq one row) [
      | inl same ↦
          let raised : flag ≡ true = sym (get_or-set_same done row flag false inside) ∙ subst (λ (r : ℕ). slice_index_or (slice_set done row flag) r false ≡ true) same is in
          elim (cases_eq session next) [
            | inl here ↦ subst (λ (s : ℕ). 0 < level_of new s) (sym here) (reached raised)
            | inr apart ↦
                let open_now : waits_in waits row next session ≡ true =
                and_from (not (session == next)) (holds waits row session) (not_from_false (session == next) (ne_eqb session next apart))
                (subst (λ (r : ℕ). holds waits r session ≡ true) same waiting) in
                let level : level_of new session ≡ opened steps true (level_of old session) = levels session ∙ ap (λ (b : Bool). opened steps b (level_of old session)) open_now in
                omega (arith, level, opened-open steps (level_of old session) some)
          ]
      | inr apart ↦
          let was : 0 < level_of old session = were one session (sym (get_or-set_other done row one flag false apart) ∙ is) waiting in
          omega (arith, levels session, opened-some steps (level_of old session) (waits_in waits row next session) was, was)
    ]
