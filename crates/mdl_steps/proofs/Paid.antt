-- An exact word stays exact where the part of one session changes, but not its fast tickets and what it owes.
use Rattle.std.proofs.Common.{◌≡◌, ◌≢◌, ℕ, ◌==◌, ◌||◌, Bool, true, false, cond, List, ◌∷◌, set, sym, ap, ◌∙◌, subst, refl, inl, inr, Option, eq-eqb}
use Rattle.mdl_steps.proofs.Common.{CountsFastTickets, ExactCounts, IsPaidBut, Kind, Part, Ticket, all_fast, cases_eq, get_elem?, list_any, set_else, set_here, some, some-injective}
use Rattle.mdl_steps.proofs.Views.{at_inside, other}

-- ---- what a session owes after a fast release, by whether that found the flag SLOW up

pub owes_here : (up : Bool) (place : ℕ) (owes : List ℕ) → up ≡ true → list_any (λ p. p == place) (cond up (place ∷ owes) owes) ≡ true
owes_here true place owes e = ap (λ (b : Bool). b || list_any (λ p. p == place) owes) (eq-eqb place place refl)
owes_here false place owes e = absurd (cc)

pub owes_else : (up : Bool) (place q : ℕ) (owes : List ℕ) → q ≢ place → list_any (λ p. p == q) (cond up (place ∷ owes) owes) ≡ list_any (λ p. p == q) owes
owes_else true place q owes else = ap (λ (b : Bool). b || list_any (λ p. p == q) owes) (other place q (λ e. else (sym e)))
owes_else false place q owes else = refl

-- ---- the part of one session is another

module _ (parts : List Part) (id : ℕ) (x y : Part) (at : get_elem? parts id ≡ some x) (same : y.number ≡ x.number) (less : y.owes ≡ false → x.owes ≡ false) where
  -- where others owe nothing then, they owed nothing before
  pub paid_before : (number : ℕ) → IsPaidBut number (set parts id y) → IsPaidBut number parts
  paid_before number paid j z there else = elim (cases_eq j id) [
    | inl e ↦
        let is : z ≡ x = some-injective z x (sym there ∙ subst (λ (k : ℕ). get_elem? parts k ≡ some x) (sym e) at) in
        let owed : y.owes ≡ false = paid id y (set_here parts id y (at_inside parts id x at)) (λ n. else (ap (λ (w : Part). w.number) is ∙ sym same ∙ n)) in
        ap (λ (w : Part). w.owes) is ∙ less owed
    | inr e ↦ paid j z (set_else parts id j y e ∙ there) else
  ]

  pub exact_again : all_fast (set parts id y) ≡ all_fast parts → (kind : Kind) (slow obtrusive : Bool) (number : ℕ) (noted : Option ℕ) (exact : Bool)
      → ExactCounts kind parts slow obtrusive number noted exact → ExactCounts kind (set parts id y) slow obtrusive number noted exact
  exact_again fast kind slow obtrusive number noted exact was up =
      let k = was up in (
        k.0,
        k.1,
        λ word is paid. subst (λ (ts : List Ticket). CountsFastTickets kind word ts) (sym fast) (k.2 word is (paid_before number paid)),
      )
