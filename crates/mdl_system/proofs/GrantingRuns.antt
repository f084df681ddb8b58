-- Waiters of a key can be granted until none is forgotten there: each grant leaves one less.
use Rattle.std.proofs.Common.{◌≡◌, ◌≢◌, ◌⊎◌, ℕ, zero, suc, ◌≤◌, Bool, true, false, inl, inr, List, [], ◌∷◌, length, Option, refl, sym, ap, subst, ◌∙◌, arith, length-append}
use Rattle.std.specs.Prelude.{IsTrue, Contains, All}
use Rattle.std.proofs.lemmas.List.Elements.{All-nil, All-cons}
use Rattle.mdl_key.specs.declared.mode.Mode.{Mode}
use Rattle.mdl_key.specs.Words.{KeyName, clashes, waits_behind, Clashes, WaitsBehind}
use Rattle.mdl_system.specs.Systems.{WaitState, Unsettled, Victim, TimedOut, Killed, Holding, Waiter, System, lock_kind, IsGrantable, NoneForgottenAt}
use Rattle.mdl_system.specs.Events.{Event, GrantWaiter, GrantsWaiter, Run, Gains, LeavesOrder, granted_ticket, granted_wait}
use Rattle.mdl_system.specs.BlockingLaws.{IsGrantAt}
use Rattle.mdl_system.proofs.Deciding.{both_told, key_told, nat_told}
use Rattle.mdl_system.proofs.OrderLemmas.{Contains-cons_cases, Contains-here, Contains-later}

-- ---- what can be told

not_told : {P : Type 0} → P ⊎ (P → ⊥) → (P → ⊥) ⊎ ((P → ⊥) → ⊥)
not_told (inl p) = inr (λ not. not p)
not_told (inr not) = inl not

if_told : {P Q : Type 0} → P ⊎ (P → ⊥) → Q ⊎ (Q → ⊥) → (P → Q) ⊎ ((P → Q) → ⊥)
if_told (inl p) (inl q) = inl (λ _. q)
if_told (inl p) (inr not) = inr (λ f. not (f p))
if_told (inr not) q = inl (λ p. absurd (not p))

test_told : (b : Bool) → IsTrue b ⊎ (IsTrue b → ⊥)
test_told true = inl refl
test_told false = inr (λ e. cc)

unsettled_told : (state : WaitState) → (state ≡ Unsettled) ⊎ (state ≢ Unsettled)
unsettled_told Unsettled = inl refl
unsettled_told Victim = inr (λ e. cc)
unsettled_told TimedOut = inr (λ e. cc)
unsettled_told Killed = inr (λ e. cc)

module _ {T : Type 0} (P : T → Type 0) (tells : (x : T) → P x ⊎ (P x → ⊥)) where
  each_told : (xs : List T) → ((x : T) → Contains xs x → P x) ⊎ (((x : T) → Contains xs x → P x) → ⊥)
  each_told [] = inl (λ x among. let lt = among.1 in absurd (omega arith))
  each_told (y ∷ ys) = go (tells y) (each_told ys)
    where
      go : P y ⊎ (P y → ⊥) → ((x : T) → Contains ys x → P x) ⊎ (((x : T) → Contains ys x → P x) → ⊥)
          → ((x : T) → Contains (y ∷ ys) x → P x) ⊎ (((x : T) → Contains (y ∷ ys) x → P x) → ⊥)
      go (inl p) (inl rest) = inl (λ x among. elim (Contains-cons_cases y ys x among) [ inl later ↦ rest x later | inr e ↦ subst P (sym e) p ])
      go (inl p) (inr not) = inr (λ all. not (λ x among. all x (Contains-later y ys x among)))
      go (inr not) rest = inr (λ all. not (all y (Contains-here y ys)))

  -- the first of a list, and the others in order
  first_told : (xs : List T) → ((x : T) × (rest : List T) × LeavesOrder x xs rest × P x) ⊎ ((x : T) → Contains xs x → P x → ⊥)
  first_told [] = inr (λ x among _. let lt = among.1 in absurd (omega arith))
  first_told (y ∷ ys) = go (tells y) (first_told ys)
    where
      go : P y ⊎ (P y → ⊥) → ((x : T) × (rest : List T) × LeavesOrder x ys rest × P x) ⊎ ((x : T) → Contains ys x → P x → ⊥)
          → ((x : T) × (rest : List T) × LeavesOrder x (y ∷ ys) rest × P x) ⊎ ((x : T) → Contains (y ∷ ys) x → P x → ⊥)
      go (inl p) others = inl (y, ys, ([], ys, refl, refl), p)
      go (inr not) (inl found) =
          inl (found.0, y ∷ found.1, (y ∷ found.2.0, found.2.1, ap (λ zs. y ∷ zs) found.2.2, ap (λ zs. y ∷ zs) found.2.3), found.3)
      go (inr not) (inr none) =
          inr (λ x among p. elim (Contains-cons_cases y ys x among) [ inl later ↦ none x later p | inr e ↦ not (subst P e p) ])

-- ---- one more grant

pub chosen : {P T : Type 0} → P ⊎ (P → ⊥) → T → T → T
chosen (inl p) x y = x
chosen (inr not) x y = y

pub chosen-yes : {P T : Type 0} (d : P ⊎ (P → ⊥)) (x y : T) → P → chosen d x y ≡ x
unfolding chosen
chosen-yes (inl p) x y q = refl
chosen-yes (inr not) x y q = absurd (not q)

pub chosen-no : {P T : Type 0} (d : P ⊎ (P → ⊥)) (x y : T) → (P → ⊥) → chosen d x y ≡ y
unfolding chosen
chosen-no (inl p) x y n = absurd (n p)
chosen-no (inr not) x y n = refl

-- one member more
pub gains-cons : {T : Type 0} (y : T) (xs : List T) → Gains y xs (y ∷ xs)
gains-cons {T} y xs x = (Contains-cons_cases y xs x, back)
  where
    back : Contains xs x ⊎ (x ≡ y) → Contains (y ∷ xs) x
    back (inl among) = Contains-later y xs x among
    back (inr e) = subst (λ (z : T). Contains (y ∷ xs) z) (sym e) (Contains-here y xs)

module _ {D : Type 0} where
  grantable_told : (a : System D) (session : ℕ) (key : KeyName) (mode : Mode) → IsGrantable a session key mode ⊎ (IsGrantable a session key mode → ⊥)
  grantable_told a session key mode =
      both_told
      (each_told (λ (held : Holding). held.key ≡ key → held.session ≢ session → Clashes (lock_kind key) mode held.mode → ⊥)
      (λ held. if_told (key_told held.key key) (if_told (not_told (nat_told held.session session)) (not_told (test_told (clashes (lock_kind key) mode held.mode))))) a.granted)
      (each_told (λ (waiter : Waiter). waiter.ticket.session ≢ session → WaitsBehind (lock_kind key) mode waiter.ticket.mode → ⊥)
      (λ waiter. if_told (not_told (nat_told waiter.ticket.session session)) (not_told (test_told (waits_behind (lock_kind key) mode waiter.ticket.mode)))) (a.waiting key))

  -- the system after a waiter is granted and `rest` wait
  pub granting_to : System D → KeyName → Waiter → List Waiter → System D
  granting_to a key waiter rest = record {
    granted = granted_ticket key waiter ∷ a.granted;
    waiting = λ k. chosen (key_told k key) rest (a.waiting k);
    unended = granted_wait waiter ∷ a.unended;
    definitions = a.definitions;
  }

  granting-rest : (a : System D) (key : KeyName) (waiter : Waiter) (rest : List Waiter) → (granting_to a key waiter rest).waiting key ≡ rest
  unfolding granting_to
  granting-rest a key waiter rest = chosen-yes (key_told key key) rest (a.waiting key) refl

  pub granting-step : (a : System D) (key : KeyName) (waiter : Waiter) (rest : List Waiter) → LeavesOrder waiter (a.waiting key) rest
      → waiter.state ≡ Unsettled → IsGrantable a waiter.ticket.session key waiter.ticket.mode → GrantsWaiter key waiter a (granting_to a key waiter rest)
  unfolding granting_to
  granting-step a key waiter rest leaves unsettled grantable = record {
    unsettled = unsettled;
    grantable = grantable;
    leaves = (leaves.0, leaves.1, leaves.2, chosen-yes (key_told key key) rest (a.waiting key) refl ∙ leaves.3);
    elsewhere = λ other e. chosen-no (key_told other key) rest (a.waiting other) e;
    granted = gains-cons (granted_ticket key waiter) a.granted;
    unended = gains-cons (granted_wait waiter) a.unended;
    definitions = λ _. refl;
  }

module _ {C D : Type 0} (apply : KeyName → C → Option D → Option (Option D)) where
  -- a run of grants at a key after which none is forgotten there
  abbrev Ends : System D → KeyName → Type 0
  Ends a key = (events : List (Event C)) × (b : System D) × All (IsGrantAt key) events × Run apply events a b × NoneForgottenAt b key

  ends-at_once : (a : System D) (key : KeyName) → NoneForgottenAt a key → Ends a key
  ends-at_once a key none = (
    [],
    a,
    All-nil (IsGrantAt key),
    record {
      granted = λ _. ((λ among. among), λ among. among);
      waits = record { waiting = λ _. refl; unended = λ _. ((λ among. among), λ among. among) };
      definitions = λ _. refl;
    },
    none,
  )

  ends-after : (a b : System D) (key : KeyName) (waiter : Waiter) → GrantsWaiter key waiter a b → Ends b key → Ends a key
  ends-after a b key waiter step ends =
      (GrantWaiter key waiter ∷ ends.0, ends.1, All-cons (IsGrantAt key) (GrantWaiter key waiter) ends.0 refl ends.2, (b, step, ends.3), ends.4)

  -- the unsettled waiters of a key that are grantable
  abbrev IsReady : System D → KeyName → Waiter → Type 0
  IsReady a key waiter = (waiter.state ≡ Unsettled) × IsGrantable a waiter.ticket.session key waiter.ticket.mode

  ready_told : (a : System D) (key : KeyName)
      → ((waiter : Waiter) × (rest : List Waiter) × LeavesOrder waiter (a.waiting key) rest × IsReady a key waiter)
      ⊎ ((waiter : Waiter) → Contains (a.waiting key) waiter → IsReady a key waiter → ⊥)
  ready_told a key =
      first_told (IsReady a key) (λ waiter. both_told (unsettled_told waiter.state) (grantable_told a waiter.ticket.session key waiter.ticket.mode)) (a.waiting key)

  shorter : {T : Type 0} (x : T) (old new : List T) → LeavesOrder x old new → suc (length new) ≡ length old
  shorter x old new leaves =
      let before = ap length leaves.2 ∙ length-append leaves.0 (x ∷ leaves.1) in
      let after = ap length leaves.3 ∙ length-append leaves.0 leaves.1 in
      omega arith

  -- where there is one, it is granted, and the rest follows; else there is nothing to do
  ends-from : (a : System D) (key : KeyName)
      → ((b : System D) → suc (length (b.waiting key)) ≡ length (a.waiting key) → Ends b key) → Ends a key
  ends-from a key next = elim (ready_told a key) [
    | inl found ↦
        (let b : System D = granting_to a key found.0 found.1 in
        let short : suc (length (b.waiting key)) ≡ length (a.waiting key) =
        ap (λ ws. suc (length ws)) (granting-rest a key found.0 found.1) ∙ shorter found.0 (a.waiting key) found.1 found.2 in
        ends-after a b key found.0 (granting-step a key found.0 found.1 found.2 found.3.0 found.3.1) (next b short))
    | inr none ↦ ends-at_once a key (λ waiter among unsettled grantable. none waiter among (unsettled, grantable))
  ]

  ends-within : (n : ℕ) (a : System D) (key : KeyName) → length (a.waiting key) ≤ n → Ends a key
  ends-within zero a key fits = ends-from a key (λ b short. absurd (omega arith))
  ends-within (suc n) a key fits = ends-from a key (λ b short. ends-within n b key (omega arith))

  pub ends : (a : System D) (key : KeyName) → Ends a key
  ends a key = ends-within (length (a.waiting key)) a key (omega arith)
