-- Keys, modes and tickets can be told apart.
use Rattle.std.proofs.Common.{◌≡◌, ◌≢◌, ◌⊎◌, ℕ, Bool, true, false, inl, inr, List, [], ◌∷◌, get_or, refl, sym, ap, ◌∙◌}
use Rattle.std.specs.Prelude.{Decides}
use Rattle.std.proofs.lemmas.Bool.Decides.{eqb_tells, Decides-eqb, Decides-and, Decides-like}
use Rattle.std.proofs.lemmas.Slice.Eq.{bytes_eq-Decides}
use Rattle.mdl_key.specs.declared.namespace.Namespace.{Namespace}
use Rattle.mdl_key.specs.declared.namespace.Namespace.TheVariants.{Global, Schema, Table, Commit, UserLevelLock}
use Rattle.mdl_key.specs.declared.mode.Mode.{Mode}
use Rattle.mdl_key.specs.declared.mode.Mode.TheVariants.{IX}
use Rattle.mdl_key.specs.Words.{KeyName, namespace_rank, key_eq, all_modes, mode_rank}
use Rattle.mdl_key.proofs.ModeLemmas.{at_rank}
use Rattle.mdl_system.specs.Systems.{Holding, GrantedWait}

pub told : {P : Type 0} → (r : Bool) → Decides r P → P ⊎ (P → ⊥)
told true d = inl (d.0 refl)
told false d = inr (λ p. let e = d.1 p in cc)

pub nat_told : (m n : ℕ) → (m ≡ n) ⊎ (m ≢ n)
nat_told m n = elim (eqb_tells m n) [ inl e ↦ inl (e.1) | inr e ↦ inr (e.1) ]

bytes_told : (xs ys : List ℕ) → (xs ≡ ys) ⊎ (xs ≢ ys)
bytes_told xs ys = told _ (bytes_eq-Decides xs ys)

pub both_told : {P Q : Type 0} → P ⊎ (P → ⊥) → Q ⊎ (Q → ⊥) → (P × Q) ⊎ (P × Q → ⊥)
both_told (inl p) (inl q) = inl (p, q)
both_told (inl p) (inr q) = inr (λ both. q both.1)
both_told (inr p) q = inr (λ both. p both.0)

like_told : {P Q : Type 0} → (P → Q) → (Q → P) → P ⊎ (P → ⊥) → Q ⊎ (Q → ⊥)
like_told there back (inl p) = inl (there p)
like_told there back (inr p) = inr (λ q. p (back q))

-- ---- namespaces and modes, by their ranks

namespace_at : ℕ → Namespace
namespace_at n = get_or (Global ∷ Schema ∷ Table ∷ Commit ∷ UserLevelLock ∷ []) n Global

namespace_back : (n : Namespace) → namespace_at (namespace_rank n) ≡ n
unfolding namespace_at
namespace_back Global = refl
namespace_back Schema = refl
namespace_back Table = refl
namespace_back Commit = refl
namespace_back UserLevelLock = refl

namespace_told : (m n : Namespace) → (m ≡ n) ⊎ (m ≢ n)
namespace_told m n =
    like_told (λ e. sym (namespace_back m) ∙ ap namespace_at e ∙ namespace_back n) (λ e. ap namespace_rank e)
    (nat_told (namespace_rank m) (namespace_rank n))

mode_told : (m n : Mode) → (m ≡ n) ⊎ (m ≢ n)
mode_told m n =
    like_told (λ e. sym (at_rank m) ∙ ap (λ r. get_or all_modes r IX) e ∙ at_rank n) (λ e. ap mode_rank e)
    (nat_told (mode_rank m) (mode_rank n))

-- ---- keys and tickets, field by field

pub key_told : (j k : KeyName) → (j ≡ k) ⊎ (j ≢ k)
key_told j k =
    like_told (λ e i. record { namespace = e.0 i; schema = e.1.0 i; table = e.1.1 i })
    (λ e. (ap (λ (x : KeyName). x.namespace) e, (ap (λ (x : KeyName). x.schema) e, ap (λ (x : KeyName). x.table) e)))
    (both_told (namespace_told j.namespace k.namespace) (both_told (bytes_told j.schema k.schema) (bytes_told j.table k.table)))

pub ticket_told : (t u : Holding) → (t ≡ u) ⊎ (t ≢ u)
ticket_told t u =
    like_told (λ e i. record { session = e.0.0 i; number = e.0.1 i; key = e.1.0 i; mode = e.1.1 i })
    (λ e. ((ap (λ (x : Holding). x.session) e, ap (λ (x : Holding). x.number) e), (ap (λ (x : Holding). x.key) e, ap (λ (x : Holding). x.mode) e)))
    (both_told (both_told (nat_told t.session u.session) (nat_told t.number u.number)) (both_told (key_told t.key u.key) (mode_told t.mode u.mode)))

pub wait_told : (v w : GrantedWait) → (v ≡ w) ⊎ (v ≢ w)
wait_told v w =
    like_told (λ e i. record { session = e.0.0 i; wait = e.0.1 i; ticket = e.1 i })
    (λ e. ((ap (λ (x : GrantedWait). x.session) e, ap (λ (x : GrantedWait). x.wait) e), ap (λ (x : GrantedWait). x.ticket) e))
    (both_told (both_told (nat_told v.session w.session) (nat_told v.wait w.wait)) (nat_told v.ticket w.ticket))

-- keys are equal exactly where the test says so
pub key-Decides : (j k : KeyName) → Decides (key_eq j k) (j ≡ k)
key-Decides j k =
    Decides-like _ (λ e i. record { namespace = e.0 i; schema = e.1.0 i; table = e.1.1 i })
    (λ e. (ap (λ (x : KeyName). x.namespace) e, (ap (λ (x : KeyName). x.schema) e, ap (λ (x : KeyName). x.table) e)))
    (Decides-and _ _
    (Decides-like _ (λ e. sym (namespace_back j.namespace) ∙ ap namespace_at e ∙ namespace_back k.namespace) (λ e. ap namespace_rank e)
    (Decides-eqb (namespace_rank j.namespace) (namespace_rank k.namespace)))
    (Decides-and _ _ (bytes_eq-Decides j.schema k.schema) (bytes_eq-Decides j.table k.table)))
