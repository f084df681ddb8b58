-- What is so of a session while a statement of it is played: its locks are held, and what it has read under them stands.
use Rattle.std.proofs.Common.{◌≡◌, ◌≢◌, ◌⊎◌, inl, inr, ℕ, zero, suc, Bool, true, false, not, List, [], ◌∷◌, ◌++◌, Contains, filter, drop, length, refl, sym, ap, ◌∙◌, subst}
use Rattle.std.specs.Prelude.{◌==◌}
use Rattle.std.proofs.lemmas.List.Elements.{Contains-append_cases, filter-append}
use Rattle.mdl_key.specs.declared.mode.Duration.{Duration}
use Rattle.mdl_key.specs.declared.mode.Duration.TheVariants.{Statement, Transaction, Explicit}
use Rattle.mdl_key.specs.Keys.{KeyName}
use Rattle.mdl_defs.specs.declared.versioned_definition.VersionedDefinition.{VersionedDefinition}
use Rattle.mdl_system.proofs.MemberLemmas.{Contains-none}
use Rattle.mdl_system.proofs.OrderLemmas.{Contains-later}
use Rattle.mdl_calls.specs.declared.answers.Held.{Held}
use Rattle.mdl_core.specs.CoreJoins.{Knows, locks_at}
use Rattle.mdl_core.specs.Cores.{Core, key_at, standing_at}
use Rattle.mdl_context.specs.declared.kept.Kept.{Kept}
use Rattle.mdl_context.specs.declared.request.Mark.{Mark}
use Rattle.mdl_context.specs.Contexts.{ContextView, beyond, current_mark, duration_rank, has_number, lasts, tickets_for, without_tickets}
use Rattle.mdl_rows.specs.declared.reply.TableShown.{TableShown}
use Rattle.mdl_rows.specs.Statements.{is_defined, table_columns}
use Rattle.mdl_script_laws.proofs.ListLemmas.{among-filter, only-one}
use Rattle.mdl_script_laws.proofs.ShownCalls.{Leaves, knows-held, none}
use Rattle.mdl_script_laws.proofs.ShownContexts.{Followed, Grown}
use Rattle.mdl_script_laws.proofs.ShownWaits.{GaveUp, IsAmong, IsReleased}

-- ---- lists

pub drop-within : {X : Type 0} (m : ℕ) (xs : List X) (x : X) → Contains (drop m xs) x → Contains xs x
drop-within zero xs x among = among
drop-within (suc m) [] x among = among
drop-within (suc m) (y ∷ ys) x among = Contains-later y ys x (drop-within m ys x among)

drop-among : {X : Type 0} (m : ℕ) (xs ys : List X) (x : X) → Contains (drop m (xs ++ ys)) x → Contains (drop m xs) x ⊎ Contains ys x
drop-among zero xs ys x among = Contains-append_cases xs ys x among
drop-among (suc m) [] ys x among = inr (drop-within (suc m) ys x among)
drop-among (suc m) (z ∷ zs) ys x among = drop-among m zs ys x among

drop-filter : {X : Type 0} (m : ℕ) (p : X → Bool) (xs : List X) (y x : X) → Contains (drop m (filter p (xs ++ y ∷ []))) x
    → Contains (drop m (filter p xs)) x ⊎ (x ≡ y)
drop-filter m p xs y x among =
    elim (drop-among m (filter p xs) (filter p (y ∷ [])) x (subst (λ zs. Contains (drop m zs) x) (filter-append p xs (y ∷ [])) among)) [
      | inl before ↦ inl before
      | inr last ↦ inr (only-one y x (among-filter p (y ∷ []) x last).0)
    ]

-- nothing is beyond where the session stands
drop-all : {X : Type 0} (xs : List X) (x : X) → Contains (drop (length xs) xs) x → ⊥
drop-all [] x among = Contains-none x among
drop-all (y ∷ ys) x among = drop-all ys x among

-- ---- tickets that stay

-- no ticket of this number is kept for the statement alone
abbrev pub IsFirm : List Kept → ℕ → Type 0
IsFirm kept id = (k : Kept) → Contains kept k → k.id ≡ id → lasts Statement k ≡ false

-- none is among those of the transaction that were gained since the mark
abbrev pub IsOld : Mark → List Kept → ℕ → Type 0
IsOld mark kept id = (k : Kept) → Contains (beyond Transaction mark.transaction kept) k → k.id ≡ id → ⊥

pub old-now : (kept : List Kept) (id : ℕ) → IsOld (current_mark kept) kept id
old-now kept id k among e = drop-all (tickets_for Transaction kept) k among

pub lasts-longer : (k : Kept) → lasts Transaction k ≡ true → lasts Statement k ≡ false
lasts-longer k e = go k.duration e
  where
    go : (d : Duration) → (duration_rank d == duration_rank Transaction) ≡ true → (duration_rank d == duration_rank Statement) ≡ false
    go Statement f = cc
    go Transaction f = refl
    go Explicit f = refl

firm-grown : (a : Core) (who : ℕ) (before after : List Kept) (t : Held) → Grown a who before after → Contains (locks_at a who).held t → IsFirm before t.id
    → IsFirm after t.id
firm-grown a who before after t (inl same) there firm = subst (λ kept. IsFirm kept t.id) (sym same) firm
firm-grown a who before after t (inr (new, fresh, more)) there firm = λ k among e.
    elim (Contains-append_cases before (new ∷ []) k (subst (λ kept. Contains kept k) more among)) [
      | inl old ↦ firm k old e
      | inr late ↦ absurd (fresh t there (sym e ∙ ap (λ (x : Kept). x.id) (only-one new k late)))
    ]

old-grown : (mark : Mark) (a : Core) (who : ℕ) (before after : List Kept) (t : Held) → Grown a who before after → Contains (locks_at a who).held t
    → IsOld mark before t.id → IsOld mark after t.id
old-grown mark a who before after t (inl same) there old = subst (λ kept. IsOld mark kept t.id) (sym same) old
old-grown mark a who before after t (inr (new, fresh, more)) there old = λ k among e.
    elim (drop-filter mark.transaction (lasts Transaction) before new k (subst (λ kept. Contains (beyond Transaction mark.transaction kept) k) more among)) [
      | inl earlier ↦ old k earlier e
      | inr same ↦ fresh t there (sym e ∙ ap (λ (x : Kept). x.id) same)
    ]

firm-left : (gone kept : List Kept) (id : ℕ) → IsFirm kept id → IsFirm (without_tickets gone kept) id
firm-left gone kept id firm k among e = firm k (among-filter (λ ticket. not (has_number gone ticket.id)) kept k among).0 e

-- ---- what is held, and what was read

-- a table as it is shown where this stands under its key
abbrev pub shown_as : KeyName → VersionedDefinition → TableShown
shown_as key standing = record { key = key; version = standing.version; columns = table_columns standing.definition }

-- what a place shows
abbrev pub shown_at : ℕ → Core → TableShown
shown_at place core = shown_as (key_at place core) (standing_at place core)

-- a lock of a key is held by a ticket of this number, for longer than the statement
pub record IsLocked (a : Core) (context : ContextView) (id : ℕ) (key : KeyName) : Type 0 where
  pub ticket : Held
  pub there : Contains (locks_at a context.who).held ticket
  pub number : ticket.id ≡ id
  pub at : Knows a context.who ticket.place key
  pub firm : IsFirm context.kept ticket.id

-- a table is defined as it is shown, under a ticket that is held for longer than the statement
pub record IsStanding (a : Core) (context : ContextView) (x : TableShown) : Type 0 where
  pub ticket : Held
  pub there : Contains (locks_at a context.who).held ticket
  pub shown : shown_at ticket.place a ≡ x
  pub defined : is_defined (standing_at ticket.place a) ≡ true
  pub firm : IsFirm context.kept ticket.id

shown-left : (who : ℕ) (gone : ℕ → Type 0) (a b : Core) (t : Held) → Leaves who gone a b → Contains (locks_at a who).held t → (gone t.id → ⊥)
    → shown_at t.place b ≡ shown_at t.place a
shown-left who gone a b t leaves there stays =
    ap (λ k. shown_as k (standing_at t.place b)) (leaves.keys t there stays) ∙ ap (shown_as (key_at t.place a)) (leaves.stands t there stays)

module _ (a b : Core) (before after : ContextView) (followed : Followed a before b after) where
  still-there : (t : Held) → Contains (locks_at a before.who).held t → Contains (locks_at b after.who).held t
  still-there t there = subst (λ w. Contains (locks_at b w).held t) (sym followed.who) (followed.leaves.held t there (λ g. g))

  -- the session knows the key under it
  still-known : (t : Held) (key : KeyName) → Contains (locks_at a before.who).held t → Knows a before.who t.place key → Knows b before.who t.place key
  still-known t key there knows =
      subst (Knows b before.who t.place) (followed.leaves.keys t there (λ g. g) ∙ knows.1)
      (knows-held b before.who t followed.leaves.speaks (followed.leaves.held t there (λ g. g)))

  pub locked-followed : (id : ℕ) (key : KeyName) → IsLocked a before id key → IsLocked b after id key
  locked-followed id key locked = record {
    ticket = locked.ticket;
    there = still-there locked.ticket locked.there;
    number = locked.number;
    at = subst (λ w. Knows b w locked.ticket.place key) (sym followed.who) (still-known locked.ticket key locked.there locked.at);
    firm = firm-grown a before.who before.kept after.kept locked.ticket followed.grown locked.there locked.firm;
  }

  pub standing-followed : (x : TableShown) → IsStanding a before x → IsStanding b after x
  standing-followed x stands = record {
    ticket = stands.ticket;
    there = still-there stands.ticket stands.there;
    shown = shown-left before.who none a b stands.ticket followed.leaves stands.there (λ g. g) ∙ stands.shown;
    defined = ap is_defined (followed.leaves.stands stands.ticket stands.there (λ g. g)) ∙ stands.defined;
    firm = firm-grown a before.who before.kept after.kept stands.ticket followed.grown stands.there stands.firm;
  }

  pub old-followed : (mark : Mark) (x : TableShown) (stands : IsStanding a before x) → IsOld mark before.kept stands.ticket.id
      → (still : IsStanding b after x) × IsOld mark after.kept still.ticket.id
  unfolding standing-followed
  old-followed mark x stands old =
      (standing-followed x stands, old-grown mark a before.who before.kept after.kept stands.ticket followed.grown stands.there old)

-- it stands still where other tickets were given up
pub standing-left : (a b : Core) (gone : List Kept) (before after : ContextView) (x : TableShown) (stands : IsStanding a before x)
    → GaveUp a gone before b after → (IsAmong gone stands.ticket.id → ⊥) → IsStanding b after x
standing-left a b gone before after x stands gave stays =
    subst (λ context. IsStanding b context x) (sym gave.left) (record {
      ticket = stands.ticket;
      there = gave.leaves.held stands.ticket stands.there stays;
      shown = shown-left before.who (IsAmong gone) a b stands.ticket gave.leaves stands.there stays ∙ stands.shown;
      defined = ap is_defined (gave.leaves.stands stands.ticket stands.there stays) ∙ stands.defined;
      firm = firm-left gone before.kept stands.ticket.id stands.firm;
    })

-- and where another ticket was released
pub old-released : (a b : Core) (id : ℕ) (before after : ContextView) (mark : Mark) (x : TableShown) (stands : IsStanding a before x)
    → IsOld mark before.kept stands.ticket.id → IsReleased a id before b after → stands.ticket.id ≢ id
    → (still : IsStanding b after x) × IsOld mark after.kept still.ticket.id
old-released a b id before after mark x stands old released apart = (
  record {
    ticket = stands.ticket;
    there = subst (λ w. Contains (locks_at b w).held stands.ticket) (sym released.who) (released.leaves.held stands.ticket stands.there apart);
    shown = shown-left before.who (λ n. n ≡ id) a b stands.ticket released.leaves stands.there apart ∙ stands.shown;
    defined = ap is_defined (released.leaves.stands stands.ticket stands.there apart) ∙ stands.defined;
    firm = λ k among e. stands.firm k (released.fewer k among) e;
  },
  λ k among e. old k (released.late mark.transaction k among) e,
)
