-- How far a statement has come, and what its row may still ask for: what was shown in its transaction before stands, and what it has
-- seen, from one point to the next.
use Rattle.std.proofs.Common.{◌≡◌, ◌⊎◌, inl, inr, ℕ, Bool, true, false, List, [], ◌∷◌, ◌++◌, Option, Some, None, Contains, filter, map, refl, sym, subst}
use Rattle.std.specs.Prelude.{◌==◌, if◌then◌else◌}
use Rattle.std.proofs.lemmas.List.Elements.{Contains-append_cases}
use Rattle.mdl_key.specs.declared.mode.Duration.{Duration}
use Rattle.mdl_key.specs.declared.mode.Duration.TheVariants.{Statement, Transaction, Explicit}
use Rattle.mdl_key.specs.Keys.{KeyName}
use Rattle.mdl_defs.specs.declared.versioned_definition.VersionedDefinition.{VersionedDefinition}
use Rattle.mdl_system.proofs.MemberLemmas.{Contains-none}
use Rattle.mdl_system.proofs.OrderLemmas.{Contains-cons_cases}
use Rattle.mdl_core.specs.CoreJoins.{Knows}
use Rattle.mdl_core.specs.Cores.{Core}
use Rattle.mdl_context.specs.declared.kept.Wanted.{Wanted}
use Rattle.mdl_context.specs.declared.request.Mark.{Mark}
use Rattle.mdl_context.specs.Contexts.{ContextView, current_mark}
use Rattle.mdl_context.specs.Holdings.{awaited_upgrade}
use Rattle.mdl_rows.specs.declared.reply.Reply.{Reply}
use Rattle.mdl_rows.specs.declared.reply.Reply.TheVariants as reply
use Rattle.mdl_rows.specs.declared.reply.TableShown.{TableShown}
use Rattle.mdl_rows.specs.Endings.{Pause, Ends, Begins_to_wait, Waits_on, Faults}
use Rattle.mdl_rows.specs.Rows.{Row}
use Rattle.mdl_rows.specs.Rows as row
use Rattle.mdl_rows.specs.Sessions.{Left, Session}
use Rattle.mdl_rows.specs.States.{State}
use Rattle.mdl_rows.specs.Statements.{is_defined}
use Rattle.mdl_script_laws.proofs.ShownCalls.{Stays, none}
use Rattle.mdl_script_laws.proofs.RowRules.{IsUnlocked}
use Rattle.mdl_script_laws.proofs.ShownContexts.{Fits, Followed, followed-same}
use Rattle.mdl_script_laws.proofs.ShownRaising.{IsUpgrading}
use Rattle.mdl_script_laws.proofs.ShownPoints.{IsLocked, IsOld, IsStanding, locked-followed, old-followed, old-now, shown_as, standing-followed}

-- ---- what a row may ask for

-- the locks that are had, with one more that lasts for the transaction
abbrev pub with_lock : Duration → ℕ → KeyName → List (ℕ × KeyName) → List (ℕ × KeyName)
with_lock Transaction id key locks = (id, key) ∷ locks
with_lock _ id key locks = locks

-- what this shows under the keys of a lock
abbrev pub shown_under : ℕ → VersionedDefinition → List (ℕ × KeyName) → List TableShown
shown_under id standing locks = map (λ lock. shown_as lock.1 standing) (filter (λ lock. lock.0 == id) locks)

-- what was seen by reading this under a lock, where something is defined
abbrev pub seen_under : ℕ → VersionedDefinition → List (ℕ × KeyName) → List TableShown
seen_under id standing locks = if is_defined standing then shown_under id standing locks else []

pub seen-defined : (id : ℕ) (standing : VersionedDefinition) (locks : List (ℕ × KeyName)) (x : TableShown) → Contains (seen_under id standing locks) x
    → (is_defined standing ≡ true) × Contains (shown_under id standing locks) x
seen-defined id standing locks x among = by (is_defined standing) refl among
  where
    by : (there : Bool) → is_defined standing ≡ there → Contains (if there then shown_under id standing locks else []) x
        → (is_defined standing ≡ true) × Contains (shown_under id standing locks) x
    by true is among = (is, among)
    by false is among = absurd (Contains-none x among)

-- the tables that a reply shows
abbrev pub Tells : Reply → TableShown → Type 0
Tells (reply.Columns shown) x = Contains shown x
Tells _ x = ⊥

-- where the transaction was open as the statement began, a row shows what it has seen, and nothing else; and where something is to stay
-- that was shown before, in a transaction that was open as the statement began, it gives up nothing, changes nothing, and neither ends
-- the transaction nor opens one
abbrev pub IsFair : (TableShown → Type 0) → Bool → List (ℕ × KeyName) → List TableShown → Row Reply → Type 0
IsFair old live locks seen (row.Give reply) = live ≡ true → (x : TableShown) → Tells reply x → Contains seen x
IsFair old live locks seen (row.Fail number) = Unit {0}
IsFair old live locks seen (row.Room rest) = IsFair old live locks seen rest
IsFair old live locks seen (row.Look rest) =
    (state : State) → IsUnlocked state → ((x : TableShown) → old x → live ≡ true → state.is_open ≡ true) → IsFair old live locks seen (rest state)
IsFair old live locks seen (row.Set change rest) =
    ((state : State) → IsUnlocked state → IsUnlocked (change state))
    × ((state : State) → (state.is_open ≡ true → live ≡ true) → (change state).is_open ≡ true → live ≡ true)
    × ((x : TableShown) → old x → live ≡ true → (state : State) → state.is_open ≡ true → (change state).is_open ≡ true)
    × IsFair old live locks seen rest
IsFair old live locks seen (row.Here rest) = (mark : Mark) → IsFair old live locks seen (rest mark)
IsFair old live locks seen (row.Acquire wish rest) = (id : ℕ) → IsFair old live (with_lock wish.duration id wish.key locks) seen (rest id)
IsFair old live locks seen (row.Try_acquire wish rest) = (got : Option ℕ) → IsFair old live locks seen (rest got)
IsFair old live locks seen (row.Last key rest) = (held : Option ℕ) → IsFair old live locks seen (rest held)
IsFair old live locks seen (row.Upgrade id key mode rest) = ((x : TableShown) → old x → live ≡ true → ⊥) × ((id : ℕ) → IsFair old live [] [] (rest id))
IsFair old live locks seen (row.Downgrade id mode rest) = ((x : TableShown) → old x → live ≡ true → ⊥) × IsFair old live [] [] rest
IsFair old live locks seen (row.Give_up which rest) = ((x : TableShown) → old x → live ≡ true → ⊥) × IsFair old live [] [] rest
IsFair old live locks seen (row.Release id rest) = ((x : TableShown) → old x → live ≡ true → ⊥) × IsFair old live [] [] rest
IsFair old live locks seen (row.Keep rest) = ((x : TableShown) → old x → live ≡ true → ⊥) × IsFair old live [] [] rest
IsFair old live locks seen (row.Read id rest) = (standing : VersionedDefinition) → IsFair old live locks (seen_under id standing locks ++ seen) (rest standing)
IsFair old live locks seen (row.Redefine id change rest) = ((x : TableShown) → old x → live ≡ true → ⊥) × IsFair old live [] [] rest
IsFair old live locks seen (row.Tables_of schema rest) = (tables : List ℕ) → IsFair old live locks seen (rest tables)
IsFair old live locks seen (row.Key_of place rest) = (key : KeyName) → IsFair old live locks seen (rest key)
IsFair old live locks seen (row.Kill target rest) = IsFair old live locks seen rest

-- ---- where a statement is

-- while it is played that began at this mark
pub record Point (old : TableShown → Type 0) (live : Bool) (locks : List (ℕ × KeyName)) (seen : List TableShown) (mark : Mark) (a : Core)
    (context : ContextView) (state : State) : Type 0 where
  pub fits : Fits a context
  pub unlocked : IsUnlocked state
  pub was : state.is_open ≡ true → live ≡ true
  pub opens : (x : TableShown) → old x → live ≡ true → state.is_open ≡ true
  pub kept : (x : TableShown) → old x → live ≡ true → (stands : IsStanding a context x) × IsOld mark context.kept stands.ticket.id
  pub locked : (id : ℕ) (key : KeyName) → Contains locks (id, key) → IsLocked a context id key
  pub stands : (x : TableShown) → Contains seen x → IsStanding a context x

-- between statements: what was shown before stands, where the transaction is open
pub record Rests (old : TableShown → Type 0) (a : Core) (session : Session) : Type 0 where
  pub left : session.left ≡ None
  pub fits : Fits a session.context
  pub unlocked : IsUnlocked session.state
  pub kept : (x : TableShown) → old x → session.state.is_open ≡ true → IsStanding a session.context x

-- while it waits for a lock
pub record IsWaiting (old : TableShown → Type 0) (a : Core) (session : Session) : Type 0 where
  pub rest : Left
  pub left : session.left ≡ Some rest
  pub live : Bool
  pub locks : List (ℕ × KeyName)
  pub seen : List TableShown
  pub key : KeyName
  pub wanted : Wanted
  pub wait : session.context.wait ≡ Some wanted
  pub gains : awaited_upgrade (Some wanted) ≡ None
  pub at : Knows a session.context.who wanted.place key
  pub point : Point old live locks seen rest.mark a session.context session.state
  pub fair : (id : ℕ) → IsFair old live (with_lock wanted.duration id key locks) seen (rest.rest id)

-- while it waits to make a lock stronger, which it does only where nothing has to stay
pub record IsRaising (old : TableShown → Type 0) (a : Core) (session : Session) : Type 0 where
  pub rest : Left
  pub left : session.left ≡ Some rest
  pub live : Bool
  pub nothing : (x : TableShown) → old x → live ≡ true → ⊥
  pub upgrading : IsUpgrading session.context
  pub point : Point old live [] [] rest.mark a session.context session.state
  pub fair : (id : ℕ) → IsFair old live [] [] (rest.rest id)

-- in one way or the other
abbrev pub IsUnderway : (TableShown → Type 0) → Core → Session → Type 0
IsUnderway old a session = IsWaiting old a session ⊎ IsRaising old a session

-- a session of which this is so
abbrev pub Keeps : (TableShown → Type 0) → Core → Session → Type 0
Keeps old a session = Rests old a session ⊎ IsUnderway old a session

-- however far a statement comes, it is so of its session; and what it shows in an open transaction stands
abbrev pub Comes : (TableShown → Type 0) → Pause → Core → Type 0
Comes old (Ends reply session) b =
    Rests old b session × ((x : TableShown) → Tells reply x → session.state.is_open ≡ true → IsStanding b session.context x)
Comes old (Begins_to_wait key mode session) b = IsUnderway old b session
Comes old (Waits_on session) b = IsUnderway old b session
Comes old (Faults session) b = Rests old b session

-- ---- from one point to the next

module _ (old : TableShown → Type 0) (live : Bool) (locks : List (ℕ × KeyName)) (seen : List TableShown) (mark : Mark) (a : Core)
    (context : ContextView) (state : State)
    (point : Point old live locks seen mark a context state) where
  pub point-followed : (b : Core) (after : ContextView) → Followed a context b after → Point old live locks seen mark b after state
  point-followed b after followed = record {
    fits = followed.fits;
    unlocked = point.unlocked;
    was = point.was;
    opens = point.opens;
    kept = λ x is lives. (let h = point.kept x is lives in old-followed a b context after followed mark x h.0 h.1);
    locked = λ id key among. locked-followed a b context after followed id key (point.locked id key among);
    stands = λ x among. standing-followed a b context after followed x (point.stands x among);
  }

  pub point-same : (b : Core) → Stays context.who none a b → Point old live locks seen mark b context state
  point-same b stays = point-followed b context (followed-same a b context point.fits stays)

  -- tickets went, and nothing had to stay
  pub point-cleared : (b : Core) (after : ContextView) → Fits b after → ((x : TableShown) → old x → live ≡ true → ⊥) → Point old live [] [] mark b after state
  point-cleared b after fits nothing = record {
    fits = fits;
    unlocked = point.unlocked;
    was = point.was;
    opens = point.opens;
    kept = λ x is lives. absurd (nothing x is lives);
    locked = λ id key among. absurd (Contains-none (id, key) among);
    stands = λ x among. absurd (Contains-none x among);
  }

  -- one more lock is had
  pub point-locked : (duration : Duration) (id : ℕ) (key : KeyName) → (duration ≡ Transaction → IsLocked a context id key)
      → Point old live (with_lock duration id key locks) seen mark a context state
  point-locked duration id key had = record {
    fits = point.fits;
    unlocked = point.unlocked;
    was = point.was;
    opens = point.opens;
    kept = point.kept;
    locked = by duration had;
    stands = point.stands;
  }
    where
      by : (d : Duration) → (d ≡ Transaction → IsLocked a context id key) → (n : ℕ) (k : KeyName) → Contains (with_lock d id key locks) (n, k)
          → IsLocked a context n k
      by Statement had n k among = point.locked n k among
      by Explicit had n k among = point.locked n k among
      by Transaction had n k among = elim (Contains-cons_cases (id, key) locks (n, k) among) [
        | inl before ↦ point.locked n k before
        | inr same ↦ subst (λ (l : ℕ × KeyName). IsLocked a context l.0 l.1) (sym same) (had refl)
      ]

  -- more is seen
  pub point-seen : (more : List TableShown) → ((x : TableShown) → Contains more x → IsStanding a context x)
      → Point old live locks (more ++ seen) mark a context state
  point-seen more each = record {
    fits = point.fits;
    unlocked = point.unlocked;
    was = point.was;
    opens = point.opens;
    kept = point.kept;
    locked = point.locked;
    stands = λ x among. elim (Contains-append_cases more seen x among) [ inl new ↦ each x new | inr before ↦ point.stands x before ];
  }

  pub point-set : (change : State → State) → (IsUnlocked state → IsUnlocked (change state))
      → ((state.is_open ≡ true → live ≡ true) → (change state).is_open ≡ true → live ≡ true)
      → ((x : TableShown) → old x → live ≡ true → state.is_open ≡ true → (change state).is_open ≡ true)
      → Point old live locks seen mark a context (change state)
  point-set change unlocked was opens = record {
    fits = point.fits;
    unlocked = unlocked point.unlocked;
    was = was point.was;
    opens = λ x is lives. opens x is lives (point.opens x is lives);
    kept = point.kept;
    locked = point.locked;
    stands = point.stands;
  }

-- where a statement begins
pub point-resting : (old : TableShown → Type 0) (a : Core) (session : Session) → Rests old a session
    → Point old session.state.is_open [] [] (current_mark session.context.kept) a session.context session.state
point-resting old a session rests = record {
  fits = rests.fits;
  unlocked = rests.unlocked;
  was = λ e. e;
  opens = λ x is lives. lives;
  kept = λ x is lives. (let stands = rests.kept x is lives in (stands, old-now session.context.kept stands.ticket.id));
  locked = λ id key among. absurd (Contains-none (id, key) among);
  stands = λ x among. absurd (Contains-none x among);
}
