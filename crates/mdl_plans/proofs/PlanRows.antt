-- The parts that plans have in common, as rows.
use Rattle.std.proofs.Common.{◌≡◌, ◌∙◌, ℕ, Bool, true, false, List, [], ◌∷◌, ◌++◌, map, None, refl, sym, ap, if◌then◌else◌, append_assoc}
use Rattle.std.proofs.lemmas.List.{append-nil}
use mathlib.Core.Path.{fun_ext}
use Rattle.mdl_key.specs.declared.mode.Mode.TheVariants.{IX}
use Rattle.mdl_key.specs.declared.mode.Duration.TheVariants as for
use Rattle.mdl_key.specs.Keys.{KeyName, commit_key}
use Rattle.mdl_syntax.specs.declared.statement.Statement.{Statement}
use Rattle.mdl_system.proofs.Deciding.{key-Decides}
use Rattle.mdl_context.specs.Wishes.{Wish}
use Rattle.mdl_rows.specs.declared.error_number.ErrorNumber.TheVariants.{TableLockedForRead}
use Rattle.mdl_rows.specs.declared.reply.Reply.{Reply}
use Rattle.mdl_rows.specs.declared.reply.Reply.TheVariants as reply
use Rattle.mdl_rows.specs.declared.state.Locked.{Locked}
use Rattle.mdl_rows.specs.KeyOrder.{locked_ticket}
use Rattle.mdl_rows.specs.Rows.{Row, Give, Look, Set, Acquire, ◌>>=◌, ◌>>◌, acquire_all, check, for_each, nothing}
use Rattle.mdl_rows.specs.States.{after_write}
use Rattle.mdl_rows.specs.Statements.{commit, commit_writes, ddl_first, end_transaction, end_under, exists, held_lock, no_locked_tables, no_read_lock, stands, wrote}
use Rattle.mdl_plans.specs.declared.step.Step.{Step}
use Rattle.mdl_plans.specs.declared.step.Step.TheVariants as step
use Rattle.mdl_plans.specs.Registers.{Registers, fresh}
use Rattle.mdl_plans.specs.Steps.{commit_under, lock_each, meaning, table_of}
use Rattle.mdl_plans.proofs.RowLemmas.{act-then, bind-assoc, then-same}

-- ---- commits

-- ends an open transaction
pub commit-same : (at : Statement) (steps : List Step) (next : Row Reply) → meaning at steps fresh ≡ next →
    meaning at (step.Commit ∷ steps) fresh ≡ commit >> next
commit-same at steps next same = ap Look (fun_ext (λ state. by state.is_open state.has_written)) where
  by : (is_open has_written : Bool) →
      (if is_open then (if has_written then commit_under fresh else end_transaction >> Give fresh) else Give fresh) >>= meaning at steps
      ≡ (if is_open then (if has_written then commit_writes else end_transaction) else nothing) >> next
  by true true =
      ap (Acquire (record { key = commit_key; mode = IX; duration = for.Explicit })) (fun_ext (λ lock. act-then (end_under lock) fresh (meaning at steps) next same))
  by true false = act-then end_transaction fresh (meaning at steps) next same
  by false has_written = same

-- registers without a granted ticket, and with this reply
abbrev pub idle : Registers → Registers
idle r = record r { reply = reply.Ok; granted = None }

-- notes a write, or commits it
pub wrote-same : (at : Statement) (r : Registers) → meaning at (step.Wrote ∷ []) (idle r) ≡ wrote
wrote-same at r = ap Look (fun_ext (λ state. by state.is_open)) where
  by : (is_open : Bool) → (if is_open then Set after_write (Give (idle r)) else commit_under (idle r)) >>= meaning at []
      ≡ (if is_open then Set after_write nothing else commit_writes) >> Give reply.Ok
  by true = refl
  by false =
      ap (Acquire (record { key = commit_key; mode = IX; duration = for.Explicit }))
      (fun_ext (λ lock. act-then (end_under lock) (idle r) (meaning at []) (Give reply.Ok) refl))

-- ---- how statements begin

-- a statement that is refused under the global read lock
pub read_lock-same : (at : Statement) (steps : List Step) (next : Row Reply) → meaning at steps fresh ≡ next →
    meaning at (step.NoReadLock ∷ steps) fresh ≡ no_read_lock >> next
read_lock-same at steps next same = act-then no_read_lock fresh (meaning at steps) next same

-- DDL
pub ddl-same : (at : Statement) (steps : List Step) (next : Row Reply) → meaning at steps fresh ≡ next →
    meaning at (step.NoReadLock ∷ step.NoLockedTables ∷ step.Commit ∷ steps) fresh ≡ ddl_first next
ddl-same at steps next same =
    act-then no_read_lock fresh (meaning at (step.NoLockedTables ∷ step.Commit ∷ steps)) (no_locked_tables >> (commit >> next))
    (act-then no_locked_tables fresh (meaning at (step.Commit ∷ steps)) (commit >> next) (commit-same at steps next same))
    ∙ sym (bind-assoc no_read_lock (λ _. no_locked_tables >> commit) (λ _. next)
    ∙ then-same no_read_lock (λ _. (no_locked_tables >> commit) >> next) (λ _. no_locked_tables >> (commit >> next))
    (λ _. bind-assoc no_locked_tables (λ _. commit) (λ _. next)))

-- a statement of a table that LOCK TABLES locked for writing
pub held-same : (at : Statement) (steps : List Step) (next : Row Reply) → meaning at steps fresh ≡ next →
    meaning at (step.HeldForWrite ∷ steps) fresh ≡ held_lock (table_of at) >>= (λ (locked : Locked). check locked.may_write TableLockedForRead >> next)
held-same at steps next same =
    bind-assoc (held_lock (table_of at)) (λ (locked : Locked). check locked.may_write TableLockedForRead >> Give fresh) (meaning at steps)
    ∙ then-same (held_lock (table_of at)) (λ (locked : Locked). (check locked.may_write TableLockedForRead >> Give fresh) >>= meaning at steps)
    (λ (locked : Locked). check locked.may_write TableLockedForRead >> next)
    (λ (locked : Locked). act-then (check locked.may_write TableLockedForRead) fresh (meaning at steps) next same)

-- ---- lists of locks

-- with these tickets of the keys named last
abbrev pub with_tickets : List ℕ → Registers → Registers
with_tickets tickets r = record r { tickets = tickets; granted = None }

-- locks that are kept in registers, and locks in a list
locks-from : (request : KeyName → Wish) (keys : List KeyName) (r : Registers) (had : List ℕ) (rest : Registers → Row Reply) →
    lock_each request keys (with_tickets had r) >>= rest ≡ acquire_all (map request keys) >>= (λ tickets. rest (with_tickets (had ++ tickets) r))
locks-from request [] r had rest = ap (λ (tickets : List ℕ). rest (with_tickets tickets r)) (sym (append-nil had))
locks-from request (key ∷ keys) r had rest = ap (Acquire (request key)) (fun_ext (λ ticket.
    locks-from request keys r (had ++ ticket ∷ []) rest
    ∙ then-same (acquire_all (map request keys)) (λ tickets. rest (with_tickets ((had ++ ticket ∷ []) ++ tickets) r)) (λ tickets. rest (with_tickets (had ++ ticket ∷ tickets) r))
    (λ tickets. ap (λ (all : List ℕ). rest (with_tickets all r)) (append_assoc had (ticket ∷ []) tickets))
    ∙ sym (bind-assoc (acquire_all (map request keys)) (λ tickets. Give (ticket ∷ tickets)) (λ tickets. rest (with_tickets (had ++ tickets) r)))))

-- the locks of named keys
pub locks-same : (request : KeyName → Wish) (keys : List KeyName) (r : Registers) (rest : Registers → Row Reply) (next : List ℕ → Row Reply) →
    ((tickets : List ℕ) → rest (with_tickets tickets r) ≡ next tickets) →
    lock_each request keys (with_tickets [] r) >>= rest ≡ acquire_all (map request keys) >>= next
locks-same request keys r rest next same =
    locks-from request keys r [] rest ∙ then-same (acquire_all (map request keys)) (λ tickets. rest (with_tickets tickets r)) next same

-- ---- tickets

-- the ticket of the only key
pub only-ticket : (key : KeyName) (ticket : ℕ) → locked_ticket key (key ∷ []) (ticket ∷ []) ≡ ticket
only-ticket key ticket = rw ((key-Decides key key).1 refl) refl

-- one table exists
pub exist-same : (ticket : ℕ) (r : Registers) (rest : Registers → Row Reply) (next : Row Reply) → rest r ≡ next →
    (for_each stands (ticket ∷ []) >> Give r) >>= rest ≡ exists ticket >> next
exist-same ticket r rest next same =
    act-then (for_each stands (ticket ∷ [])) r rest next same
    ∙ bind-assoc (stands ticket) (λ _. nothing) (λ _. next)
    ∙ bind-assoc (exists ticket) (λ _. nothing) (λ _. next)
