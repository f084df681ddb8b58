-- Locks of a list, one after the other.
use Rattle.std.proofs.Common.{◌≡◌, ℕ, Bool, true, false, List, [], ◌∷◌, ◌++◌, drop, suc, length, Some, None, refl, sym, ap, ◌∙◌, subst, arith, if◌then◌else◌}
use mathlib.Core.Path.{fun_ext}
use Rattle.std.specs.Prelude.{slice_get, nat_lt, map}
use Rattle.std.proofs.Math.ListN.{drop_of_length-le}
use Rattle.std.proofs.lemmas.Bool.Decides.{nat_tests}
use Rattle.std.proofs.lemmas.List.{append_assoc, append-nil, length-append}
use Rattle.std.proofs.lemmas.Option.{slice_get_within}
use Rattle.mdl_key.specs.declared.mode.Mode.{Mode}
use Rattle.mdl_key.specs.declared.mode.Duration.{Duration}
use Rattle.mdl_key.specs.declared.namespace.Namespace.{Namespace}
use Rattle.mdl_key.specs.declared.namespace.Namespace.TheVariants as of
use Rattle.mdl_key.specs.Keys.{KeyName}
use Rattle.mdl_calls.specs.declared.lock_space.LockSpace.{Ghosts}
use Rattle.mdl_context.specs.Wishes.{Wish}
use Rattle.mdl_rows.specs.declared.ending.Ending.{Ending}
use Rattle.mdl_stmt.specs.declared.got.LockResult.TheVariants.{Had}
use Rattle.mdl_stmt.specs.declared.got.LockResult.TheVariants as got
use Rattle.mdl_stmt.specs.declared.got.Listed.TheVariants as listed
use Rattle.mdl_rows.specs.declared.reply.Reply.{Reply}
use Rattle.mdl_stmt.specs.declared.lock_list.Locking.{Locking}
use Rattle.mdl_stmt.specs.declared.lock_list.Locking.TheVariants.{Ddl, Tables}
use Rattle.mdl_stmt.specs.Gets.{Comes, IsGot, IsListedBy}
use Rattle.mdl_stmt.specs.LockLists.{LockList, with_next_ticket}
use Rattle.mdl_rows.specs.Playing.{play}
use Rattle.mdl_rows.specs.Rows.{Row, Give, Acquire, acquire_all, ◌>>=◌}
use Rattle.mdl_stmt.specs.Players.{PlayerView}
use Rattle.mdl_stmt.specs.Stages.{lock_rest_by, wish_by}
use Rattle.mdl_rows.specs.Statements.{ddl_lock, table_lock}
use Rattle.mdl_stmt.proofs.CallLemmas.{comes-row}
use Rattle.mdl_stmt.proofs.OrderLemmas.{from-element, slice-past}
use Rattle.mdl_stmt.proofs.RowLemmas.{bind-assoc}
use Rattle.mdl_stmt.proofs.RunLemmas.{comes-then, comes-waits}

-- what DDL asks for in a key
pub ddl-key : (key : KeyName) → (ddl_lock key).key ≡ key
ddl-key key = in-namespace key.namespace key.schema key.table where
  in-namespace : (n : Namespace) (s t : List ℕ) → (ddl_lock (record { namespace = n; schema = s; table = t })).key ≡ record { namespace = n; schema = s; table = t }
  in-namespace of.Global s t = refl
  in-namespace of.Schema s t = refl
  in-namespace of.Table s t = refl
  in-namespace of.Commit s t = refl
  in-namespace of.UserLevelLock s t = refl

ddl-so : (key : KeyName) (mode : Mode) (duration : Duration) → mode ≡ (ddl_lock key).mode → duration ≡ (ddl_lock key).duration →
    record { key = key; mode = mode; duration = duration } ≡ ddl_lock key
ddl-so key mode duration e f =
    ap (λ k. record { key = k; mode = mode; duration = duration }) (sym (ddl-key key))
    ∙ ap (λ m. record { key = (ddl_lock key).key; mode = m; duration = duration }) e
    ∙ ap (λ d. record { key = (ddl_lock key).key; mode = (ddl_lock key).mode; duration = d }) f

-- what a list's locks are asked for
pub wish-so : (locking : Locking) (key : KeyName) (mode : Mode) (duration : Duration) → mode ≡ (wish_by locking key).mode → duration ≡ (wish_by locking key).duration →
    record { key = key; mode = mode; duration = duration } ≡ wish_by locking key
wish-so Ddl key mode duration e f = ddl-so key mode duration e f
wish-so (Tables locks) key mode duration e f =
    ap (λ m. record { key = key; mode = m; duration = duration }) e ∙ ap (λ d. record { key = key; mode = (table_lock locks.now key).mode; duration = d }) f

-- its keys stay
pub keys-stay : (ticket : ℕ) (locks : LockList) → (with_next_ticket ticket locks).keys ≡ locks.keys
keys-stay ticket locks = by (nat_lt (length locks.tickets) (length locks.keys)) where
  by : (left : Bool) → (if left then record locks { tickets = locks.tickets ++ ticket ∷ [] } else locks).keys ≡ locks.keys
  by true = refl
  by false = refl

-- the ticket of the next lock is among the tickets
pub lock-had : (wish : KeyName → Wish) (locks : LockList) (ticket : ℕ) (rest : List ℕ → Row Reply) → nat_lt (length locks.tickets) (length locks.keys) ≡ true →
    lock_rest_by wish (with_next_ticket ticket locks) rest
    ≡ acquire_all (map wish (drop (suc (length locks.tickets)) locks.keys)) >>= (λ more. rest (locks.tickets ++ ticket ∷ more))
lock-had wish locks ticket rest e =
    let longer : LockList = record locks { tickets = locks.tickets ++ ticket ∷ [] } in
    let len : length (locks.tickets ++ ticket ∷ []) ≡ suc (length locks.tickets) = length-append locks.tickets (ticket ∷ []) ∙ grind (arith) in
    ap (λ (t : Bool). lock_rest_by wish (if t then longer else locks) rest) e
    ∙ ap (λ n. acquire_all (map wish (drop n locks.keys)) >>= (λ more. rest ((locks.tickets ++ ticket ∷ []) ++ more))) len
    ∙ ap (λ (f : List ℕ → Row Reply). acquire_all (map wish (drop (suc (length locks.tickets)) locks.keys)) >>= f)
    (fun_ext (λ more. ap rest (append_assoc locks.tickets (ticket ∷ []) more)))

-- the next lock
pub lock-next : (wish : KeyName → Wish) (locks : LockList) (key : KeyName) (rest : List ℕ → Row Reply) → slice_get locks.keys (length locks.tickets) ≡ Some key →
    lock_rest_by wish locks rest ≡ Acquire (wish key) (λ ticket. lock_rest_by wish (with_next_ticket ticket locks) rest)
lock-next wish locks key rest e =
    let within = slice_get_within locks.keys (length locks.tickets) key e in
    let left : nat_lt (length locks.tickets) (length locks.keys) ≡ true = grind (arith, nat_tests) in
    let behind : List KeyName = drop (suc (length locks.tickets)) locks.keys in
    ap (λ (keys : List KeyName). acquire_all (map wish keys) >>= (λ more. rest (locks.tickets ++ more))) (from-element locks.keys (length locks.tickets) key e)
    ∙ ap (Acquire (wish key)) (fun_ext (λ ticket.
    bind-assoc (acquire_all (map wish behind)) (λ tickets. Give (ticket ∷ tickets)) (λ more. rest (locks.tickets ++ more)) ∙ sym (lock-had wish locks ticket rest left)))

-- no lock is left
pub lock-over : (wish : KeyName → Wish) (locks : LockList) (rest : List ℕ → Row Reply) → slice_get locks.keys (length locks.tickets) ≡ None → lock_rest_by wish locks rest ≡ rest locks.tickets
lock-over wish locks rest e =
    ap (λ (keys : List KeyName). acquire_all (map wish keys) >>= (λ more. rest (locks.tickets ++ more))) (drop_of_length-le locks.keys (slice-past locks.keys (length locks.tickets) e))
    ∙ ap rest (append-nil locks.tickets)

module _ {S : Type 0} (members : Ghosts S) (wish : KeyName → Wish) (first : LockList) (a : S) (x : PlayerView) where
  -- some were had
  abbrev pub HadSo : LockList → S → PlayerView → Type 0
  HadSo locks b y = (rest : List ℕ → Row Reply) → Comes members a x (play (lock_rest_by wish first rest)) b y (play (lock_rest_by wish locks rest))

  -- the next one is asked for
  pub list-next : (locks : LockList) (key : KeyName) (b : S) (y : PlayerView) → slice_get locks.keys (length locks.tickets) ≡ Some key → HadSo locks b y → (rest : List ℕ → Row Reply) →
      Comes members a x (play (lock_rest_by wish first rest)) b y (play (Acquire (wish key) (λ ticket. lock_rest_by wish (with_next_ticket ticket locks) rest)))
  list-next locks key b y e so rest = comes-then (so rest) (comes-row _ _ (lock-next wish locks key rest e))

  -- it is had
  pub list-had : (locks all : LockList) (key : KeyName) (made_by : Wish) (ticket : ℕ) (b c : S) (y z : PlayerView) → slice_get locks.keys (length locks.tickets) ≡ Some key → made_by ≡ wish key →
      all ≡ with_next_ticket ticket locks → HadSo locks b y → IsGot members made_by b y (Had ticket) c z → HadSo all c z
  list-had locks all key made_by ticket b c y z e same more so made = subst (λ l. HadSo l c z) (sym more)
      (λ rest. comes-then (list-next locks key b y e so rest) (subst (λ w. IsGot members w b y (Had ticket) c z) same made (λ ticket. lock_rest_by wish (with_next_ticket ticket locks) rest)))

  -- it is waited for
  pub list-waits : (locks : LockList) (key told : KeyName) (made_by : Wish) (b c : S) (y z : PlayerView) → slice_get locks.keys (length locks.tickets) ≡ Some key → made_by ≡ wish key →
      HadSo locks b y → IsGot members made_by b y (got.Waits told) c z → IsListedBy members wish first a x (listed.Waits told made_by.mode locks) c z
  list-waits locks key told made_by b c y z e same so made = subst (λ (w : Wish). IsListedBy members wish first a x (listed.Waits told w.mode locks) c z) (sym same)
      (λ rest. comes-waits (list-next locks key b y e so rest) (subst (λ w. IsGot members w b y (got.Waits told) c z) same made (λ ticket. lock_rest_by wish (with_next_ticket ticket locks) rest)))

  -- it ends the statement
  pub list-ends : (locks : LockList) (key : KeyName) (made_by : Wish) (ending : Ending) (b c : S) (y z : PlayerView) → slice_get locks.keys (length locks.tickets) ≡ Some key → made_by ≡ wish key →
      HadSo locks b y → IsGot members made_by b y (got.Ends ending) c z → IsListedBy members wish first a x (listed.Ends ending) c z
  list-ends locks key made_by ending b c y z e same so made = λ rest.
      comes-then (list-next locks key b y e so rest) (subst (λ w. IsGot members w b y (got.Ends ending) c z) same made (λ ticket. lock_rest_by wish (with_next_ticket ticket locks) rest))

  -- all are had
  pub list-over : (locks : LockList) (b : S) (y : PlayerView) → slice_get locks.keys (length locks.tickets) ≡ None → HadSo locks b y → IsListedBy members wish first a x (listed.Had locks) b y
  list-over locks b y e so = λ rest. comes-then (so rest) (comes-row _ _ (lock-over wish locks rest e))
