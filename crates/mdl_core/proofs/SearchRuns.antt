-- What searches come to: each finds the deadlock that there is, and one after another they leave none.
use Rattle.std.proofs.Common.{◌≡◌, ◌≢◌, ◌⊎◌, ℕ, zero, suc, ◌+◌, ◌-◌, ◌<◌, ◌≤◌, Bool, true, false, not, ◌&&◌, ◌==◌, cond, inl, inr, List, [], ◌∷◌, length, Option, Some, None, refl, sym, ap, subst, ◌∙◌, arith}
use Rattle.std.specs.Prelude.{slice_index_or, slice_set, is_some, if◌then◌else◌}
use Rattle.std.specs.Option.{option_map}
use Rattle.std.proofs.lemmas.Bool.{cases_order, false≢true}
use Rattle.std.proofs.lemmas.Bool.Decides.{eqb_tells}
use Rattle.mdl_key.specs.Keys.{KeyName}
use Rattle.mdl_graph.specs.declared.cycle.Member.{Member}
use Rattle.mdl_graph.specs.GraphLaws.{sessions_of}
use Rattle.mdl_graph.specs.Graphs.{deadlock_in}
use Rattle.mdl_graph.specs.Victims.{victim_of}
use Rattle.mdl_calls.specs.declared.answers.Settled.{Settled}
use Rattle.mdl_calls.specs.declared.answers.Settled.TheVariants as settled_as
use Rattle.mdl_core.specs.declared.pending.Pending.{Pending}
use Rattle.mdl_calls.specs.declared.space_error.SpaceError.{SpaceError}
use Rattle.mdl_calls.specs.declared.space_error.SpaceError.TheVariants.{OutOfMemory}
use Rattle.mdl_calls.specs.Words.{Answer, Refused, No_cycle, Victim_is, finds_no_memory, Search, Runs, Give, SearchEnd, Over, Cut_off, Failed, after_search, seeking}
use Rattle.mdl_core.specs.CoreCalls.{has_settled, searching_of, victim_at}
use Rattle.mdl_core.specs.CoreJoins.{Joins, SpeaksFor}
use Rattle.mdl_core.specs.CoreLaws.{CallsKeepSound}
use Rattle.mdl_core.specs.Cores.{Core, seat_at, has_session}
use Rattle.mdl_core.specs.CoreSystems.{system_of}
use Rattle.mdl_core.specs.SearchLaws.{SearchesFindDeadlocks, SearchesSuffice, SearchesLeaveNoDeadlock}
use Rattle.mdl_system.specs.Words.{Wishes, WaitsFor, IsDeadlock, IsChosenDeadlock, IsVictimOf, Waiter}
use Rattle.mdl_core.specs.Changes.{losing}
use Rattle.mdl_core.specs.Seats.{SeatView, empty_seat, is_unsettled_wait, with_settled_wait}
use Rattle.mdl_core.specs.Ties.{IsTied}
use Rattle.mdl_core.proofs.CoreReads.{within, has_session-seating, seated-same}
use Rattle.mdl_core.proofs.CoreWaiting.{wait-at}
use Rattle.mdl_core.proofs.DeadlockSystems.{none-found, some-found}
use Rattle.mdl_core.proofs.DeadlockWaits.{settled-of, wishes-place, wishes-there}

-- ---- one search

told-none : (o : Option ℕ) (a b : Core) → searching_of o a ≡ (No_cycle, b) → (o ≡ None) × (b ≡ a)
told-none None a b e = (refl, sym (ap (λ (x : Answer × Core). x.1) e))
told-none (Some victim) a b e = let clash : Victim_is victim ≡ No_cycle = ap (λ (x : Answer × Core). x.0) e in cc

told-some : (o : Option ℕ) (a b : Core) (victim : ℕ) → searching_of o a ≡ (Victim_is victim, b) → (o ≡ Some victim) × (b ≡ losing victim settled_as.Victim a)
told-some None a b victim e = let clash : No_cycle ≡ Victim_is victim = ap (λ (x : Answer × Core). x.0) e in cc
told-some (Some v) a b victim e =
    let is : Victim_is v ≡ Victim_is victim = ap (λ (x : Answer × Core). x.0) e in
    let same : v ≡ victim = cc in
    (ap Some same, sym (ap (λ (x : Answer × Core). x.1) e) ∙ ap (λ n. losing n settled_as.Victim a) same)

told-other : (o : Option ℕ) (a b : Core) (answer : Answer) → searching_of o a ≡ (answer, b) → (answer ≡ No_cycle) ⊎ ((victim : ℕ) × (answer ≡ Victim_is victim))
told-other None a b answer e = inl (sym (ap (λ (x : Answer × Core). x.0) e))
told-other (Some victim) a b answer e = inr (victim, sym (ap (λ (x : Answer × Core). x.0) e))

not_memory : (victim : ℕ) → Victim_is victim ≡ Refused OutOfMemory → ⊥
not_memory victim e = cc

none-memory : No_cycle ≡ Refused OutOfMemory → ⊥
none-memory e = cc

-- a search that names no victim
pub none-joined : (a b : Core) (who : ℕ) → Joins a (Search who) No_cycle b → (victim_at who a ≡ None) × (b ≡ a)
none-joined a b who (speaks, inl made) = absurd (none-memory made.1)
none-joined a b who (speaks, inr made) = told-none (victim_at who a) a b made

-- and one that does
some-joined : (a b : Core) (who victim : ℕ) → Joins a (Search who) (Victim_is victim) b
    → (victim_at who a ≡ Some victim) × (b ≡ losing victim settled_as.Victim a)
some-joined a b who victim (speaks, inl made) = absurd (not_memory victim made.1)
some-joined a b who victim (speaks, inr made) = told-some (victim_at who a) a b victim made

-- a search that finds no memory, or is one of these
pub which-joined : (a b : Core) (who : ℕ) (answer : Answer) → Joins a (Search who) answer b
    → (answer ≡ Refused OutOfMemory) ⊎ ((answer ≡ No_cycle) ⊎ ((victim : ℕ) × (answer ≡ Victim_is victim)))
which-joined a b who answer (speaks, inl made) = inl made.1
which-joined a b who answer (speaks, inr made) = inr (told-other (victim_at who a) a b answer made)

-- a search that finds memory is one of these
pub either-joined : (a b : Core) (who : ℕ) (answer : Answer) → Joins a (Search who) answer b → finds_no_memory answer ≡ false
    → (answer ≡ No_cycle) ⊎ ((victim : ℕ) × (answer ≡ Victim_is victim))
either-joined a b who answer (speaks, inl made) memory = absurd (false≢true (sym memory ∙ ap finds_no_memory made.1))
either-joined a b who answer (speaks, inr made) memory = told-other (victim_at who a) a b answer made

-- ---- what a search finds

victim-none : (o : Option (List Member)) → option_map victim_of o ≡ None → o ≡ None
victim-none None e = refl
victim-none (Some members) e = cc

victim-some : (o : Option (List Member)) (victim : ℕ) → option_map victim_of o ≡ Some victim → (members : List Member) × (o ≡ Some members) × (victim_of members ≡ victim)
victim-some None victim e = cc
victim-some (Some members) victim e = (members, refl, cc)

-- where no victim is found, the session is part of no deadlock
pub nothing-found : (core : Core) (who : ℕ) → IsTied core → victim_at who core ≡ None → (cycle : List ℕ) → IsDeadlock (system_of core) who cycle → ⊥
nothing-found core who tied none = none-found core tied who (victim-none (deadlock_in (has_settled core) core.books who) none)

-- and one that is found is that of the chosen deadlock
pub victim-found : (core : Core) (who victim : ℕ) → IsTied core → victim_at who core ≡ Some victim
    → (cycle : List ℕ) × IsChosenDeadlock (system_of core) who cycle × IsVictimOf (system_of core) cycle victim
victim-found core who victim tied is =
    let h = victim-some (deadlock_in (has_settled core) core.books who) victim is in
    let found = some-found core tied who h.0 h.1 in
    (sessions_of h.0, found.0, subst (IsVictimOf (system_of core) (sessions_of h.0)) h.2 found.1)

pub searches-find : SearchesFindDeadlocks
searches-find a b who = (
  (λ joins. nothing-found a who joins.0.1.tied (none-joined a b who joins).0),
  λ victim joins. victim-found a who victim joins.0.1.tied (some-joined a b who victim joins).0,
  either-joined a b who,
)

-- ---- a session that wishes has an unsettled wait

pub wishes-open : (core : Core) (session : ℕ) (key : KeyName) (wish : Waiter) → IsTied core → Wishes (system_of core) session key wish
    → (has_session session core ≡ true) × (is_unsettled_wait (seat_at session core).wait ≡ true)
wishes-open core session key wish tied wishes =
    let at = wishes-place core tied session key wish wishes in
    let there = wishes-there core tied at.0 session wish at.1 (subst (λ k. Wishes (system_of core) session k wish) (sym at.2) wishes) in
    let h = wait-at core at.0 wish.ticket tied at.1 there.0 in
    let still : is_some h.0.settled ≡ false = sym (settled-of core at.0 wish.ticket h.0 h.1) ∙ ap (has_settled core) there.1 ∙ there.2 in (
      ap (λ n. has_session n core) (sym there.1) ∙ h.1.has,
      ap (λ n. is_unsettled_wait (seat_at n core).wait) (sym there.1) ∙ ap is_unsettled_wait h.1.waits ∙ ap not still,
    )

pub victim-open : (core : Core) (who victim : ℕ) → IsTied core → victim_at who core ≡ Some victim
    → (has_session victim core ≡ true) × (is_unsettled_wait (seat_at victim core).wait ≡ true)
victim-open core who victim tied is =
    let h = victim-found core who victim tied is in
    let weighs = h.2.1.1 in
    wishes-open core victim weighs.0 weighs.1 tied weighs.2

settled-closed : (how : Settled) (seat : SeatView) → is_unsettled_wait (with_settled_wait how seat).wait ≡ false
settled-closed how seat = go seat.wait
  where
    go : (o : Option Pending) → is_unsettled_wait (option_map (λ (wait : Pending). record wait { settled = Some how }) o) ≡ false
    go None = refl
    go (Some wait) = refl

-- ---- the unsettled waits of all sessions but one

abbrev one_if : Bool → ℕ
one_if b = cond b 1 0

-- in the seats from a session on
abbrev open_others : ℕ → ℕ → List SeatView → ℕ
open_others who from [] = 0
open_others who from (seat ∷ seats) = one_if (not (from == who) && is_unsettled_wait seat.wait) + open_others who (from + 1) seats

one-fewer : (who from : ℕ) (seats : List SeatView) (k : ℕ) (seat : SeatView) → k < length seats → from + k ≢ who
    → is_unsettled_wait (slice_index_or seats k empty_seat).wait ≡ true → is_unsettled_wait seat.wait ≡ false
    → suc (open_others who from (slice_set seats k seat)) ≡ open_others who from seats
one-fewer who from [] k seat inside other was is = absurd (omega (arith, inside))
one-fewer who from (old ∷ seats) zero seat inside other was is = elim (eqb_tells from who) [
  | inl e ↦ absurd (let same : from ≡ who = e.1 in other (omega arith))
  | inr e ↦
      let now : one_if (not (from == who) && is_unsettled_wait seat.wait) ≡ 0 = λ i. one_if (not (e.0 i) && is i) in
      let before : one_if (not (from == who) && is_unsettled_wait old.wait) ≡ 1 = λ i. one_if (not (e.0 i) && was i) in
      omega (arith, now, before)
]
one-fewer who from (old ∷ seats) (suc k) seat inside other was is =
    let rest = one-fewer who (from + 1) seats k seat (omega (arith, inside)) (λ e. other (omega arith)) was is in
    omega (arith, rest)

bit-most : (b : Bool) → one_if b ≤ 1
bit-most true = omega arith
bit-most false = omega arith

above : (from who : ℕ) → from ≤ who → from ≢ who → from + 1 ≤ who
above from who least other = elim (cases_order from who) [
  | inl same ↦ absurd (other same)
  | inr apart ↦ elim apart [ inl less ↦ omega (arith, less) | inr more ↦ absurd (omega (arith, least, more)) ]
]

at-most : (who from : ℕ) (seats : List SeatView) → open_others who from seats ≤ length seats
at-most who from [] = omega arith
at-most who from (seat ∷ seats) =
    let rest = at-most who (from + 1) seats in
    let one : one_if (not (from == who) && is_unsettled_wait seat.wait) ≤ 1 = bit-most (not (from == who) && is_unsettled_wait seat.wait) in
    omega (arith, rest, one)

fewer : (who from : ℕ) (seats : List SeatView) → from ≤ who → who < from + length seats → open_others who from seats < length seats
fewer who from [] least most = absurd (omega (arith, least, most))
fewer who from (seat ∷ seats) least most = elim (eqb_tells from who) [
  | inl e ↦
      let none : one_if (not (from == who) && is_unsettled_wait seat.wait) ≡ 0 = ap (λ b. one_if (not b && is_unsettled_wait seat.wait)) e.0 in
      let rest = at-most who (from + 1) seats in
      omega (arith, none, rest)
  | inr e ↦
      let one : one_if (not (from == who) && is_unsettled_wait seat.wait) ≤ 1 = bit-most (not (from == who) && is_unsettled_wait seat.wait) in
      let rest = fewer who (from + 1) seats (above from who least e.1) (omega (arith, most)) in
      omega (arith, one, rest)
]

-- in a space
abbrev others_open : ℕ → Core → ℕ
others_open who core = open_others who 1 core.seats

-- a victim's is one less
one-lost : (core : Core) (who victim : ℕ) → has_session victim core ≡ true → victim ≢ who → is_unsettled_wait (seat_at victim core).wait ≡ true
    → suc (others_open who (losing victim settled_as.Victim core)) ≡ others_open who core
one-lost core who victim has other was =
    let fits = within victim (length core.seats) has in
    one-fewer who 1 core.seats (victim - 1) (with_settled_wait settled_as.Victim (seat_at victim core)) (omega arith) (λ e. other (omega arith)) was
    (settled-closed settled_as.Victim (seat_at victim core))

-- ---- searches one after another

cut-over : Over ≡ Cut_off → ⊥
cut-over e = cc

-- none of the searches was refused
abbrev pub IsWhole : SearchEnd → Type 0
IsWhole end = (refusal : SpaceError) → end ≡ Failed refusal → ⊥

pub over-whole : IsWhole Over
over-whole refusal e = cc

pub cut-whole : IsWhole Cut_off
cut-whole refusal e = cc

pub over-cut : (a b : Core) (who : ℕ) → Runs Joins a (seeking 0 who) Over b → ⊥
unfolding seeking
over-cut a b who run = cut-over (sym run.0)

-- the first of some searches: it is the last one, where it finds no cycle or names the session itself; or more follow
abbrev pub Searched : ℕ → SearchEnd → Core → Core → ℕ → Type 0
Searched n end a b who =
    ((end ≡ Over) × Joins a (Search who) No_cycle b)
    ⊎ (((end ≡ Over) × Joins a (Search who) (Victim_is who) b)
    ⊎ ((victim : ℕ) × (mid : Core) × (victim ≢ who) × Joins a (Search who) (Victim_is victim) mid × Runs Joins mid (seeking n who) end b))

pub searched : (n : ℕ) (end : SearchEnd) (a b : Core) (who : ℕ) → IsWhole end → Runs Joins a (seeking (suc n) who) end b → Searched n end a b who
unfolding seeking
searched n end a b who whole (answer, mid, joins, run) = elim (which-joined a mid who answer joins) [
  | inl wanting ↦
      let failed : Runs Joins mid (Give (Failed OutOfMemory)) end b = subst (λ r. Runs Joins mid (after_search who (seeking n who) r) end b) wanting run in
      absurd (whole OutOfMemory (sym failed.0))
  | inr found ↦ elim found [
    | inl e ↦ none (subst (λ r. Joins a (Search who) r mid) e joins) (subst (λ r. Runs Joins mid (after_search who (seeking n who) r) end b) e run)
    | inr h ↦
        named h.0 (eqb_tells h.0 who) (subst (λ r. Joins a (Search who) r mid) h.1 joins) (subst (λ r. Runs Joins mid (after_search who (seeking n who) r) end b) h.1 run)
  ]
]
  where
    none : Joins a (Search who) No_cycle mid → Runs Joins mid (Give Over) end b → Searched n end a b who
    none found over = inl (sym over.0, subst (λ c. Joins a (Search who) No_cycle c) over.1 found)

    named : (victim : ℕ) → ((victim == who) ≡ true) × (victim ≡ who) ⊎ ((victim == who) ≡ false) × (victim ≢ who) → Joins a (Search who) (Victim_is victim) mid
        → Runs Joins mid (if victim == who then Give Over else seeking n who) end b → Searched n end a b who
    named victim (inl same) found rest =
        let over : Runs Joins mid (Give Over) end b = subst (λ t. Runs Joins mid (if t then Give Over else seeking n who) end b) same.0 rest in
        inr (inl (sym over.0, subst (λ c. Joins a (Search who) (Victim_is who) c) over.1 (subst (λ v. Joins a (Search who) (Victim_is v) mid) same.1 found)))
    named victim (inr apart) found rest =
        inr (inr (victim, mid, apart.1, found, subst (λ t. Runs Joins mid (if t then Give Over else seeking n who) end b) apart.0 rest))

-- a search that loses another session's wait keeps that there is such a session
pub speaks-on : CallsKeepSound → (a b : Core) (who victim : ℕ) → SpeaksFor a who → Joins a (Search who) (Victim_is victim) b → SpeaksFor b who
speaks-on keeps a b who victim speaks joins =
    let is = some-joined a b who victim joins in (
      ap (has_session who) is.1 ∙ has_session-seating a victim who (with_settled_wait settled_as.Victim (seat_at victim a)) ∙ speaks.0,
      keeps a b (Search who) (Victim_is victim) speaks.1 joins,
    )

module _ (keeps : CallsKeepSound) where
  never-cut : (n : ℕ) (a b : Core) (who : ℕ) → others_open who a < n → SpeaksFor a who → Runs Joins a (seeking n who) Cut_off b → ⊥
  never-cut zero a b who few speaks run = omega (arith, few)
  never-cut (suc n) a b who few speaks run = elim (searched n Cut_off a b who cut-whole run) [
    | inl none ↦ cut-over (sym none.0)
    | inr named ↦ elim named [
      | inl own ↦ cut-over (sym own.0)
      | inr h ↦
          let victim : ℕ = h.0 in
          let mid : Core = h.1 in
          let is = some-joined a mid who victim h.3 in
          let was = victim-open a who victim speaks.1.tied is.0 in
          let lost : suc (others_open who mid) ≡ others_open who a = ap (λ c. suc (others_open who c)) is.1 ∙ one-lost a who victim was.0 h.2 was.1 in
          never-cut n mid b who (omega (arith, few, lost)) (speaks-on keeps a mid who victim speaks h.3) h.4
    ]
  ]

  pub searches-suffice : SearchesSuffice
  searches-suffice a b who most speaks run =
      let fits = within who (length a.seats) speaks.0 in
      let few = fewer who 1 a.seats (omega arith) (omega arith) in
      never-cut 1024 a b who (omega (arith, few, most)) speaks run

  -- whoever is a victim waits for nobody
  lost-waits : (a b : Core) (who other : ℕ) → SpeaksFor a who → Joins a (Search who) (Victim_is who) b → WaitsFor (system_of b) who other → ⊥
  lost-waits a b who other speaks joins waiting =
      let is = some-joined a b who who joins in
      let sound = keeps a b (Search who) (Victim_is who) speaks.1 joins in
      let open_still = (wishes-open b who waiting.1.0 waiting.1.1 sound.tied waiting.1.2).1 in
      let seat : seat_at who b ≡ with_settled_wait settled_as.Victim (seat_at who a) =
      ap (seat_at who) is.1 ∙ seated-same a who (with_settled_wait settled_as.Victim (seat_at who a)) speaks.0 in
      false≢true (sym (ap (λ (s : SeatView). is_unsettled_wait s.wait) seat ∙ settled-closed settled_as.Victim (seat_at who a)) ∙ open_still)

  lost-deadlock : (a b : Core) (who : ℕ) → SpeaksFor a who → Joins a (Search who) (Victim_is who) b → (cycle : List ℕ) → IsDeadlock (system_of b) who cycle → ⊥
  lost-deadlock a b who speaks joins cycle ([], same, distinct, leading) = lost-waits a b who who speaks joins leading
  lost-deadlock a b who speaks joins cycle (next ∷ rest, same, distinct, leading) = lost-waits a b who next speaks joins leading.0

  none-left : (n : ℕ) (a b : Core) (who : ℕ) → SpeaksFor a who → Runs Joins a (seeking n who) Over b → (cycle : List ℕ) → IsDeadlock (system_of b) who cycle → ⊥
  none-left zero a b who speaks run cycle is = over-cut a b who run
  none-left (suc n) a b who speaks run cycle is = elim (searched n Over a b who over-whole run) [
    | inl none ↦ (searches-find a b who).0 none.1 cycle (subst (λ c. IsDeadlock (system_of c) who cycle) (none-joined a b who none.1).1 is)
    | inr named ↦ elim named [
      | inl own ↦ lost-deadlock a b who speaks own.1 cycle is
      | inr h ↦ none-left n h.1 b who (speaks-on keeps a h.1 who h.0 speaks h.3) h.4 cycle is
    ]
  ]

  pub searches-leave : SearchesLeaveNoDeadlock
  searches-leave a b who = none-left 1024 a b who
