-- Deadlocks come to be only through sessions that begin to wait.
use Rattle.std.proofs.Common.{◌≡◌, ◌≢◌, ◌⊎◌, ℕ, Bool, true, false, not, ◌||◌, ◌==◌, inl, inr, List, [], ◌∷◌, ◌++◌, Option, refl, sym, ap, subst, ◌∙◌}
use Rattle.std.specs.Prelude.{Contains, IsTrue}
use Rattle.std.proofs.Math.Bool.{or_assoc}
use Rattle.std.proofs.lemmas.Bool.{and_from, eq-eqb}
use Rattle.std.proofs.lemmas.Bool.Decides.{eqb_tells}
use Rattle.mdl_key.specs.declared.mode.Mode.{Mode}
use Rattle.mdl_key.specs.declared.namespace.Kind.{Kind}
use Rattle.mdl_key.specs.Words.{IsAtLeast, KeyName, Clashes}
use Rattle.mdl_key.proofs.MatrixLemmas.{clashes-symmetric}
use Rattle.mdl_system.specs.Systems.{Unsettled, Holding, Waiter, System, lock_kind, HasNoWait}
use Rattle.mdl_system.specs.Events.{Event, Grant, Clone, BeginWait, GrantWaiter, SettleLost, EndGrantedWait, EndLostWait, Release, Upgrade, Merge, Downgrade, ChangeDefinition, Happens, Run, SameAt, in_mode, granted_ticket}
use Rattle.mdl_system.specs.BlockingLaws.{IsCovered}
use Rattle.mdl_system.specs.Deadlocks.{Wishes, WaitsFor, Leads, IsDeadlock, DeadlocksGoThrough}
use Rattle.mdl_system.specs.DeadlockLaws.{begins_wait, begins_to_wait, SearchesEndDebts}
use Rattle.mdl_system.specs.NumberingLaws.{IsWellNumbered}
use Rattle.mdl_system.proofs.ConcernLemmas.{Begins, waits-since}
use Rattle.mdl_system.proofs.DeadlockRounds.{deadlock-of_member}
use Rattle.mdl_system.proofs.LawfulLemmas.{downgrades-at_least}
use Rattle.mdl_system.proofs.MemberLemmas.{push-gains}
use Rattle.mdl_system.proofs.NumberingLemmas.{step-well, still}
use Rattle.mdl_system.proofs.OrderLemmas.{Contains-here, Contains-later, within}

-- ---- chains of sessions

-- each tie of a chain is an old one, or a marked session is part of it, where this is so of each tie to a session that has one on
module _ (Old New : ℕ → ℕ → Type 0) (marked : ℕ → Bool) (old : (x y z : ℕ) → New x y → New y z → Old x y ⊎ (IsTrue (marked x) ⊎ IsTrue (marked y))) where
  first-tie : (target session : ℕ) (rest : List ℕ) → Leads New target session rest → (next : ℕ) × New session next
  first-tie target session [] tie = (target, tie)
  first-tie target session (next ∷ rest) (tie, later) = (next, tie)

  leads-old : (target on session : ℕ) (rest : List ℕ) → New target on → Leads New target session rest
      → Leads Old target session rest ⊎ ((member : ℕ) × Contains (session ∷ rest ++ target ∷ []) member × IsTrue (marked member))
  leads-old target on session [] goes tie = elim (old session target on tie goes) [
    | inl before ↦ inl before
    | inr either ↦ elim either [
      | inl its ↦ inr (session, Contains-here session (target ∷ []), its)
      | inr its ↦ inr (target, Contains-later session (target ∷ []) target (Contains-here target []), its)
    ]
  ]
  leads-old target on session (next ∷ rest) goes (tie, later) =
      let further = first-tie target next rest later in
      elim (old session next further.0 tie further.1) [
        | inl before ↦ elim (leads-old target on next rest goes later) [
          | inl all ↦ inl (before, all)
          | inr h ↦ inr (h.0, Contains-later session (next ∷ rest ++ target ∷ []) h.0 h.1, h.2)
        ]
        | inr either ↦ elim either [
          | inl its ↦ inr (session, Contains-here session (next ∷ rest ++ target ∷ []), its)
          | inr its ↦ inr (next, Contains-later session (next ∷ rest ++ target ∷ []) next (Contains-here next (rest ++ target ∷ [])), its)
        ]
      ]

-- ---- ties

-- what clashes with a mode clashes with one that is at least as strong
clash-on : (kind : Kind) (asked weaker mode : Mode) → IsAtLeast kind mode weaker → Clashes kind asked weaker → Clashes kind asked mode
clash-on kind asked weaker mode at_least clash = clashes-symmetric kind asked mode ∙ at_least asked (clashes-symmetric kind weaker asked ∙ clash)

-- a ticket was covered in a, or no ticket of its session waits in b
abbrev IsApart : {D : Type 0} → System D → System D → Holding → Type 0
IsApart a b held =
    IsCovered a held.key held.session held.mode
    ⊎ ((key : KeyName) (waiter : Waiter) → Contains (b.waiting key) waiter → waiter.ticket.session ≢ held.session)

-- so it is with each that is granted in b
abbrev GrantedApart : {D : Type 0} → System D → System D → Type 0
GrantedApart a b = (held : Holding) → Contains b.granted held → IsApart a b held

-- each wish of b was there in a, or is of a marked session
abbrev WishesMarked : {D : Type 0} → (ℕ → Bool) → System D → System D → Type 0
WishesMarked marked a b =
    (key : KeyName) (wish : Waiter) → Contains (b.waiting key) wish → wish.state ≡ Unsettled → Contains (a.waiting key) wish ⊎ IsTrue (marked wish.ticket.session)

module _ {D : Type 0} (a b : System D) (marked : ℕ → Bool) (wishes : WishesMarked marked a b) (granted : GrantedApart a b) where
  wish-before : (session : ℕ) (key : KeyName) (wish : Waiter) → Wishes b session key wish → Wishes a session key wish ⊎ IsTrue (marked session)
  wish-before session key wish (among, own, unsettled) = elim (wishes key wish among unsettled) [
    | inl before ↦ inl (before, own, unsettled)
    | inr its ↦ inr (subst (λ n. IsTrue (marked n)) own its)
  ]

  tie-before : (waiter other next : ℕ) → WaitsFor b waiter other → WaitsFor b other next → WaitsFor a waiter other ⊎ (IsTrue (marked waiter) ⊎ IsTrue (marked other))
  tie-before waiter other next (apart, (key, wish, own_wish, against)) (_, (at, its, wish_of_other, _)) = elim (wish-before waiter key wish own_wish) [
    | inr its ↦ inr (inl its)
    | inl before ↦ elim against [
      | inl (held, among, same_key, own, clash) ↦ elim (granted held among) [
        | inr nowhere ↦ absurd (nowhere at its wish_of_other.0 (wish_of_other.1 ∙ sym own))
        | inl covered ↦ (
            let cover = subst (λ k. IsCovered a k held.session held.mode) same_key covered in
            inl (apart, (key, wish, before, inl (cover.0, cover.1, cover.2, cover.3 ∙ own, clash-on (lock_kind key) wish.ticket.mode held.mode cover.0.mode cover.4 clash))))
      ]
      | inr (pending, ahead, behind) ↦ elim (wish-before other key pending ahead) [
        | inr its ↦ inr (inr its)
        | inl stood ↦ inl (apart, (key, wish, before, inr (pending, stood, behind)))
      ]
    ]
  ]

  -- so where all deadlocks went through some sessions, they go through these or through marked ones
  through-marked : (sessions : ℕ → Bool) → DeadlocksGoThrough sessions a → DeadlocksGoThrough (λ session. sessions session || marked session) b
  through-marked sessions through from cycle (rest, same, distinct, leading) =
      let on = first-tie (WaitsFor a) (WaitsFor b) marked tie-before from from rest leading in
      elim (leads-old (WaitsFor a) (WaitsFor b) marked tie-before from on.0 from rest on.1 leading) [
        | inl all ↦ (let h = through from cycle (rest, same, distinct, all) in (h.0, h.1, ap (λ p. p || marked h.0) h.2))
        | inr h ↦ (
          h.0,
          subst (λ c. Contains c h.0) (sym same) (elim ((push-gains (from ∷ rest) from h.0).0 h.1) [
            | inl here ↦ here
            | inr e ↦ subst (Contains (from ∷ rest)) (sym e) (Contains-here from rest)
          ]),
          or-right (sessions h.0) (marked h.0) h.2,
        )
      ]
    where
      or-right : (p q : Bool) → q ≡ true → (p || q) ≡ true
      or-right true q e = refl
      or-right false q e = e

-- where some sessions are among others, deadlocks that go through these go through those
pub through-more : {D : Type 0} (system : System D) (sessions others : ℕ → Bool) → ((session : ℕ) → sessions session ≡ true → others session ≡ true)
    → DeadlocksGoThrough sessions system → DeadlocksGoThrough others system
through-more system sessions others more through from cycle is = let h = through from cycle is in (h.0, h.1, more h.0 h.2)

-- ---- events

module _ {D : Type 0} (a b : System D) where
  -- a ticket that was granted before covers itself
  stays : (held : Holding) → Contains a.granted held → IsApart a b held
  stays held before = inl (held, before, refl, refl, λ _ clash. clash)

  -- what is granted was so before, or it is one ticket
  comes : {Old : Type 0} (held ticket : Holding) → (Old → Contains a.granted held) → IsApart a b ticket → Old ⊎ (held ≡ ticket) → IsApart a b held
  comes held ticket before its (inl old) = stays held (before old)
  comes held ticket before its (inr e) = subst (IsApart a b) (sym e) its

  -- a ticket of a session without a wait, where all who wait are the same
  free : (ticket : Holding) → HasNoWait a ticket.session → SameAt a.waiting b.waiting → IsApart a b ticket
  free ticket none same = inr (λ key waiter among. none.0 key waiter (within _ _ waiter (same key) among))

begins-marked : {C : Type 0} (event : Event C) (key : KeyName) (wish : Waiter) → Begins event key wish → IsTrue (begins_wait event wish.ticket.session)
begins-marked (BeginWait at new) key wish begins = eq-eqb wish.ticket.session new.ticket.session (ap (λ (w : Waiter). w.ticket.session) begins.1)
begins-marked _ key wish begins = absurd begins

module _ {C D : Type 0} (apply : KeyName → C → Option D → Option (Option D)) where
  -- what is granted after an event was covered before it, or no ticket of its session waits after it
  granted-since : (event : Event C) (a b : System D) → IsWellNumbered a → Happens apply event a b → GrantedApart a b
  granted-since (Grant ticket) a b well step held among = comes a b held ticket (λ old. old) (free a b ticket step.free step.rest.waits.waiting) ((step.granted held).0 among)
  granted-since (Clone first second) a b well step held among = comes a b held second (λ old. old) (free a b second step.free step.rest.waits.waiting) ((step.granted held).0 among)
  granted-since (BeginWait at new) a b well step held among = stays a b held ((step.granted held).0 among)
  granted-since (GrantWaiter at gone) a b well step held among =
      comes a b held (granted_ticket at gone) (λ old. old) (inr (λ key waiter waits. (still a b well at gone step key waiter waits).1)) ((step.granted held).0 among)
  granted-since (SettleLost at gone how) a b well step held among = stays a b held ((step.granted held).0 among)
  granted-since (EndGrantedWait wait) a b well step held among = stays a b held ((step.granted held).0 among)
  granted-since (EndLostWait at gone) a b well step held among = stays a b held ((step.granted held).0 among)
  granted-since (Release ticket) a b well step held among = stays a b held ((step.granted held).0 among).0
  granted-since (Upgrade ticket mode) a b well step held among =
      comes a b held (in_mode mode ticket) (λ old. old.0) (free a b (in_mode mode ticket) step.free step.rest.waits.waiting) ((step.granted held).0 among)
  granted-since (Merge old new) a b well step held among =
      comes a b held (in_mode new.mode old) (λ before. before.0) (free a b (in_mode new.mode old) step.free step.rest.waits.waiting) ((step.granted held).0 among)
  granted-since (Downgrade ticket mode) a b well step held among =
      comes a b held (in_mode mode ticket) (λ old. old.0) (inl (ticket, step.held.0, refl, refl, downgrades-at_least (lock_kind ticket.key) ticket.mode mode step.weaker))
      ((step.granted held).0 among)
  granted-since (ChangeDefinition ticket change) a b well step held among = stays a b held ((step.granted held).0 among)

  wishes-since : (event : Event C) (a b : System D) → Happens apply event a b → WishesMarked (begins_wait event) a b
  wishes-since event a b step key wish among unsettled = elim (waits-since apply event a b step key wish among unsettled) [
    | inl before ↦ inl before
    | inr begins ↦ inr (begins-marked event key wish begins)
  ]

  pub event-through : (event : Event C) (a b : System D) (sessions : ℕ → Bool) → IsWellNumbered a → Happens apply event a b
      → DeadlocksGoThrough sessions a → DeadlocksGoThrough (λ session. sessions session || begins_wait event session) b
  event-through event a b sessions well step = through-marked a b (begins_wait event) (wishes-since event a b step) (granted-since event a b well step) sessions

  pub run-through : (events : List (Event C)) (a b : System D) (sessions : ℕ → Bool) → IsWellNumbered a → Run apply events a b
      → DeadlocksGoThrough sessions a → DeadlocksGoThrough (λ session. sessions session || begins_to_wait events session) b
  run-through [] a b sessions well run through =
      through-marked a b (λ _. false) (λ key wish among _. inl (within _ _ wish (run.waits.waiting key) among)) (λ held among. stays a b held ((run.granted held).0 among)) sessions through
  run-through (event ∷ events) a b sessions well (between, happens, run) through =
      let now = λ (session : ℕ). sessions session || begins_wait event session in
      through-more b (λ session. now session || begins_to_wait events session) (λ session. sessions session || begins_to_wait (event ∷ events) session)
      (λ session e. sym (or_assoc (sessions session) (begins_wait event session) (begins_to_wait events session)) ∙ e)
      (run-through events between b now (step-well apply event a between happens well) run (event-through event a between sessions well happens through))

-- ---- searches

pub debts-end : {D : Type 0} → SearchesEndDebts D
debts-end who sessions system none through from cycle is =
    let h = through from cycle is in (
      h.0,
      h.1,
      elim (eqb_tells h.0 who) [
        | inl e ↦ absurd (let round = deadlock-of_member system from cycle is h.0 h.1 in
            none round.0 (subst (λ n. IsDeadlock system n round.0) e.1 round.1))
        | inr e ↦ and_from (sessions h.0) (not (h.0 == who)) h.2 (ap not e.0)
      ],
    )
