-- A well-numbered system stays so.
use Rattle.std.proofs.Common.{◌≡◌, ◌≢◌, ◌⊎◌, ◌↔◌, ℕ, inl, inr, List, [], ◌∷◌, Option, refl, sym, ap, subst, ◌∙◌, arith}
use Rattle.std.specs.Prelude.{Contains, AllPairs}
use Rattle.std.proofs.lemmas.List.Elements.{Contains-push_cases}
use Rattle.mdl_key.specs.declared.mode.Mode.{Mode}
use Rattle.mdl_key.specs.Keys.{KeyName}
use Rattle.mdl_system.specs.Systems.{WaitState, Holding, Waiter, GrantedWait, System, empty_system, Held}
use Rattle.mdl_system.specs.Events.{Event, Grant, Clone, BeginWait, GrantWaiter, SettleLost, EndGrantedWait, EndLostWait, Release, Upgrade, Merge, Downgrade, ChangeDefinition, Happens, Run, BeginsWait, GrantsWaiter, SettlesLost, SameMembers, SameAt, SameWaits, Gains, Replaces, IsNewNumber, in_mode, granted_ticket, granted_wait}
use Rattle.mdl_system.specs.NumberingLaws.{IsWellNumbered, LeavesHeld}
use Rattle.mdl_system.proofs.ApartLemmas.{apart, leaves-apart, leaves-others, turn-apart, joins-apart}
use Rattle.mdl_system.proofs.BlockingLemmas.{at_any}
use Rattle.mdl_system.proofs.HeldLemmas.{held-same}
use Rattle.mdl_system.proofs.OrderLemmas.{within, gone-before, changed-before, middle}

module _ {D : Type 0} (a b : System D) (well : IsWellNumbered a) where
  -- ---- where no ticket comes

  fewer : SameMembers a.granted b.granted → ((key : KeyName) (waiter : Waiter) → Contains (b.waiting key) waiter → Contains (a.waiting key) waiter)
      → ((key : KeyName) → AllPairs apart (b.waiting key)) → ((wait : GrantedWait) → Contains b.unended wait → Contains a.unended wait) → IsWellNumbered b
  fewer granted waiting once unended = record {
    granted = λ one other p q. well.granted one other ((granted one).0 p) ((granted other).0 q);
    waiting = λ key waiter p held q. well.waiting key waiter (waiting key waiter p) held ((granted held).0 q);
    once = once;
    one_key = λ key other waiter another p q. well.one_key key other waiter another (waiting key waiter p) (waiting other another q);
    ended = λ key waiter wait p q. well.ended key waiter wait (waiting key waiter p) (unended wait q);
    one_wait = λ one other p q. well.one_wait one other (unended one p) (unended other q);
    stands = λ wait p. let h = well.stands wait (unended wait p) in (h.0, (granted h.0).1 h.1, h.2, h.3);
  }

  once-same : SameAt a.waiting b.waiting → (key : KeyName) → AllPairs apart (b.waiting key)
  once-same waiting key = subst (AllPairs apart) (sym (waiting key)) (well.once key)

  -- ---- where only granted tickets come and go

  -- a ticket is in the place of none of its session and number
  abbrev IsGained : Holding → Type 0
  IsGained t = (x : Holding) → Contains b.granted x → (Contains a.granted x × (x.session ≡ t.session → x.number ≡ t.number → ⊥)) ⊎ (x ≡ t)

  -- and has another number than its session's waiting ticket
  abbrev IsNewBesideWaiting : Holding → Type 0
  IsNewBesideWaiting t = (key : KeyName) (waiter : Waiter) → Contains (a.waiting key) waiter → t.session ≡ waiter.ticket.session → t.number ≡ waiter.ticket.number → ⊥

  -- the tickets of granted waits stay
  abbrev KeepsStanding : Type 0
  KeepsStanding = (wait : GrantedWait) → Contains a.unended wait → (held : Holding) → Contains a.granted held → held.session ≡ wait.session → held.number ≡ wait.ticket → Contains b.granted held

  gained-unique : (t : Holding) → IsGained t → (one other : Holding) → Contains b.granted one → Contains b.granted other
      → one.session ≡ other.session → one.number ≡ other.number → one ≡ other
  gained-unique t gained one other p q s n = go (gained one p) (gained other q)
    where
      go : (Contains a.granted one × (one.session ≡ t.session → one.number ≡ t.number → ⊥)) ⊎ (one ≡ t)
          → (Contains a.granted other × (other.session ≡ t.session → other.number ≡ t.number → ⊥)) ⊎ (other ≡ t) → one ≡ other
      go (inl u) (inl v) = well.granted one other u.0 v.0 s n
      go (inl u) (inr e) = absurd (u.1 (s ∙ ap (λ (x : Holding). x.session) e) (n ∙ ap (λ (x : Holding). x.number) e))
      go (inr e) (inl v) = absurd (v.1 (sym s ∙ ap (λ (x : Holding). x.session) e) (sym n ∙ ap (λ (x : Holding). x.number) e))
      go (inr e) (inr f) = e ∙ sym f

  gained-new : (t : Holding) → IsGained t → IsNewBesideWaiting t → (key : KeyName) (waiter : Waiter) → Contains (a.waiting key) waiter
      → IsNewNumber b waiter.ticket.session waiter.ticket.number
  gained-new t gained new key waiter among held p own n = elim (gained held p) [
    | inl old ↦ well.waiting key waiter among held old.0 own n
    | inr e ↦ new key waiter among (sym (ap (λ (x : Holding). x.session) e) ∙ own) (sym (ap (λ (x : Holding). x.number) e) ∙ n)
  ]

  gained-well : (t : Holding) → IsGained t → IsNewBesideWaiting t → KeepsStanding → SameWaits a b → IsWellNumbered b
  gained-well t gained new keeps waits = record {
    granted = gained-unique t gained;
    waiting = λ key waiter among. gained-new t gained new key waiter (within _ _ waiter (waits.waiting key) among);
    once = once-same waits.waiting;
    one_key = λ key other waiter another p q. well.one_key key other waiter another (within _ _ waiter (waits.waiting key) p) (within _ _ another (waits.waiting other) q);
    ended = λ key waiter wait p q. well.ended key waiter wait (within _ _ waiter (waits.waiting key) p) ((waits.unended wait).0 q);
    one_wait = λ one other p q. well.one_wait one other ((waits.unended one).0 p) ((waits.unended other).0 q);
    stands = λ wait p.
        (let among = (waits.unended wait).0 p in
        let h = well.stands wait among in
        (h.0, keeps wait among h.0 h.1 h.2 h.3, h.2, h.3));
  }

  -- a new ticket of a session without a wait
  new-well : (t : Holding) → IsNewNumber a t.session t.number → ((key : KeyName) (waiter : Waiter) → Contains (a.waiting key) waiter → waiter.ticket.session ≢ t.session)
      → Gains t a.granted b.granted → SameWaits a b → IsWellNumbered b
  new-well t new free granted waits =
      gained-well t (λ x p. elim ((granted x).0 p) [ inl old ↦ inl (old, λ s n. new x old s n) | inr e ↦ inr e ])
      (λ key waiter among s n. free key waiter among (sym s)) (λ wait p held q s n. (granted held).1 (inl q)) waits

  -- a held ticket is none of a granted wait that isn't ended
  not_unended : (t : Holding) (session : ℕ) → Held a session t → (wait : GrantedWait) → Contains a.unended wait → (held : Holding) → held.session ≡ wait.session → held.number ≡ wait.ticket → held ≢ t
  not_unended t session own wait among held s n e =
      own.2 wait among (sym s ∙ ap (λ (x : Holding). x.session) e ∙ own.1) (sym n ∙ ap (λ (x : Holding). x.number) e)

  -- a held ticket in another mode
  replaced-well : (t : Holding) (mode : Mode) → Held a t.session t → Replaces t (in_mode mode t) a.granted b.granted → SameWaits a b → IsWellNumbered b
  replaced-well t mode own granted waits =
      gained-well (in_mode mode t) (λ x p. elim ((granted x).0 p) [ inl old ↦ inl (old.0, λ s n. old.1 (well.granted x t old.0 own.0 s n)) | inr e ↦ inr e ])
      (λ key waiter among s n. well.waiting key waiter among t own.0 s n)
      (λ wait p held q s n. (granted held).1 (inl (q, not_unended t t.session own wait p held s n))) waits

  -- ---- waits

  begun : (at : KeyName) (new : Waiter) → BeginsWait at new a b → IsWellNumbered b
  begun at new step = record {
    granted = λ one other p q. well.granted one other ((step.granted one).0 p) ((step.granted other).0 q);
    waiting = λ key waiter p. elim (came key waiter p) [
      | inl old ↦ (λ held q. well.waiting key waiter old held ((step.granted held).0 q))
      | inr is ↦ subst (λ (w : Waiter). IsNewNumber b w.ticket.session w.ticket.number) (sym is.1) (λ held q. step.new_number held ((step.granted held).0 q))
    ];
    once = λ key. at_any (λ k. AllPairs apart (b.waiting k)) at key
        (joins-apart (a.waiting at) (b.waiting at) new step.joins (λ y among. step.free.0 at y among) (well.once at))
        (λ other. subst (AllPairs apart) (sym (step.elsewhere key other)) (well.once key));
    one_key = λ key other waiter another p q e. both key other waiter another e (came key waiter p) (came other another q);
    ended = λ key waiter wait p q s. elim (came key waiter p) [
      | inl old ↦ well.ended key waiter wait old ((step.unended wait).0 q) s
      | inr is ↦ step.free.1 wait ((step.unended wait).0 q) (sym s ∙ ap (λ (w : Waiter). w.ticket.session) is.1)
    ];
    one_wait = λ one other p q. well.one_wait one other ((step.unended one).0 p) ((step.unended other).0 q);
    stands = λ wait p. let h = well.stands wait ((step.unended wait).0 p) in (h.0, (step.granted h.0).1 h.1, h.2, h.3);
  }
    where
      came : (key : KeyName) (waiter : Waiter) → Contains (b.waiting key) waiter → Contains (a.waiting key) waiter ⊎ ((key ≡ at) × (waiter ≡ new))
      came key = at_any (λ k. (waiter : Waiter) → Contains (b.waiting k) waiter → Contains (a.waiting k) waiter ⊎ ((k ≡ at) × (waiter ≡ new))) at key
          (λ waiter among. elim (Contains-push_cases (a.waiting at) new waiter (within _ _ waiter step.joins among)) [ inl before ↦ inl before | inr e ↦ inr (refl, sym e) ])
          (λ other waiter among. inl (within _ _ waiter (step.elsewhere key other) among))

      both : (key other : KeyName) (waiter another : Waiter) → waiter.ticket.session ≡ another.ticket.session
          → Contains (a.waiting key) waiter ⊎ ((key ≡ at) × (waiter ≡ new)) → Contains (a.waiting other) another ⊎ ((other ≡ at) × (another ≡ new)) → key ≡ other
      both key other waiter another e (inl p) (inl q) = well.one_key key other waiter another p q e
      both key other waiter another e (inl p) (inr q) = absurd (step.free.0 key waiter p (e ∙ ap (λ (w : Waiter). w.ticket.session) q.1))
      both key other waiter another e (inr p) (inl q) = absurd (step.free.0 other another q (sym e ∙ ap (λ (w : Waiter). w.ticket.session) p.1))
      both key other waiter another e (inr p) (inr q) = p.0 ∙ sym q.0

  there : (at : KeyName) (gone : Waiter) → GrantsWaiter at gone a b → Contains (a.waiting at) gone
  there at gone step = within _ (a.waiting at) gone (sym step.leaves.2) (middle step.leaves.0 step.leaves.1 gone)

  -- who still waits is of another session
  pub still : (at : KeyName) (gone : Waiter) → GrantsWaiter at gone a b → (key : KeyName) (waiter : Waiter) → Contains (b.waiting key) waiter
      → Contains (a.waiting key) waiter × (waiter.ticket.session ≢ gone.ticket.session)
  still at gone step key = at_any (λ k. (waiter : Waiter) → Contains (b.waiting k) waiter → Contains (a.waiting k) waiter × (waiter.ticket.session ≢ gone.ticket.session)) at key
      (λ waiter among. (gone-before gone (a.waiting at) (b.waiting at) step.leaves waiter among, leaves-others (a.waiting at) (b.waiting at) gone step.leaves (well.once at) waiter among))
      (λ other waiter among. let old = within _ _ waiter (step.elsewhere key other) among in
      (old, λ e. other (well.one_key key at waiter gone old (there at gone step) e)))

  waiter_granted : (at : KeyName) (gone : Waiter) → GrantsWaiter at gone a b → IsWellNumbered b
  waiter_granted at gone step = record {
    granted = gained-unique (granted_ticket at gone)
        (λ x p. elim ((step.granted x).0 p) [ inl old ↦ inl (old, λ s n. well.waiting at gone (there at gone step) x old s n) | inr e ↦ inr e ]);
    waiting = λ key waiter p held q own n.
        (let w = still at gone step key waiter p in
        elim ((step.granted held).0 q) [ inl old ↦ well.waiting key waiter w.0 held old own n | inr e ↦ w.1 (sym own ∙ ap (λ (x : Holding). x.session) e) ]);
    once = λ key. at_any (λ k. AllPairs apart (b.waiting k)) at key
        (leaves-apart (a.waiting at) (b.waiting at) gone step.leaves (well.once at))
        (λ other. subst (AllPairs apart) (sym (step.elsewhere key other)) (well.once key));
    one_key = λ key other waiter another p q. well.one_key key other waiter another (still at gone step key waiter p).0 (still at gone step other another q).0;
    ended = λ key waiter wait p q s.
        (let w = still at gone step key waiter p in
        elim ((step.unended wait).0 q) [ inl old ↦ well.ended key waiter wait w.0 old s | inr e ↦ w.1 (s ∙ ap (λ (x : GrantedWait). x.session) e) ]);
    one_wait = λ one other p q s. one_of one other s ((step.unended one).0 p) ((step.unended other).0 q);
    stands = λ wait p. elim ((step.unended wait).0 p) [
      | inl old ↦ (let h = well.stands wait old in (h.0, (step.granted h.0).1 (inl h.1), h.2, h.3))
      | inr e ↦ (granted_ticket at gone, (step.granted (granted_ticket at gone)).1 (inr refl), sym (ap (λ (x : GrantedWait). x.session) e), sym (ap (λ (x : GrantedWait). x.ticket) e))
    ];
  }
    where
      one_of : (one other : GrantedWait) → one.session ≡ other.session → Contains a.unended one ⊎ (one ≡ granted_wait gone) → Contains a.unended other ⊎ (other ≡ granted_wait gone) → one ≡ other
      one_of one other s (inl p) (inl q) = well.one_wait one other p q s
      one_of one other s (inl p) (inr e) = absurd (well.ended at gone one (there at gone step) p (sym (s ∙ ap (λ (x : GrantedWait). x.session) e)))
      one_of one other s (inr e) (inl q) = absurd (well.ended at gone other (there at gone step) q (sym (ap (λ (x : GrantedWait). x.session) e) ∙ s))
      one_of one other s (inr e) (inr f) = e ∙ sym f

  settled_lost : (at : KeyName) (gone : Waiter) (how : WaitState) → SettlesLost at gone how a b → IsWellNumbered b
  settled_lost at gone how step = record {
    granted = λ one other p q. well.granted one other ((step.granted one).0 p) ((step.granted other).0 q);
    waiting = λ key waiter p. let w = was key waiter p in
        subst (λ t. IsNewNumber b t.session t.number) w.2 (λ held q. well.waiting key w.0 w.1 held ((step.granted held).0 q));
    once = λ key. at_any (λ k. AllPairs apart (b.waiting k)) at key
        (turn-apart (a.waiting at) (b.waiting at) gone (record gone { state = how }) refl step.settled (well.once at))
        (λ other. subst (AllPairs apart) (sym (step.elsewhere key other)) (well.once key));
    one_key = λ key other waiter another p q e.
        (let w = was key waiter p in
        let v = was other another q in
        well.one_key key other w.0 v.0 w.1 v.1 (ap (λ t. t.session) w.2 ∙ e ∙ sym (ap (λ t. t.session) v.2)));
    ended = λ key waiter wait p q s. let w = was key waiter p in well.ended key w.0 wait w.1 ((step.unended wait).0 q) (ap (λ t. t.session) w.2 ∙ s);
    one_wait = λ one other p q. well.one_wait one other ((step.unended one).0 p) ((step.unended other).0 q);
    stands = λ wait p. let h = well.stands wait ((step.unended wait).0 p) in (h.0, (step.granted h.0).1 h.1, h.2, h.3);
  }
    where
      was : (key : KeyName) (waiter : Waiter) → Contains (b.waiting key) waiter → (old : Waiter) × Contains (a.waiting key) old × (old.ticket ≡ waiter.ticket)
      was key = at_any (λ k. (waiter : Waiter) → Contains (b.waiting k) waiter → (old : Waiter) × Contains (a.waiting k) old × (old.ticket ≡ waiter.ticket)) at key
          (λ waiter among. elim (changed-before gone (record gone { state = how }) (a.waiting at) (b.waiting at) step.settled waiter among) [
            | inl before ↦ (waiter, before, refl)
            | inr e ↦ (gone, within _ (a.waiting at) gone (sym step.settled.2) (middle step.settled.0 step.settled.1 gone), ap (λ (w : Waiter). w.ticket) (sym e))
          ])
          (λ other waiter among. (waiter, within _ _ waiter (step.elsewhere key other) among, refl))

module _ {C D : Type 0} (apply : KeyName → C → Option D → Option (Option D)) where
  pub step-well : (event : Event C) (a b : System D) → Happens apply event a b → IsWellNumbered a → IsWellNumbered b
  step-well (Grant t) a b step well = new-well a b well t step.new_number step.free.0 step.granted step.rest.waits
  step-well (Clone first second) a b step well = new-well a b well second step.new_number step.free.0 step.granted step.rest.waits
  step-well (BeginWait at new) a b step well = begun a b well at new step
  step-well (GrantWaiter at gone) a b step well = waiter_granted a b well at gone step
  step-well (SettleLost at gone how) a b step well = settled_lost a b well at gone how step
  step-well (EndGrantedWait wait) a b step well =
      fewer a b well step.granted (λ key waiter p. within _ _ waiter (step.waiting key) p) (once-same a b well step.waiting) (λ w p. ((step.unended w).0 p).0)
  step-well (EndLostWait at gone) a b step well =
      fewer a b well step.granted
      (λ key. at_any (λ k. (waiter : Waiter) → Contains (b.waiting k) waiter → Contains (a.waiting k) waiter) at key
      (λ waiter p. gone-before gone (a.waiting at) (b.waiting at) step.leaves waiter p) (λ other waiter p. within _ _ waiter (step.elsewhere key other) p))
      (λ key. at_any (λ k. AllPairs apart (b.waiting k)) at key (leaves-apart (a.waiting at) (b.waiting at) gone step.leaves (well.once at))
      (λ other. subst (AllPairs apart) (sym (step.elsewhere key other)) (well.once key)))
      (λ w p. (step.unended w).0 p)
  step-well (Release t) a b step well =
      gained-well a b well t
      (λ x p. let old = (step.granted x).0 p in inl (old.0, λ s n. old.1 (well.granted x t old.0 step.held.0 s n)))
      (λ key waiter among s n. well.waiting key waiter among t step.held.0 s n)
      (λ wait p held q s n. (step.granted held).1 (q, not_unended a b well t t.session step.held wait p held s n))
      step.rest.waits
  step-well (Upgrade t mode) a b step well = replaced-well a b well t mode step.held step.granted step.rest.waits
  step-well (Merge old new) a b step well =
      gained-well a b well (in_mode new.mode old)
      (λ x p. elim ((step.granted x).0 p) [ inl before ↦ inl (before.0, λ s n. before.1 (well.granted x old before.0 step.old_held.0 s n)) | inr e ↦ inr e ])
      (λ key waiter among s n. well.waiting key waiter among old step.old_held.0 s n)
      (λ wait p held q s n. (step.granted held).1 (inl (q, not_unended a b well old old.session step.old_held wait p held s n, not_unended a b well new old.session step.new_held wait p held s n)))
      step.rest.waits
  step-well (Downgrade t mode) a b step well = replaced-well a b well t mode step.held step.granted step.rest.waits
  step-well (ChangeDefinition t change) a b step well =
      fewer a b well step.granted (λ key waiter p. within _ _ waiter (step.waits.waiting key) p) (once-same a b well step.waits.waiting) (λ w p. (step.waits.unended w).0 p)

  pub run-well : (events : List (Event C)) (a b : System D) → Run apply events a b → IsWellNumbered a → IsWellNumbered b
  run-well [] a b run well =
      fewer a b well run.granted (λ key waiter p. within _ _ waiter (run.waits.waiting key) p) (once-same a b well run.waits.waiting) (λ w p. (run.waits.unended w).0 p)
  run-well (event ∷ events) a b run well = run-well events run.0 b run.2 (step-well event a run.0 run.1 well)

  -- what others do for a wait changes nothing that anybody holds
  pub leaves-held : (event : Event C) (a b : System D) → IsWellNumbered a → Happens apply event a b → LeavesHeld event
      → (session : ℕ) (ticket : Holding) → Held b session ticket ↔ Held a session ticket
  leaves-held (BeginWait at new) a b well step leaves session ticket = held-same a b session (λ t _. step.granted t) (λ w _. step.unended w) ticket
  leaves-held (GrantWaiter at gone) a b well step leaves session ticket = (
    (λ held. (
      elim ((step.granted ticket).0 held.0) [
        | inl old ↦ old
        | inr e ↦ absurd (held.2 (granted_wait gone) ((step.unended (granted_wait gone)).1 (inr refl))
            (sym (ap (λ (x : Holding). x.session) e) ∙ held.1) (sym (ap (λ (x : Holding). x.number) e)))
      ],
      held.1,
      λ wait among. held.2 wait ((step.unended wait).1 (inl among)),
    )),
    λ held. (
      (step.granted ticket).1 (inl held.0),
      held.1,
      λ wait among own n. elim ((step.unended wait).0 among) [
        | inl old ↦ held.2 wait old own n
        | inr e ↦ well.waiting at gone (there a b well at gone step) ticket held.0
            (held.1 ∙ sym own ∙ ap (λ (x : GrantedWait). x.session) e) (sym n ∙ ap (λ (x : GrantedWait). x.ticket) e)
      ],
    ),
  )
  leaves-held (SettleLost at gone how) a b well step leaves session ticket = held-same a b session (λ t _. step.granted t) (λ w _. step.unended w) ticket
  leaves-held (EndLostWait at gone) a b well step leaves session ticket = held-same a b session (λ t _. step.granted t) (λ w _. step.unended w) ticket
  leaves-held (ChangeDefinition t change) a b well step leaves session ticket = held-same a b session (λ x _. step.granted x) (λ w _. step.waits.unended w) ticket
  leaves-held _ a b well step leaves session ticket = absurd leaves

pub empty-well : (D : Type 0) → IsWellNumbered (empty_system {D = D})
empty-well D = record {
  granted = λ one other p. absurd (none one p);
  waiting = λ key waiter p. absurd (none waiter p);
  once = λ key i j d lt within. absurd (omega arith);
  one_key = λ key other waiter another p. absurd (none waiter p);
  ended = λ key waiter wait p. absurd (none waiter p);
  one_wait = λ one other p. absurd (none one p);
  stands = λ wait p. absurd (none wait p);
}
  where
    none : {T : Type 0} (x : T) → Contains [] x → ⊥
    none x among = let lt = among.1 in omega arith
