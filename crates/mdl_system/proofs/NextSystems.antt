-- Where an event is permitted there is a system to which it leads.
use Rattle.std.proofs.Common.{◌≡◌, ◌≢◌, ◌⊎◌, ◌↔◌, ◌+◌, inl, inr, List, [], ◌∷◌, ◌++◌, Option, Some, None, IsSome, refl, sym, ap, subst, ◌∙◌, arith}
use Rattle.std.specs.Prelude.{Contains}
use Rattle.mdl_key.specs.Keys.{KeyName}
use Rattle.mdl_system.specs.Systems.{Holding, Waiter, Versioned, System}
use Rattle.mdl_system.specs.Events.{Event, Grant, Clone, BeginWait, GrantWaiter, SettleLost, EndGrantedWait, EndLostWait, Release, Upgrade, Merge, Downgrade, ChangeDefinition, Happens, SameMembers, SameElsewhere, ElseSame, Loses, Replaces, in_mode}
use Rattle.mdl_system.specs.PermittedEvents.{IsPermitted}
use Rattle.mdl_system.proofs.Deciding.{key_told, ticket_told, wait_told}
use Rattle.mdl_system.proofs.GrantingRuns.{chosen, chosen-yes, chosen-no, gains-cons, granting_to, granting-step}
use Rattle.mdl_system.proofs.OrderLemmas.{Contains-cons_cases, Contains-here, Contains-later, middle, within}

-- ---- lists

-- an element before others, unless it is a certain one
abbrev unless : {P T : Type 0} → P ⊎ (P → ⊥) → T → List T → List T
unless (inl p) y ys = ys
unless (inr n) y ys = y ∷ ys

module _ {T : Type 0} (tells : (x y : T) → (x ≡ y) ⊎ (x ≢ y)) where
  -- the members but one
  abbrev others_of : T → List T → List T
  others_of t [] = []
  others_of t (y ∷ ys) = unless (tells y t) y (others_of t ys)

  loses-others : (t : T) (xs : List T) → Loses t xs (others_of t xs)
  loses-others t [] = λ x. ((λ among. let lt = among.1 in absurd (omega arith)), λ held. held.0)
  loses-others t (y ∷ ys) = go (tells y t) (loses-others t ys)
    where
      go : (d : (y ≡ t) ⊎ (y ≢ t)) → Loses t ys (others_of t ys) → Loses t (y ∷ ys) (unless d y (others_of t ys))
      go (inl e) rest x = (
        (λ among. (Contains-later y ys x ((rest x).0 among).0, ((rest x).0 among).1)),
        λ held. elim (Contains-cons_cases y ys x held.0) [ inl later ↦ (rest x).1 (later, held.1) | inr here ↦ absurd (held.1 (here ∙ e)) ],
      )
      go (inr n) rest x = (
        (λ among. elim (Contains-cons_cases y (others_of t ys) x among) [
          | inl later ↦ (Contains-later y ys x ((rest x).0 later).0, ((rest x).0 later).1)
          | inr here ↦ (subst (λ (z : T). Contains (y ∷ ys) z) (sym here) (Contains-here y ys), λ e. n (sym here ∙ e))
        ]),
        λ held. elim (Contains-cons_cases y ys x held.0) [
          | inl later ↦ Contains-later y (others_of t ys) x ((rest x).1 (later, held.1))
          | inr here ↦ subst (λ (z : T). Contains (y ∷ others_of t ys) z) (sym here) (Contains-here y (others_of t ys))
        ],
      )

  replaces-others : (t u : T) (xs : List T) → Replaces t u xs (u ∷ others_of t xs)
  replaces-others t u xs x =
      let gains = gains-cons u (others_of t xs) x in
      let loses = loses-others t xs x in (
        (λ among. elim (gains.0 among) [ inl before ↦ inl (loses.0 before) | inr e ↦ inr e ]),
        λ either. elim either [ inl before ↦ gains.1 (inl (loses.1 before)) | inr e ↦ gains.1 (inr e) ],
      )

-- a member stands somewhere among the others
split : {T : Type 0} (xs : List T) (x : T) → Contains xs x → (before : List T) × (after : List T) × (xs ≡ before ++ x ∷ after)
split [] x among = let lt = among.1 in absurd (omega arith)
split (y ∷ ys) x among = elim (Contains-cons_cases y ys x among) [
  | inl later ↦ (let rest = split ys x later in (y ∷ rest.0, rest.1, ap (λ zs. y ∷ zs) rest.2))
  | inr e ↦ ([], ys, ap (λ z. z ∷ ys) (sym e))
]

some_of : {T : Type 0} (o : Option T) → IsSome o → (x : T) × (o ≡ Some x)
some_of None is = absurd (cc)
some_of (Some x) is = (x, refl)

some-from : {T : Type 0} (o : Option T) (x : T) → o ≡ Some x → IsSome o
some-from None x e = absurd (cc)
some-from (Some y) x e = refl

same_members : {T : Type 0} (xs : List T) → SameMembers xs xs
same_members xs x = ((λ among. among), λ among. among)

-- ---- systems

-- another value under a key
abbrev pub put : {T : Type 0} → KeyName → T → (KeyName → T) → KeyName → T
put key x old k = chosen (key_told k key) x (old k)

pub put-there : {T : Type 0} (key : KeyName) (x : T) (old : KeyName → T) → put key x old key ≡ x
put-there key x old = chosen-yes (key_told key key) x (old key) refl

put-elsewhere : {T : Type 0} (key : KeyName) (x : T) (old : KeyName → T) → SameElsewhere key old (put key x old)
put-elsewhere key x old other e = chosen-no (key_told other key) x (old other) e

module _ {D : Type 0} (a : System D) where
  -- with these granted tickets
  abbrev with_granted : List Holding → System D
  with_granted granted = record a { granted = granted }

  else_same : (granted : List Holding) → ElseSame a (with_granted granted)
  else_same granted = record { waits = record { waiting = λ _. refl; unended = same_members a.unended }; definitions = λ _. refl }

  -- with these waiting at a key
  abbrev with_waiting : KeyName → List Waiter → System D
  with_waiting key waiting = record a { waiting = put key waiting a.waiting }

module _ {C D : Type 0} (apply : KeyName → C → Option D → Option (Option D)) where
  pub next : (event : Event C) (a : System D) → IsPermitted apply event a → (b : System D) × Happens apply event a b
  next (Grant ticket) a may = (
    with_granted a (ticket ∷ a.granted),
    record {
      free = may.0;
      new_number = may.1;
      grantable = may.2;
      granted = gains-cons ticket a.granted;
      rest = else_same a (ticket ∷ a.granted);
    },
  )
  next (Clone first second) a may = (
    with_granted a (second ∷ a.granted),
    record {
      free = may.0;
      new_number = may.1;
      held = may.2;
      same_key = may.3;
      at_least = may.4;
      granted = gains-cons second a.granted;
      rest = else_same a (second ∷ a.granted);
    },
  )
  next (BeginWait key waiter) a may = (
    with_waiting a key (a.waiting key ++ waiter ∷ []),
    record {
      free = may.0;
      new_number = may.1;
      unsettled = may.2;
      joins = put-there key (a.waiting key ++ waiter ∷ []) a.waiting;
      elsewhere = put-elsewhere key (a.waiting key ++ waiter ∷ []) a.waiting;
      granted = same_members a.granted;
      unended = same_members a.unended;
      definitions = λ _. refl;
    },
  )
  next (GrantWaiter key waiter) a may =
      let at = split (a.waiting key) waiter may.0 in
      (granting_to a key waiter (at.0 ++ at.1), granting-step a key waiter (at.0 ++ at.1) (at.0, at.1, at.2, refl) may.1 may.2)
  next (SettleLost key waiter how) a may =
      let at = split (a.waiting key) waiter may.0 in
      let left : List Waiter = at.0 ++ record waiter { state = how } ∷ at.1 in (
        with_waiting a key left,
        record {
          unsettled = may.1;
          lost = may.2;
          settled = (at.0, at.1, at.2, put-there key left a.waiting);
          elsewhere = put-elsewhere key left a.waiting;
          granted = same_members a.granted;
          unended = same_members a.unended;
          definitions = λ _. refl;
        },
      )
  next (EndGrantedWait wait) a may = (
    record a { unended = others_of wait_told wait a.unended },
    record {
      stands = may;
      unended = loses-others wait_told wait a.unended;
      granted = same_members a.granted;
      waiting = λ _. refl;
      definitions = λ _. refl;
    },
  )
  next (EndLostWait key waiter) a may =
      let at = split (a.waiting key) waiter may.0 in (
        with_waiting a key (at.0 ++ at.1),
        record {
          settled = may.1;
          leaves = (at.0, at.1, at.2, put-there key (at.0 ++ at.1) a.waiting);
          elsewhere = put-elsewhere key (at.0 ++ at.1) a.waiting;
          granted = same_members a.granted;
          unended = same_members a.unended;
          definitions = λ _. refl;
        },
      )
  next (Release ticket) a may =
      let left : List Holding = others_of ticket_told ticket a.granted in
      (with_granted a left, record { held = may; granted = loses-others ticket_told ticket a.granted; rest = else_same a left })
  next (Upgrade ticket mode) a may =
      let left : List Holding = in_mode mode ticket ∷ others_of ticket_told ticket a.granted in (
        with_granted a left,
        record {
          free = may.0;
          held = may.1;
          grantable = may.2;
          granted = replaces-others ticket_told ticket (in_mode mode ticket) a.granted;
          rest = else_same a left;
        },
      )
  next (Merge old new) a may =
      let without_old : List Holding = others_of ticket_told old a.granted in
      let left : List Holding = in_mode new.mode old ∷ others_of ticket_told new without_old in (
        with_granted a left,
        record {
          free = may.0;
          old_held = may.1;
          new_held = may.2;
          two = may.3;
          same_key = may.4;
          at_least = may.5;
          granted = λ ticket.
              (let replaced = replaces-others ticket_told new (in_mode new.mode old) without_old ticket in
              let loses = loses-others ticket_told old a.granted ticket in (
                (λ among. elim (replaced.0 among) [ inl before ↦ inl ((loses.0 before.0).0, (loses.0 before.0).1, before.1) | inr e ↦ inr e ]),
                λ either. elim either [ inl before ↦ replaced.1 (inl (loses.1 (before.0, before.1), before.2)) | inr e ↦ replaced.1 (inr e) ],
              ));
          rest = else_same a left;
        },
      )
  next (Downgrade ticket mode) a may =
      let left : List Holding = in_mode mode ticket ∷ others_of ticket_told ticket a.granted in (
        with_granted a left,
        record {
          held = may.0;
          weaker = may.1;
          granted = replaces-others ticket_told ticket (in_mode mode ticket) a.granted;
          rest = else_same a left;
        },
      )
  next (ChangeDefinition ticket change) a may =
      let some = some_of (apply ticket.key change (a.definitions ticket.key).definition) may.2 in
      let new : Versioned D = record { version = (a.definitions ticket.key).version + 1; definition = some.0 } in
      let there = put-there ticket.key new a.definitions in (
        record a { definitions = put ticket.key new a.definitions },
        record {
          held = may.0;
          exclusive = may.1;
          applied = some.1 ∙ ap (λ (v : Versioned D). Some v.definition) (sym there);
          counted = ap (λ (v : Versioned D). v.version) there;
          elsewhere = put-elsewhere ticket.key new a.definitions;
          granted = same_members a.granted;
          waits = record { waiting = λ _. refl; unended = same_members a.unended };
        },
      )

  permitted : (event : Event C) (a b : System D) → Happens apply event a b → IsPermitted apply event a
  permitted (Grant ticket) a b step = (step.free, step.new_number, step.grantable)
  permitted (Clone first second) a b step = (step.free, step.new_number, step.held, step.same_key, step.at_least)
  permitted (BeginWait key waiter) a b step = (step.free, step.new_number, step.unsettled)
  permitted (GrantWaiter key waiter) a b step =
      (within _ (a.waiting key) waiter (sym step.leaves.2) (middle step.leaves.0 step.leaves.1 waiter), step.unsettled, step.grantable)
  permitted (SettleLost key waiter how) a b step =
      (within _ (a.waiting key) waiter (sym step.settled.2) (middle step.settled.0 step.settled.1 waiter), step.unsettled, step.lost)
  permitted (EndGrantedWait wait) a b step = step.stands
  permitted (EndLostWait key waiter) a b step =
      (within _ (a.waiting key) waiter (sym step.leaves.2) (middle step.leaves.0 step.leaves.1 waiter), step.settled)
  permitted (Release ticket) a b step = step.held
  permitted (Upgrade ticket mode) a b step = (step.free, step.held, step.grantable)
  permitted (Merge old new) a b step = (step.free, step.old_held, step.new_held, step.two, step.same_key, step.at_least)
  permitted (Downgrade ticket mode) a b step = (step.held, step.weaker)
  permitted (ChangeDefinition ticket change) a b step =
      (step.held, step.exclusive, some-from (apply ticket.key change (a.definitions ticket.key).definition) (b.definitions ticket.key).definition step.applied)

  pub happens-where_permitted : (event : Event C) (a : System D) → IsPermitted apply event a ↔ ((b : System D) × Happens apply event a b)
  happens-where_permitted event a = (next event a, λ happens. permitted event a happens.0 happens.1)
