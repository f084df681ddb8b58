-- What a session does under a latch is an event of the system of locks.
use Rattle.std.proofs.Common.{◌≡◌, ℕ, true, inl, inr, List, [], ◌∷◌, ◌++◌, refl, sym, ap, ◌∙◌, subst, append_assoc, Option}
use Rattle.mdl_book.specs.Books as books
use Rattle.mdl_book.specs.Granting as book
use Rattle.mdl_book.specs.Tickets as tickets
use Rattle.mdl_system.specs.Systems.{lock_kind}
use Rattle.mdl_steps_laws.proofs.Common.{Alter, BookView, Deed, Definition, ElseSame, Gain, Gains, HasNoWait, Held, Holding, IsGrantable, IsOnly, KeyName, Lock, Lose, Loses, MayJoin, Mode, Replaces, SameElsewhere, System, Tells, Ticket, all_booked, and_from, booked, changes-by_lists, grantable-by_lists, granted_of, key_told, may_join, of_lock, push-gains, versioned, with_mode, without}
use Rattle.mdl_steps_laws.proofs.DeedLaws.{Does, MayBeJoined, MayTake, LosingReleases, GainingGrants, GainingClones, AlteringDowngrades, AlteringUpgrades}
use Rattle.mdl_steps_laws.proofs.TicketMembers.{loses-behind, replaces-behind, found-passes, found-apart, without-loses, with_mode-replaces}

-- deeds leave what stands
all_booked-standing : (session : ℕ) (deeds : List Deed) (book : BookView) → (all_booked session deeds book).standing ≡ book.standing
all_booked-standing session [] book = refl
all_booked-standing session (Gain number mode ∷ ds) book = all_booked-standing session ds (booked session (Gain number mode) book)
all_booked-standing session (Alter number mode ∷ ds) book = all_booked-standing session ds (booked session (Alter number mode) book)
all_booked-standing session (Lose number ∷ ds) book = all_booked-standing session ds (booked session (Lose number) book)

module _ (session : ℕ) (deeds : List Deed) (key : KeyName) (old new : KeyName → Lock) (a b : System Definition) (does : Does session deeds key old new a b) where
  other_lists : SameElsewhere key (λ k. granted_of (old k)) (λ k. granted_of (new k))
  other_lists k away = ap granted_of (does.elsewhere k away)

  standing : (k : KeyName) → (new k).book.standing ≡ (old k).book.standing
  standing k = elim (key_told k key) [
    | inl same ↦ subst (λ j. (new j).book.standing ≡ (old j).book.standing) (sym same)
        (ap (λ (l : Lock). l.book.standing) does.here ∙ all_booked-standing session deeds (old key).book)
    | inr away ↦ ap (λ (l : Lock). l.book.standing) (does.elsewhere k away)
  ]

  pub rest : ElseSame a b
  rest = record {
    waits = does.waits;
    definitions = λ k. does.after.definitions k ∙ ap versioned (standing k) ∙ sym (does.before.definitions k);
  }

  pub granted_after : granted_of (new key) ≡ (old key).fast ++ (all_booked session deeds (old key).book).granted
  granted_after = ap granted_of does.here

  gains : (come : Ticket) → Gains come (granted_of (old key)) (granted_of (new key)) → Gains (of_lock key come) a.granted b.granted
  gains = (changes-by_lists a b (λ k. granted_of (old k)) (λ k. granted_of (new k)) key does.before.granted does.after.granted other_lists).0

  loses : (gone : Ticket) → Loses gone (granted_of (old key)) (granted_of (new key)) → Loses (of_lock key gone) a.granted b.granted
  loses = (changes-by_lists a b (λ k. granted_of (old k)) (λ k. granted_of (new k)) key does.before.granted does.after.granted other_lists).1

  replaces : (gone come : Ticket) → Replaces gone come (granted_of (old key)) (granted_of (new key)) → Replaces (of_lock key gone) (of_lock key come) a.granted b.granted
  replaces = (changes-by_lists a b (λ k. granted_of (old k)) (λ k. granted_of (new k)) key does.before.granted does.after.granted other_lists).2

-- ---- what is held and may be taken

pub held_by_own : {D : Type 0} (a : System D) (session : ℕ) (h : Holding) → Held a session h → Held a h.session h
held_by_own a session h held = subst (λ n. Held a n h) (sym held.1) held

pub grantable_by : (locks : KeyName → Lock) (a : System Definition) → Tells locks a → (session : ℕ) (key : KeyName) (mode : Mode) (noted : Option ℕ) → MayBeJoined noted (locks key)
    → MayJoin session (locks key).book noted mode → book.goes_first (books.lock_kind (locks key).book) (locks key).book.waiting session mode ≡ true → IsGrantable a session key mode
grantable_by locks a tells session key mode noted ready joins first =
    let l : Lock = locks key in
    let compatible = may_join session l.book l.fast ready.obtrusive noted mode ready.lawful ready.noted_counts joins in
    let both : book.is_grantable (books.lock_kind l.book) (granted_of l) l.book.waiting session mode ≡ true = and_from _ _ compatible first in
    (grantable-by_lists a (λ k. granted_of (locks k)) tells.granted session key mode).1
    (subst (λ ws. book.is_grantable (lock_kind key) (granted_of l) ws session mode ≡ true) (sym (tells.waiting key))
    (subst (λ (k : KeyName). book.is_grantable (lock_kind k) (granted_of l) l.book.waiting session mode ≡ true) (tells.keyed key) both))

grantable : (locks : KeyName → Lock) (a : System Definition) → Tells locks a → (session : ℕ) (key : KeyName) (mode : Mode) → MayTake session mode (locks key) a → IsGrantable a session key mode
grantable locks a tells session key mode may = grantable_by locks a tells session key mode may.noted may.ready may.joins may.first

-- ---- one that goes

pub losing_releases : LosingReleases
losing_releases session number key old new a b does t only held =
    let is = found-passes session number (old key).book.granted t only.found in
    let here = loses-behind (old key).fast (old key).book.granted (without session number (old key).book.granted) t
    (found-apart session number t is (old key).fast only.not_fast) (without-loses session number (old key).book.granted only.once t only.found) in
    record {
      held = held_by_own a session (of_lock key t) held;
      granted = loses session (Lose number ∷ []) key old new a b does t
          (subst (Loses t (granted_of (old key))) (sym (granted_after session (Lose number ∷ []) key old new a b does)) here);
      rest = rest session (Lose number ∷ []) key old new a b does;
    }

-- ---- one that comes

module _ (session number : ℕ) (mode : Mode) (key : KeyName) (old new : KeyName → Lock) (a b : System Definition) (does : Does session (Gain number mode ∷ []) key old new a b) where
  abbrev come : Ticket
  come = record { session = session; number = number; mode = mode }

  gained : Gains (of_lock key come) a.granted b.granted
  gained = gains session (Gain number mode ∷ []) key old new a b does come
      (subst (Gains come (granted_of (old key)))
      (append_assoc (old key).fast (old key).book.granted (come ∷ []) ∙ sym (granted_after session (Gain number mode ∷ []) key old new a b does))
      (push-gains (granted_of (old key)) come))

pub gaining_grants : GainingGrants
gaining_grants session number mode key old new a b does new_number may = record {
  free = may.free;
  new_number = new_number;
  grantable = grantable old a does.before session key mode may;
  granted = gained session number mode key old new a b does;
  rest = rest session (Gain number mode ∷ []) key old new a b does;
}

pub gaining_clones : GainingClones
gaining_clones session number mode key old new a b does free new_number t held least = record {
  free = free;
  new_number = new_number;
  held = held;
  same_key = refl;
  at_least = least;
  granted = gained session number mode key old new a b does;
  rest = rest session (Gain number mode ∷ []) key old new a b does;
}

-- ---- one in another mode

module _ (session number : ℕ) (mode : Mode) (key : KeyName) (old new : KeyName → Lock) (a b : System Definition) (does : Does session (Alter number mode ∷ []) key old new a b)
    (t : Ticket) (only : IsOnly session number (old key) t) where
  altered : Replaces (of_lock key t) (of_lock key (tickets.in_mode mode t)) a.granted b.granted
  altered =
      let is = found-passes session number (old key).book.granted t only.found in
      let here = replaces-behind (old key).fast (old key).book.granted (with_mode session number mode (old key).book.granted) t (tickets.in_mode mode t)
      (found-apart session number t is (old key).fast only.not_fast) (with_mode-replaces session number mode (old key).book.granted only.once t only.found) in
      replaces session (Alter number mode ∷ []) key old new a b does t (tickets.in_mode mode t)
      (subst (Replaces t (tickets.in_mode mode t) (granted_of (old key))) (sym (granted_after session (Alter number mode ∷ []) key old new a b does)) here)

pub altering_downgrades : AlteringDowngrades
altering_downgrades session number mode key old new a b does t only held weaker = record {
  held = held_by_own a session (of_lock key t) held;
  weaker = weaker;
  granted = altered session number mode key old new a b does t only;
  rest = rest session (Alter number mode ∷ []) key old new a b does;
}

pub altering_upgrades : AlteringUpgrades
altering_upgrades session number mode key old new a b does t only held may = record {
  free = subst (HasNoWait a) (sym held.1) may.free;
  held = held_by_own a session (of_lock key t) held;
  grantable = subst (λ n. IsGrantable a n key mode) (sym held.1) (grantable old a does.before session key mode may);
  granted = altered session number mode key old new a b does t only;
  rest = rest session (Alter number mode ∷ []) key old new a b does;
}
