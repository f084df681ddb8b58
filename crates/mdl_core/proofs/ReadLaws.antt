-- The laws of a lock space, of the space of one thread: what its sessions read and change under their tickets.
use Rattle.std.proofs.Common.{◌≡◌, ◌≢◌, ◌⊎◌, inl, inr, ℕ, zero, suc, ◌+◌, ◌≤◌, Bool, true, false, not, [], ◌∷◌, length, ◌-◌, Option, Some, None, option_map, MatchOption, IfSome, Contains, if◌then◌else◌, refl, sym, ap, subst, ◌∙◌, arith}
use Rattle.std.proofs.lemmas.Bool.Decides.{eqb_tells}
use Rattle.mdl_key.specs.Keys.{KeyName, global_key}
use Rattle.mdl_key.specs.declared.mode.Mode.TheVariants.{X}
use Rattle.mdl_key.specs.Words.{same_mode}
use Rattle.mdl_defs.specs.declared.change.Change.{Change as Redefinition}
use Rattle.mdl_defs.specs.declared.change_error.ChangeError.{ChangeError}
use Rattle.mdl_defs.specs.declared.definition.Definition.{Definition}
use Rattle.mdl_defs.specs.declared.versioned_definition.VersionedDefinition.{VersionedDefinition}
use Rattle.mdl_defs.specs.VersionedDefinitions.{standing_after, MayStand}
use Rattle.mdl_book.specs.Books.{empty_book, redefining}
use Rattle.mdl_book.specs.declared.book_view.BookView.{BookView}
use Rattle.mdl_book.specs.declared.ticket.Ticket.{Ticket}
use Rattle.mdl_calls.specs.declared.answers.Held.{Held}
use Rattle.mdl_calls.specs.declared.space_error.SpaceError.TheVariants.{NotExclusive}
use Rattle.mdl_calls.specs.declared.answers.TimedOut.TheVariants.{ByThisCall}
use Rattle.mdl_calls.specs.Words.{Answer, Granted, Waits, Victim_is, Timed_out, Lost, Has_killed, Done, Refused, Reads, Changed, Upgraded, Call, Try_now, Begin_wait, Search, Settle_timeout, End_wait, Kill, Release, Clone_ticket, Upgrade_now, Merge, Downgrade, Read_definition, Read_kept, Change_definition, caller, HoldsAt, IsChangeOf, cause_of, is_number, ticket_held, read_under, redefined_place}
use Rattle.mdl_core.specs.CoreJoins.{SpeaksFor, locks_at, Knows, HasRead, HasSeen, Joins}
use Rattle.mdl_core.specs.Ties.{IsSoundCore, in_book_of}
use Rattle.mdl_core.specs.Changes.{Change, Gain, Lose, Queue, Admit, Settle, Leave, Take_up, Alter, Fold, Redefine, after_change, book_after, redefining_at, admitting_if, admitting_up_to, next_ready}
use Rattle.mdl_core.specs.CoreCalls.{held_ticket, redefining_fault, redefined_unless, redefining_of}
use Rattle.mdl_core.specs.Cores.{Core, book_at, seat_at, key_at, standing_at, has_key, has_session, booking}
use Rattle.mdl_core.proofs.CoreReads.{within, has_key-booking, booked-same, booked-other, ticket-key}
use Rattle.mdl_core.proofs.CoreServing.{found-first}
use Rattle.mdl_core.specs.ChangeEvents.{IsChangeEvent, holding_of}
use Rattle.mdl_core.specs.CoreLaws.{IsEventOf}
use Rattle.mdl_core.proofs.KnownPlaces.{spares-opening}
use Rattle.mdl_core.proofs.CallLaws.{joins-comes, core-fits}
use Rattle.mdl_core.proofs.TiedPlacing.{standing-none}
use Rattle.mdl_core.proofs.Ways.{Way, Stay, Repin, Open, Replace, Settle_wait, Make, Made, makes_room, served_if, space_by}
use Rattle.mdl_key.specs.Words.{Clashes}
use Rattle.mdl_core.proofs.CoreGranted.{granted-of_held}
use Rattle.mdl_system.specs.Words.{ChangeDefinition, Holding, lock_kind}
use Rattle.mdl_system.proofs.HeldLemmas.{exclusive-clash}
use Rattle.std.proofs.lemmas.List.{get_or_append_left}
use Rattle.mdl_core.proofs.CoreStandings.{held-place, read-of, read-leaves, IsRedefined, redefined-of, changes-tell}

-- ---- reads

-- a ticket of a number is held at its place
held-there : (a : Core) (who id : ℕ) (ticket : Held) → held_ticket who id a ≡ Some ticket → HoldsAt ticket.place (locks_at a who)
held-there a who id ticket e = (ticket, (found-first (is_number id) (seat_at who a).held ticket e).0, refl)

same_ticket : (o : Option Held) (one other : Held) → o ≡ Some one → o ≡ Some other → one ≡ other
same_ticket o one other e f = let h = sym e ∙ f in cc

-- what is read under a ticket stands at its place
read-there : (a b : Core) (who id version : ℕ) (definition : Option Definition) (ticket : Held) → held_ticket who id a ≡ Some ticket
    → Joins a (Read_definition who id) (Reads version definition) b → HasRead b who ticket.place (record { version = version; definition = definition })
read-there a b who id version definition ticket its (speaks, inl none) = let e = none.1 in cc
read-there a b who id version definition ticket its (speaks, inr made) =
    let h = read-of (held_ticket who id a) a b version definition made in
    let same : h.0 ≡ ticket = same_ticket (held_ticket who id a) h.0 ticket h.1 its in
    let stands : standing_at (h.0).place a ≡ record { version = version; definition = definition } =
    (λ i. record { version = (h.2 i).version; definition = (h.2 i).definition }) in
    subst (λ c. HasRead c who ticket.place (record { version = version; definition = definition })) (sym (read-leaves (held_ticket who id a) a b (Reads version definition) made)) (
      held-there a who id ticket its,
      held-place a who id ticket speaks.1.tied speaks.0 its,
      ap (λ (t : Held). standing_at t.place a) (sym same) ∙ stands,
    )

-- whoever reads under a ticket has read what stands at its place
pub core-reads : (a b : Core) (call : Call) (who id version : ℕ) (definition : Option Definition) (ticket : Held)
    → caller call ≡ Some who → read_under call ≡ Some id → ticket_held id (locks_at a who) ≡ Some ticket → Joins a call (Reads version definition) b
    → HasRead b who ticket.place (record { version = version; definition = definition })
core-reads a b (Read_definition w n) who id version definition ticket mine under its joins =
    let one : w ≡ who = cc in
    let two : n ≡ id = cc in
    read-there a b who id version definition ticket its
    (subst (λ (p : ℕ × ℕ). Joins a (Read_definition p.0 p.1) (Reads version definition) b) (λ i. (one i, two i)) joins)
core-reads a b (Read_kept w n) who id version definition ticket mine under its joins =
    let one : w ≡ who = cc in
    let two : n ≡ id = cc in
    read-there a b who id version definition ticket its
    (subst (λ (p : ℕ × ℕ). Joins a (Read_definition p.0 p.1) (Reads version definition) b) (λ i. (one i, two i)) joins)
core-reads a b _ who id version definition ticket mine under its joins = cc

-- ---- changes

-- what stands under the key of a ticket is changed, and the sessions have what they had
redefined-there : (a b : Core) (who id version : ℕ) (change : Redefinition) (ticket : Held) → SpeaksFor a who → held_ticket who id a ≡ Some ticket
    → IsRedefined (held_ticket who id a) change a version b → HasRead b who ticket.place (standing_after change (standing_at ticket.place a))
redefined-there a b who id version change ticket speaks its is =
    let same : is.ticket ≡ ticket = same_ticket (held_ticket who id a) is.ticket ticket is.held its in
    let leads : redefining_at ticket.place change a ≡ b = ap (λ (t : Held). redefining_at t.place change a) (sym same) ∙ is.leads in
    let key = held-place a who id ticket speaks.1.tied speaks.0 its in
    let book = redefining change (book_at ticket.place a) in
    subst (λ c. HasRead c who ticket.place (standing_after change (standing_at ticket.place a))) leads (
      held-there a who id ticket its,
      has_key-booking a ticket.place ticket.place book ∙ key,
      ap (λ (x : BookView). x.standing) (booked-same a ticket.place book key),
    )

-- whoever changes what stands there knows what stands there then
pub core-redefines : (a b : Core) (who id version : ℕ) (change : Redefinition) (ticket : Held) → ticket_held id (locks_at a who) ≡ Some ticket
    → Joins a (Change_definition who id change) (Changed version) b
    → (definition : Option Definition) × HasRead b who ticket.place (record { version = version; definition = definition })
core-redefines a b who id version change ticket its (speaks, inl none) = let e = none.1 in cc
core-redefines a b who id version change ticket its (speaks, inr made) =
    let is = redefined-of (held_ticket who id a) change a b version made in
    let same : is.ticket ≡ ticket = same_ticket (held_ticket who id a) is.ticket ticket is.held its in
    let counted : (standing_at ticket.place a).version + 1 ≡ version = ap (λ (t : Held). (standing_at t.place a).version + 1) (sym same) ∙ is.counted in
    let after = standing_after change (standing_at ticket.place a) in (
      after.definition,
      subst (λ n. HasRead b who ticket.place (record { version = n; definition = after.definition })) counted
          (redefined-there a b who id version change ticket speaks its is),
    )

-- it is what the change makes of what stood there, or the change is refused for that
pub core-redefines_so : (a b : Core) (who id : ℕ) (change : Redefinition) (answer : Answer) (ticket : Held) (key : KeyName) (standing : VersionedDefinition)
    → ticket_held id (locks_at a who) ≡ Some ticket → same_mode ticket.mode X ≡ true → Knows a who ticket.place key → HasRead a who ticket.place standing
    → Joins a (Change_definition who id change) answer b
    → IsChangeOf key change standing answer
    × ((version : ℕ) → answer ≡ Changed version → HasRead b who ticket.place (standing_after change standing))
core-redefines_so a b who id change answer ticket key standing its exclusive knows read joins = (
  subst (λ k. IsChangeOf k change standing answer) knows.1 (subst (λ s. IsChangeOf (key_at ticket.place a) change s answer) read.2 (told joins)),
  λ version e. subst (λ s. HasRead b who ticket.place (standing_after change s)) read.2 (after version (subst (λ r. Joins a (Change_definition who id change) r b) e joins)),
)
  where
    after : (version : ℕ) → Joins a (Change_definition who id change) (Changed version) b
        → HasRead b who ticket.place (standing_after change (standing_at ticket.place a))
    after version (speaks, inl none) = let e = none.1 in cc
    after version (speaks, inr made) = redefined-there a b who id version change ticket speaks its (redefined-of (held_ticket who id a) change a b version made)

    by : (why : Option ChangeError) → redefined_unless why ticket.place change a ≡ (answer, b)
        → MatchOption why (answer ≡ Changed ((standing_at ticket.place a).version + 1)) (λ why. answer ≡ Refused (cause_of why))
    by None e = sym (ap (λ (x : Answer × Core). x.0) e)
    by (Some why) e = sym (ap (λ (x : Answer × Core). x.0) e)

    told : Joins a (Change_definition who id change) answer b → IsChangeOf (key_at ticket.place a) change (standing_at ticket.place a) answer
    told (speaks, inl none) = inl none.1
    told (speaks, inr made) =
        let of_it : redefining_of (Some ticket) change a ≡ (answer, b) = subst (λ o. redefining_of o change a ≡ (answer, b)) its made in
        let made_so : redefined_unless (redefining_fault ticket.place change a) ticket.place change a ≡ (answer, b) =
        subst (λ x. (if not x then (Refused NotExclusive, a) else redefined_unless (redefining_fault ticket.place change a) ticket.place change a) ≡ (answer, b)) exclusive of_it in
        inr (by (redefining_fault ticket.place change a) made_so)

-- one thing stands at a place
pub core-reads_one : (a : Core) (w place : ℕ) (one other : VersionedDefinition) → SpeaksFor a w → HasRead a w place one → HasRead a w place other → one ≡ other
core-reads_one a w place one other speaks read again = sym read.2 ∙ again.2

-- what stands may stand under its key
pub core-reads_fit : (a : Core) (w place : ℕ) (key : KeyName) (standing : VersionedDefinition) → SpeaksFor a w → Knows a w place key → HasRead a w place standing
    → MayStand key.namespace standing
core-reads_fit a w place key standing speaks knows read =
    subst (λ k. MayStand k.namespace standing) knows.1 (subst (MayStand (key_at place a).namespace) read.2 (speaks.1.standing place read.1))

-- ---- what stays

-- a place has its key still, and the same stands there
abbrev pub Keeps : ℕ → Core → Core → Type 0
Keeps place a b = (has_key place b ≡ true) × (standing_at place b ≡ standing_at place a)

keeps-then : (place : ℕ) (a b c : Core) → Keeps place a b → Keeps place b c → Keeps place a c
keeps-then place a b c early late = (late.0, late.1 ∙ early.1)

-- a book is written in which the same stands
keeps-booking : (core : Core) (place : ℕ) (book : BookView) → has_key place core ≡ true → book.standing ≡ standing_at place core
    → (other : ℕ) → has_key other core ≡ true → Keeps other core (booking place book core)
keeps-booking core place book key same other has = (
  has_key-booking core place other book ∙ has,
  elim (eqb_tells other place) [
    | inl e ↦ subst (λ p. standing_at p (booking place book core) ≡ standing_at p core) (sym e.1)
        (ap (λ (x : BookView). x.standing) (booked-same core place book key) ∙ same)
    | inr e ↦ ap (λ (x : BookView). x.standing) (booked-other core place other book key has e.1)
  ],
)

-- any change but of what stands there
abbrev is_redefining : Change → Bool
is_redefining (Redefine ticket change) = true
is_redefining _ = false

keeps-changing : (a : Core) (who place : ℕ) (change : Change) → has_key place a ≡ true → is_redefining change ≡ false
    → (other : ℕ) → has_key other a ≡ true → Keeps other a (after_change who place change a)
keeps-changing a who place (Gain mode) key apart other has = keeps-booking a place (book_after who (seat_at who a) (Gain mode) (book_at place a)) key refl other has
keeps-changing a who place (Lose ticket) key apart other has = keeps-booking a place (book_after who (seat_at who a) (Lose ticket) (book_at place a)) key refl other has
keeps-changing a who place (Queue mode) key apart other has = keeps-booking a place (book_after who (seat_at who a) (Queue mode) (book_at place a)) key refl other has
keeps-changing a who place (Admit ticket) key apart other has = keeps-booking a place (book_after who (seat_at who a) (Admit ticket) (book_at place a)) key refl other has
keeps-changing a who place (Settle how) key apart other has = (has, refl)
keeps-changing a who place (Leave wait) key apart other has = keeps-booking a place (book_after who (seat_at who a) (Leave wait) (book_at place a)) key refl other has
keeps-changing a who place (Take_up wait) key apart other has = (has, refl)
keeps-changing a who place (Alter ticket mode) key apart other has = keeps-booking a place (book_after who (seat_at who a) (Alter ticket mode) (book_at place a)) key refl other has
keeps-changing a who place (Fold old new) key apart other has = keeps-booking a place (book_after who (seat_at who a) (Fold old new) (book_at place a)) key refl other has
keeps-changing a who place (Redefine ticket change) key apart other has = cc

-- granting waiters
keeps-admitting : (place : ℕ) (o : Option Ticket) (a : Core) → has_key place a ≡ true → (other : ℕ) → has_key other a ≡ true → Keeps other a (admitting_if place o a)
keeps-admitting place None a key other has = (has, refl)
keeps-admitting place (Some ticket) a key other has = keeps-changing a ticket.session place (Admit ticket) key refl other has

keeps-up_to : (n place : ℕ) (a : Core) → has_key place a ≡ true → (other : ℕ) → has_key other a ≡ true → Keeps other a (admitting_up_to n place a)
unfolding admitting_up_to
keeps-up_to zero place a key other has = (has, refl)
keeps-up_to (suc more) place a key other has =
    let o = next_ready place a in
    let first = keeps-admitting place o a key other has in
    keeps-then other a (admitting_if place o a) (admitting_up_to more place (admitting_if place o a)) first
    (keeps-up_to more place (admitting_if place o a) (keeps-admitting place o a key place key).0 other first.0)

keeps-serving : (room : Bool) (place : ℕ) (a : Core) → has_key place a ≡ true → (other : ℕ) → has_key other a ≡ true → Keeps other a (served_if room place a)
keeps-serving true place a key other has = keeps-up_to _ place a key other has
keeps-serving false place a key other has = (has, refl)

-- a call that changes no definition
abbrev changes_definition : Call → Bool
changes_definition (Change_definition who id change) = true
changes_definition _ = false

-- isn't the event of one that does
no_redefinition : (a : Core) (call : Call) (answer : Answer) (ticket : Holding) (change : Redefinition) → changes_definition call ≡ false
    → IsEventOf a call answer (ChangeDefinition ticket change) → ⊥
no_redefinition a (Try_now who place mode) (Granted id) ticket change apart is = cc
no_redefinition a (Begin_wait who place mode) (Granted id) ticket change apart is = cc
no_redefinition a (Begin_wait who place mode) (Waits number) ticket change apart is = let e = is.1 in cc
no_redefinition a (Search who) (Victim_is victim) ticket change apart is = let e = is.3 in cc
no_redefinition a (Settle_timeout who) (Timed_out ByThisCall) ticket change apart is = let e = is.3 in cc
no_redefinition a (End_wait who) (Granted id) ticket change apart is = let e = is.1 in cc
no_redefinition a (End_wait who) (Lost how) ticket change apart is = let e = is.4 in cc
no_redefinition a (Kill target number) (Has_killed true) ticket change apart is = let e = is.4 in cc
no_redefinition a (Release who id) Done ticket change apart is = let e = is.3 in cc
no_redefinition a (Clone_ticket who id mode) (Granted copy) ticket change apart is = let e = is.3 in cc
no_redefinition a (Upgrade_now who id mode) Upgraded ticket change apart is = let e = is.3 in cc
no_redefinition a (Merge who old new) Done ticket change apart is = let e = is.6 in cc
no_redefinition a (Downgrade who id mode) Done ticket change apart is = let e = is.3 in cc
no_redefinition a (Change_definition who id change) (Changed version) ticket other apart is = cc
no_redefinition a call answer ticket change apart is = is

-- by any way of such a call
keeps-way : (a : Core) (call : Call) (answer : Answer) (way : Way) → IsSoundCore a → Made a call answer way → changes_definition call ≡ false
    → (other : ℕ) → has_key other a ≡ true → Keeps other a (space_by way a)
keeps-way a call answer Stay sound made apart other has = (has, refl)
keeps-way a call answer (Repin who pins) sound made apart other has = (has, refl)
keeps-way a call answer (Open who key) sound made apart other has =
    let keeps = (spares-opening a key).keys other has in
    let h = within other (length a.books) has in (
      keeps.0,
      ap (λ (x : BookView). x.standing) (get_or_append_left a.books (empty_book key ∷ []) (empty_book global_key) (other - 1) (omega (arith, h.0, h.1))),
    )
keeps-way a call answer (Replace who place key) sound made apart other has =
    let none = standing-none a place key sound.tied made.is_way.2 made.is_way.3 made.is_way.1 sound.standing in
    keeps-booking a place (empty_book key) made.is_way.2 (sym none) other has
keeps-way a call answer (Settle_wait who place how) sound made apart other has = (has, refl)
keeps-way a call answer (Make who place change) sound made apart other has =
    keeps-then other a (after_change who place change a) (space_by (Make who place change) a) (mid other has)
    (keeps-serving (makes_room change) place (after_change who place change a) (mid place key).0 other (mid other has).0)
  where
    key : has_key place a ≡ true
    key = made.is_way.0.may.key

    not_redefining : (c : Change) → IsChangeEvent who place c a made.is_way.0.event → is_redefining c ≡ false
    not_redefining (Redefine ticket redefinition) is =
        absurd (no_redefinition a call answer (holding_of who ticket a) redefinition apart (subst (IsEventOf a call answer) is made.is_way.0.call_is))
    not_redefining _ is = refl

    mid : (p : ℕ) → has_key p a ≡ true → Keeps p a (after_change who place change a)
    mid p has = keeps-changing a who place change key (not_redefining change made.is_way.0.change_is) p has

-- a call changed what stands at a place, under its caller's exclusive ticket there
record IsChanged (a b : Core) (call : Call) (answer : Answer) (place : ℕ) : Type 0 where
  who : ℕ
  change : Redefinition
  ticket : Held
  mine : caller call ≡ Some who
  there : redefined_place call answer (locks_at a who) ≡ Some place
  held : Contains (seat_at who a).held ticket
  at : ticket.place ≡ place
  exclusive : ticket.mode ≡ X
  same : (w : ℕ) → locks_at b w ≡ locks_at a w
  key : has_key place b ≡ true
  after : standing_at place b ≡ standing_after change (standing_at place a)

-- what a change leaves at a place
changed-at : (a b : Core) (who id : ℕ) (change : Redefinition) (version : ℕ) → SpeaksFor a who → IsRedefined (held_ticket who id a) change a version b
    → (place : ℕ) → has_key place a ≡ true → Keeps place a b ⊎ IsChanged a b (Change_definition who id change) (Changed version) place
changed-at a b who id change version speaks is place has = elim (eqb_tells place is.ticket.place) [
  | inr e ↦ inl (subst (Keeps place a) is.leads (
    has_key-booking a is.ticket.place place book ∙ has,
    ap (λ (x : BookView). x.standing) (booked-other a is.ticket.place place book key has e.1),
  ))
  | inl e ↦ inr (record {
    who = who;
    change = change;
    ticket = is.ticket;
    mine = refl;
    there = ap (option_map (λ (t : Held). t.place)) is.held ∙ ap Some (sym e.1);
    held = (found-first (is_number id) (seat_at who a).held is.ticket is.held).0;
    at = sym e.1;
    exclusive = is.exclusive;
    same = λ w. ap (λ c. locks_at c w) (sym is.leads);
    key = ap (has_key place) (sym is.leads) ∙ has_key-booking a is.ticket.place place book ∙ has;
    after = ap (standing_at place) (sym is.leads)
        ∙ subst (λ p. standing_at p (redefining_at is.ticket.place change a) ≡ standing_after change (standing_at p a)) (sym e.1)
        (ap (λ (x : BookView). x.standing) (booked-same a is.ticket.place book key));
  })
]
  where
    book : BookView
    book = redefining change (book_at is.ticket.place a)

    key : has_key is.ticket.place a ≡ true
    key = held-place a who id is.ticket speaks.1.tied speaks.0 is.held

-- so after each call the same stands at a place, or it was changed
kept : (a b : Core) (call : Call) (answer : Answer) → IsSoundCore a → Joins a call answer b → (place : ℕ) → has_key place a ≡ true
    → Keeps place a b ⊎ IsChanged a b call answer place
kept a b (Change_definition who id change) answer sound joins place has = by answer joins
  where
    by : (r : Answer) → Joins a (Change_definition who id change) r b → Keeps place a b ⊎ IsChanged a b (Change_definition who id change) r place
    by (Changed version) (speaks, inl none) = let e = none.1 in cc
    by (Changed version) (speaks, inr made) =
        changed-at a b who id change version speaks (redefined-of (held_ticket who id a) change a b version made) place has
    by (Refused refusal) j = let same = (changes-tell a b who id change).1 refusal j in inl (subst (Keeps place a) (sym same) (has, refl))
    by r j = let e = core-fits a b (Change_definition who id change) r j in cc
kept a b call answer sound joins place has =
    let h = joins-comes a b call answer sound.tied joins in
    inl (subst (Keeps place a) h.leads (keeps-way a call answer h.way sound h.is refl place has))

-- ---- laws of what was read

-- where one session holds a ticket exclusively, no other session holds one
exclusive-alone : (a : Core) (w who : ℕ) (one other : Held) → SpeaksFor a w → has_session who a ≡ true → w ≢ who
    → Contains (seat_at w a).held one → Contains (seat_at who a).held other → one.place ≡ other.place → other.mode ≡ X → ⊥
exclusive-alone a w who one other speaks session apart mine theirs here exclusive =
    let tied = speaks.1.tied in
    let granted = granted-of_held a w one tied speaks.0 mine in
    let place = ticket-key a w one tied speaks.0 (inl (inl mine)) in
    let fits = (tied.granted_by one.place place (in_book_of w one) ((tied.granted w one speaks.0 place).1 (inl mine))).1 in
    let clash : Clashes (lock_kind (key_at one.place a)) other.mode one.mode =
    subst (λ m. Clashes (lock_kind (key_at one.place a)) m one.mode) (sym exclusive) (exclusive-clash (lock_kind (key_at one.place a)) one.mode fits) in
    speaks.1.lawful (holding_of who other a) (holding_of w one a) (granted-of_held a who other tied session theirs) granted
    (ap (λ p. key_at p a) (sym here)) (λ e. apart (sym e)) (subst (λ p. Clashes (lock_kind (key_at p a)) other.mode one.mode) here clash)

-- what was read stands as long as a ticket is held, unless the session itself changes it
pub core-stands : (a b : Core) (call : Call) (answer : Answer) (w place : ℕ) (standing : VersionedDefinition) → SpeaksFor a w
    → (caller call ≡ Some w → redefined_place call answer (locks_at a w) ≡ Some place → ⊥) → HoldsAt place (locks_at b w) → Joins a call answer b
    → HasRead a w place standing → HasRead b w place standing
core-stands a b call answer w place standing speaks other holds joins read = by (kept a b call answer speaks.1 joins place read.1)
  where
    by : Keeps place a b ⊎ IsChanged a b call answer place → HasRead b w place standing
    by (inl same) = (holds, same.0, same.1 ∙ read.2)
    by (inr is) = elim (eqb_tells w is.who) [
      | inl e ↦ absurd (other (is.mine ∙ ap Some (sym e.1)) (subst (λ v. redefined_place call answer (locks_at a v) ≡ Some place) (sym e.1) is.there))
      | inr e ↦ absurd (exclusive-alone a w is.who read.0.0 is.ticket speaks
          (subst (λ (o : Option ℕ). IfSome o (SpeaksFor a)) is.mine joins.0).0 e.1 read.0.1 is.held (read.0.2 ∙ sym is.at) is.exclusive)
    ]

-- what is read is seen
pub core-sees : (a : Core) (w place : ℕ) (standing : VersionedDefinition) → SpeaksFor a w → HasRead a w place standing → HasSeen a w place standing.version
core-sees a w place standing speaks read = let e = ap (λ (s : VersionedDefinition). s.version) read.2 in (read.1, omega (arith, e))

-- what was seen was seen
pub core-seen_stays : (a b : Core) (call : Call) (answer : Answer) (w place version : ℕ) → SpeaksFor a w → Joins a call answer b
    → HasSeen a w place version → HasSeen b w place version
core-seen_stays a b call answer w place version speaks joins seen = by (kept a b call answer speaks.1 joins place seen.0)
  where
    by : Keeps place a b ⊎ IsChanged a b call answer place → HasSeen b w place version
    by (inl same) = let e = ap (λ (s : VersionedDefinition). s.version) same.1 in (same.0, omega (arith, e, seen.1))
    by (inr is) = let e = ap (λ (s : VersionedDefinition). s.version) is.after in (is.key, omega (arith, e, seen.1))

-- no version is read below one that was seen
pub core-seen_below : (a : Core) (w place version : ℕ) (standing : VersionedDefinition) → SpeaksFor a w → HasSeen a w place version
    → HasRead a w place standing → version ≤ standing.version
core-seen_below a w place version standing speaks seen read = let e = ap (λ (s : VersionedDefinition). s.version) read.2 in omega (arith, e, seen.1)
