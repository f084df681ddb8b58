-- What is read and changed under a ticket, as the system of locks says it.
use Rattle.std.proofs.Common.{◌≡◌, ℕ, ◌+◌, Bool, true, false, not, Option, Some, None, Contains, if◌then◌else◌, inl, inr, refl, sym, ap, ◌∙◌, eqb-true}
use Rattle.mdl_key.specs.declared.mode.Mode.TheVariants.{X}
use Rattle.mdl_key.specs.Words.{same_mode}
use Rattle.mdl_defs.specs.declared.change.Change.{Change}
use Rattle.mdl_defs.specs.declared.change_error.ChangeError.{ChangeError}
use Rattle.mdl_defs.specs.declared.definition.Definition.{Definition}
use Rattle.mdl_book.specs.Books.{redefining}
use Rattle.mdl_book.specs.declared.book_view.BookView.{BookView}
use Rattle.mdl_calls.specs.declared.answers.Held.{Held}
use Rattle.mdl_calls.specs.declared.space_error.SpaceError.{SpaceError}
use Rattle.mdl_calls.specs.declared.space_error.SpaceError.TheVariants.{NotHeld, NotExclusive}
use Rattle.mdl_calls.specs.Words.{Answer, Refused, Reads, Changed, Read_definition, Change_definition, cause_of, is_number}
use Rattle.mdl_core.specs.CoreJoins.{Joins}
use Rattle.mdl_core.specs.ChangeEvents.{holding_of}
use Rattle.mdl_core.specs.Changes.{redefining_at}
use Rattle.mdl_core.specs.CoreCalls.{held_ticket, reading_of, redefining_fault, redefined_unless, redefining_of}
use Rattle.mdl_core.specs.Cores.{Core, book_at, seat_at, key_at, standing_at, has_key, has_session}
use Rattle.mdl_core.specs.CoreSystems.{defined_in, system_of}
use Rattle.mdl_core.specs.SessionLaws.{HoldsBy, ReadsTellWhatStands, ChangesTellTheVersion}
use Rattle.mdl_core.specs.Ties.{IsTied}
use Rattle.mdl_core.proofs.CallCases.{exclusive-is}
use Rattle.mdl_core.proofs.CoreGranted.{book_of-at, held-in}
use Rattle.mdl_core.proofs.CoreReads.{has_key-booking, booked-same, ticket-key}
use Rattle.mdl_core.proofs.CoreServing.{found-first}
use Rattle.mdl_core.proofs.CoreSound.{calls_keep-sound}
use Rattle.mdl_core.proofs.CoreWaiting.{book-there}
use Rattle.mdl_system.specs.Words.{Holding, Versioned}

-- ---- the ticket of a number

module _ (a : Core) (who id : ℕ) (ticket : Held) (tied : IsTied a) (session : has_session who a ≡ true) (held : held_ticket who id a ≡ Some ticket) where
  among : Contains (seat_at who a).held ticket
  among = (found-first (is_number id) (seat_at who a).held ticket held).0

  -- it is held in the system, by its number
  pub holds-by : HoldsBy a who id (holding_of who ticket a)
  holds-by = (held-in a who ticket tied session among, eqb-true _ _ (found-first (is_number id) (seat_at who a).held ticket held).1)

  -- and its place has a key
  pub held-place : has_key ticket.place a ≡ true
  held-place = ticket-key a who ticket tied session (inl (inl among))

-- ---- reads

-- a read that is answered with what stands
pub read-of : (o : Option Held) (a b : Core) (version : ℕ) (definition : Option Definition) → reading_of o a ≡ (Reads version definition, b)
    → (ticket : Held) × (o ≡ Some ticket) × (defined_in (book_at ticket.place a) ≡ record { version = version; definition = definition })
read-of None a b version definition e = let clash : Refused NotHeld ≡ Reads version definition = ap (λ (x : Answer × Core). x.0) e in cc
read-of (Some ticket) a b version definition e =
    let is : Reads (standing_at ticket.place a).version (standing_at ticket.place a).definition ≡ Reads version definition = ap (λ (x : Answer × Core). x.0) e in
    let one : (standing_at ticket.place a).version ≡ version = cc in
    let two : (standing_at ticket.place a).definition ≡ definition = cc in
    (ticket, refl, (λ i. record { version = one i; definition = two i }))

-- a read changes nothing
pub read-leaves : (o : Option Held) (a b : Core) (answer : Answer) → reading_of o a ≡ (answer, b) → b ≡ a
read-leaves None a b answer e = sym (ap (λ (x : Answer × Core). x.1) e)
read-leaves (Some ticket) a b answer e = sym (ap (λ (x : Answer × Core). x.1) e)

pub reads-tell : ReadsTellWhatStands
reads-tell a b who id = (tells, leaves)
  where
    tells : (version : ℕ) (definition : Option Definition) → Joins a (Read_definition who id) (Reads version definition) b
        → (ticket : Holding) × HoldsBy a who id ticket × ((system_of a).definitions ticket.key ≡ record { version = version; definition = definition })
    tells version definition (speaks, inl none) = let e = none.1 in cc
    tells version definition (speaks, inr made) =
        let h = read-of (held_ticket who id a) a b version definition made in
        let tied = speaks.1.tied in
        let key : has_key (h.0).place a ≡ true = held-place a who id h.0 tied speaks.0 h.1 in
        (holding_of who h.0 a, holds-by a who id h.0 tied speaks.0 h.1, ap defined_in (book_of-at a (h.0).place tied key) ∙ h.2)

    leaves : (answer : Answer) → Joins a (Read_definition who id) answer b → b ≡ a
    leaves answer (speaks, inl none) = none.2
    leaves answer (speaks, inr made) = read-leaves (held_ticket who id a) a b answer made

-- ---- changes

-- what a change that is answered with a version did
pub record IsRedefined (o : Option Held) (change : Change) (a : Core) (version : ℕ) (b : Core) : Type 0 where
  pub ticket : Held
  pub held : o ≡ Some ticket
  pub exclusive : ticket.mode ≡ X
  pub free : redefining_fault ticket.place change a ≡ None
  pub counted : (standing_at ticket.place a).version + 1 ≡ version
  pub leads : redefining_at ticket.place change a ≡ b

pub redefined-of : (o : Option Held) (change : Change) (a b : Core) (version : ℕ) → redefining_of o change a ≡ (Changed version, b) → IsRedefined o change a version b
redefined-of None change a b version e = let clash : Refused NotHeld ≡ Changed version = ap (λ (x : Answer × Core). x.0) e in cc
redefined-of (Some ticket) change a b version e = by (same_mode ticket.mode X) refl (redefining_fault ticket.place change a) refl e
  where
    by : (x : Bool) → same_mode ticket.mode X ≡ x → (why : Option ChangeError) → redefining_fault ticket.place change a ≡ why
        → (if not x then (Refused NotExclusive, a) else redefined_unless why ticket.place change a) ≡ (Changed version, b)
        → IsRedefined (Some ticket) change a version b
    by false shared why is e = let clash : Refused NotExclusive ≡ Changed version = ap (λ (x : Answer × Core). x.0) e in cc
    by true exclusive (Some why) is e = let clash : Refused (cause_of why) ≡ Changed version = ap (λ (x : Answer × Core). x.0) e in cc
    by true exclusive None is e =
        let told : Changed ((standing_at ticket.place a).version + 1) ≡ Changed version = ap (λ (x : Answer × Core). x.0) e in
        record {
          ticket = ticket;
          held = refl;
          exclusive = exclusive-is ticket.mode exclusive;
          free = is;
          counted = cc;
          leads = ap (λ (x : Answer × Core). x.1) e;
        }

-- a change that is refused changes nothing
pub refused-of : (o : Option Held) (change : Change) (a b : Core) (refusal : SpaceError) → redefining_of o change a ≡ (Refused refusal, b) → b ≡ a
refused-of None change a b refusal e = sym (ap (λ (x : Answer × Core). x.1) e)
refused-of (Some ticket) change a b refusal e = by (same_mode ticket.mode X) (redefining_fault ticket.place change a) e
  where
    by : (x : Bool) (why : Option ChangeError)
        → (if not x then (Refused NotExclusive, a) else redefined_unless why ticket.place change a) ≡ (Refused refusal, b) → b ≡ a
    by false why e = sym (ap (λ (x : Answer × Core). x.1) e)
    by true (Some why) e = sym (ap (λ (x : Answer × Core). x.1) e)
    by true None e = let clash : Changed ((standing_at ticket.place a).version + 1) ≡ Refused refusal = ap (λ (x : Answer × Core). x.0) e in cc

-- what is defined under the key of a place then
pub defined-then : (a b : Core) (place : ℕ) (change : Change) → IsTied b → has_key place a ≡ true → redefining_at place change a ≡ b
    → (system_of b).definitions (key_at place a) ≡ defined_in (redefining change (book_at place a))
defined-then a b place change tied key leads =
    let book = redefining change (book_at place a) in
    let now : book_at place b ≡ book = ap (book_at place) (sym leads) ∙ booked-same a place book key in
    let still : has_key place b ≡ true = ap (has_key place) (sym leads) ∙ has_key-booking a place place book ∙ key in
    ap defined_in (book-there b place (key_at place a) tied.keys still (ap (λ (x : BookView). x.key) now) ∙ now)

pub changes-tell : ChangesTellTheVersion
changes-tell a b who id change = (tells, refused)
  where
    tells : (version : ℕ) → Joins a (Change_definition who id change) (Changed version) b
        → (ticket : Holding) × HoldsBy a who id ticket × (ticket.mode ≡ X) × (((system_of b).definitions ticket.key).version ≡ version)
    tells version (speaks, inl none) = let e = none.1 in cc
    tells version (speaks, inr made) =
        let h = redefined-of (held_ticket who id a) change a b version made in
        let tied = speaks.1.tied in
        let after = (calls_keep-sound a b (Change_definition who id change) (Changed version) speaks.1 (speaks, inr made)).tied in
        let key = held-place a who id h.ticket tied speaks.0 h.held in (
          holding_of who h.ticket a,
          holds-by a who id h.ticket tied speaks.0 h.held,
          h.exclusive,
          ap (λ (d : Versioned Definition). d.version) (defined-then a b h.ticket.place change after key h.leads) ∙ h.counted,
        )

    refused : (refusal : SpaceError) → Joins a (Change_definition who id change) (Refused refusal) b → b ≡ a
    refused refusal (speaks, inl none) = none.2
    refused refusal (speaks, inr made) = refused-of (held_ticket who id a) change a b refusal made
