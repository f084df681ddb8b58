-- A session that leaves pins nothing: its context gives up its wait and all its tickets, and in the end needs nothing.
use Rattle.std.proofs.Common.{◌≡◌, ℕ, false, [], ◌++◌, Option, Some, None, Ok, refl, sym, ap, ◌∙◌, subst}
use Rattle.std.specs.Prelude.{map}
use Rattle.mdl_key.specs.declared.mode.Duration.TheVariants.{Explicit}
use Rattle.mdl_calls.specs.declared.lock_space.LockSpace.{Ghosts}
use Rattle.mdl_calls.specs.MemberLaws.{LawsOf}
use Rattle.mdl_calls.specs.Words.{HasNothing, is_pinned, Each, Runs, Give, ◌>>=◌}
use Rattle.mdl_calls.proofs.FaithfulLemmas.{each_reply, each_then}
use Rattle.mdl_context.specs.declared.kept.Wanted.{Wanted}
use Rattle.mdl_context.specs.declared.request.Resume.{Resume}
use Rattle.mdl_context.specs.Contexts.{AreRising, ContextView, beyond, held_of, newest_first, of_transaction, tickets_for, without_tickets}
use Rattle.mdl_context.specs.Releases.{giving_up_all, releasing_all}
use Rattle.mdl_context.specs.Requests.{Outcome}
use Rattle.mdl_context.specs.Tidying.{is_needed, tidied, tidying, unneeded, unpinning_all}
use Rattle.mdl_context.specs.Waits.{giving_up_wait}
use Rattle.mdl_context.proofs.BeyondLemmas.{rising-kept}
use Rattle.mdl_context.proofs.GainLemmas.{idle-there}
use Rattle.mdl_context.proofs.JustLemmas.{either-way}
use Rattle.mdl_context.proofs.LeavingLemmas.{kept-all, nothing-kept}
use Rattle.mdl_rows.specs.Leavings.{leaving, leaving_from}
use Rattle.mdl_rows.specs.SessionPins.{LeaversPinNothing, PinsNothing}
use Rattle.mdl_rows.specs.Sessions.{Session}
use Rattle.mdl_rows.proofs.RowPins.{Holds, gives-up, holds-after}
use Rattle.mdl_rows.proofs.RunParts.{parted}
use Rattle.mdl_rows.proofs.WaitRuns.{stays-giving_up_wait}

-- ---- a context that gave up all

-- it keeps no ticket and has no wait
abbrev HasGivenUp : ContextView → Outcome (Unit {0}) → Type 0
HasGivenUp before outcome = (outcome.1.kept ≡ []) × (outcome.1.wait ≡ before.wait)

nothing-left : (context : ContextView) → AreRising context.kept
    → without_tickets (of_transaction context.kept ++ newest_first (tickets_for Explicit context.kept)) context.kept ≡ []
nothing-left context rising =
    let mid : ContextView = record context { kept = without_tickets (of_transaction context.kept) context.kept } in
    let left : ContextView = record mid { kept = without_tickets (beyond Explicit 0 mid.kept) mid.kept } in
    sym (ap (λ (c : ContextView). c.kept) (kept-all context mid left rising refl refl)) ∙ nothing-kept context mid left rising refl refl

gives-up-all : (context : ContextView) → AreRising context.kept → Each (HasGivenUp context) (giving_up_all context)
gives-up-all context rising =
    let gone = of_transaction context.kept ++ newest_first (tickets_for Explicit context.kept) in
    let left : ContextView = record context { kept = without_tickets gone context.kept } in
    each_then {A = Unit {0}} {B = Outcome (Unit {0})} (HasGivenUp context) (releasing_all context.who gone) (λ _. tidying (Ok tt, left))
    (λ _. each_then {A = Unit {0}} {B = Outcome (Unit {0})} (HasGivenUp context) (unpinning_all context.who (unneeded left)) (λ _. Give (Ok tt, tidied left))
    (λ _. (nothing-left context rising, refl)))

-- nothing is needed then
none-needed : (context : ContextView) (place : ℕ) → context.kept ≡ [] → context.wait ≡ None → is_needed context place ≡ false
none-needed context place kept wait = rw (kept, wait) refl

-- ---- over a space, for the session of a number

module _ {S : Type 0} (members : Ghosts S) (laws : LawsOf members) (number : ℕ) where
  -- a session has nothing, pins nothing and owes nothing
  abbrev pub IsBare : S → Type 0
  IsBare space = HasNothing (members.own space number) × PinsNothing members space number

  -- so it is where its context keeps nothing and has no wait
  bare : (b : S) (context : ContextView) → Holds members laws number b context → context.kept ≡ [] → context.wait ≡ None → IsBare b
  bare b context holds kept wait = subst (λ who. HasNothing (members.own b who) × PinsNothing members b who) holds.who (
    (
      holds.clean.attends.serves.held ∙ ap (map held_of) kept,
      idle-there (members.own b context.who) context holds.clean.attends.serves wait,
    ),
    λ place. (unpinned place, λ owes. holds.clean.just.1 place owes),
  )
    where
      unpinned : (place : ℕ) → is_pinned place (members.own b context.who) ≡ false
      unpinned place =
          either-way (is_pinned place (members.own b context.who))
          (λ pinned. let never = sym (none-needed context place kept wait) ∙ holds.clean.just.0 place pinned in absurd (cc)) (λ none. none)

  -- all tickets are released
  bare-given_up : (a b : S) (context : ContextView) (reply : Unit {0}) → Holds members laws number a context → context.wait ≡ None
      → Runs members.joins a (giving_up_all context >>= (λ _. Give tt)) reply b → IsBare b
  bare-given_up a b context reply holds idle run =
      let gone = of_transaction context.kept ++ newest_first (tickets_for Explicit context.kept) in
      let parts = parted {A = Outcome (Unit {0})} {B = Unit {0}} members.joins (giving_up_all context) (λ _. Give tt) a b reply run in
      let rising = rising-kept (members.own a context.who) context (laws.rising a context.who holds.clean.attends.speaks) holds.clean.attends.serves in
      let stays = gives-up members laws number a context holds idle gone parts.1 parts.0 parts.2 in
      let ends = each_reply members.joins (HasGivenUp context) (giving_up_all context) a parts.1 parts.0 (gives-up-all context rising) parts.2 in
      subst IsBare parts.3.1
      (bare parts.1 parts.0.1 (holds-after members laws number a parts.1 context parts.0.1 holds stays.0) ends.0 (ends.1 ∙ idle))

  bare-left : (wait : Option Wanted) (context : ContextView) (a b : S) (reply : Unit {0}) → context.wait ≡ wait → Holds members laws number a context
      → Runs members.joins a (leaving_from wait context) reply b → IsBare b
  bare-left None context a b reply idle holds run = bare-given_up a b context reply holds idle run
  bare-left (Some wanted) context a b reply waits holds run =
      let parts = parted {A = Outcome Resume} {B = Unit {0}} members.joins (giving_up_wait context) (λ outcome. giving_up_all outcome.1 >>= (λ _. Give tt)) a b reply run in
      let stays = stays-giving_up_wait members laws a parts.1 context holds.clean.attends parts.0 parts.2 in
      bare-given_up parts.1 b parts.0.1 reply (holds-after members laws number a parts.1 context parts.0.1 holds stays.0) stays.1 parts.3

  pub bare-leaving : (session : Session) (a b : S) (reply : Unit {0}) → Holds members laws number a session.context → Runs members.joins a (leaving session) reply b → IsBare b
  bare-leaving session a b reply holds run = bare-left session.context.wait session.context a b reply refl holds run

-- ---- the law

pub leavers-pin-nothing : {S : Type 0} (members : Ghosts S) (laws : LawsOf members) → LeaversPinNothing members
leavers-pin-nothing members laws session a b clean run =
    bare-leaving members laws session.context.who session a b tt (record { who = refl; clean = clean }) run
