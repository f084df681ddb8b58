-- A session pins just the places where its context has something: how calls keep it so.
use Rattle.std.proofs.Common.{◌≡◌, ℕ, Bool, true, false, List, [], ◌∷◌, Option, Some, None, Result, inl, inr, refl, sym, ap, ◌∙◌, subst, arith}
use Rattle.std.specs.Prelude.{All, map, ◌==◌, ◌||◌}
use Rattle.std.specs.List.{list_any}
use Rattle.std.specs.Option.{IfSome, option_map_or}
use Rattle.std.proofs.lemmas.Bool.Decides.{nat_tests}
use Rattle.std.proofs.lemmas.List.Elements.{All-head, All-tail}
use Rattle.mdl_key.specs.Keys.{KeyName}
use Rattle.mdl_calls.specs.Words.{Answer, AwaitsAt, Begin_wait, Call, Clone_ticket, Done, Downgrade, End_wait, Granted, HoldsAt, Lost, Merge, Release, Resolve, Try_now, Unpin, Upgrade_now, Upgraded, Waits, SessionLocks, caller, cloning, is_pinned, own_after, ticket_held, winning, EachCall, Program, Runs, Give, Ask, Grow, ◌>>=◌}
use Rattle.mdl_calls.specs.SessionLocks.{merging}
use Rattle.mdl_calls.specs.declared.lock_space.LockSpace.{Ghosts}
use Rattle.mdl_calls.specs.MemberLaws.{LawsOf}
use Rattle.mdl_context.specs.declared.context_error.ContextError.{ContextError}
use Rattle.mdl_context.specs.declared.kept.Kept.{Kept}
use Rattle.mdl_context.specs.declared.kept.Wanted.{Wanted}
use Rattle.mdl_context.specs.Contexts.{ContextView, Attends, IsAwaited, Serves, is_known_place}
use Rattle.mdl_context.specs.Holdings.{is_kept_at}
use Rattle.mdl_context.specs.Requests.{Outcome}
use Rattle.mdl_context.specs.Tidying.{IsTidy, PinsJustNeeded, StaysTidy, is_needed, tidied, tidying, unneeded, unpinning_all}
use Rattle.mdl_context.proofs.StayTidyLemmas.{NeedsMore, tidy-more}
use Rattle.mdl_context.proofs.TidyLemmas.{GaveUp, awaits-back, debts-run, gave-up-pins, goes-among, holds-back, is-tidy, no-ticket, no-wait-there}

-- ---- which places are needed, and which are known

-- a test is true or false
pub either-way : {A : Type 0} (b : Bool) → (b ≡ true → A) → (b ≡ false → A) → A
either-way true one other = one refl
either-way false one other = other refl

-- what passes for all known places passes for each
known-passes : (q : ℕ → Bool) (known : List (KeyName × ℕ)) (place : ℕ) → All (λ entry. q entry.1 ≡ true) known → is_known_place known place ≡ true → q place ≡ true
known-passes q [] place all there = cc
known-passes q (e ∷ es) place all there =
    either-way (e.1 == place)
    (λ same. subst (λ x. q x ≡ true) (let is : e.1 ≡ place = grind (arith, nat_tests) in is) (All-head (λ (x : KeyName × ℕ). q x.1 ≡ true) e es all))
    (λ apart. known-passes q es place (All-tail (λ (x : KeyName × ℕ). q x.1 ≡ true) e es all) (grind (arith, there, apart)))

-- a ticket is at a known place
kept-known : (known : List (KeyName × ℕ)) (kept : List Kept) (place : ℕ) → All (λ ticket. is_known_place known ticket.place ≡ true) kept
    → list_any (is_kept_at place) kept ≡ true → is_known_place known place ≡ true
kept-known known [] place all there = cc
kept-known known (t ∷ ts) place all there =
    either-way (t.place == place)
    (λ same. subst (λ x. is_known_place known x ≡ true) (let is : t.place ≡ place = grind (arith, nat_tests) in is)
    (All-head (λ (x : Kept). is_known_place known x.place ≡ true) t ts all))
    (λ apart. kept-known known ts place (All-tail (λ (x : Kept). is_known_place known x.place ≡ true) t ts all) (grind (arith, there, apart)))

-- so is the wait
wait-known : (known : List (KeyName × ℕ)) (kept : List Kept) (wait : Option Wanted) (place : ℕ) → IfSome wait (IsAwaited known kept)
    → option_map_or (λ wanted. wanted.place == place) wait false ≡ true → is_known_place known place ≡ true
wait-known known kept None place wish there = cc
wait-known known kept (Some wanted) place wish there =
    subst (λ x. is_known_place known x ≡ true) (let is : wanted.place ≡ place = grind (arith, nat_tests, there) in is) wish.0

-- ---- calls that leave the pins

-- whether a call neither looks up a place nor gives up a pin
abbrev pub leaves_pins : Call → Bool
leaves_pins (Resolve who key) = false
leaves_pins (Unpin who place) = false
leaves_pins _ = true

-- such a call of the session
abbrev pub LeavesPins : ℕ → Call → Type 0
LeavesPins who call = (caller call ≡ Some who) × (leaves_pins call ≡ true)

-- the pins are the same afterwards
pins-left : (call : Call) (answer : Answer) (own : SessionLocks) → leaves_pins call ≡ true → (own_after call answer own).pins ≡ own.pins
pins-left (Resolve who key) answer own stays = cc
pins-left (Unpin who place) answer own stays = cc
pins-left (Try_now who at mode) (Granted id) own stays = refl
pins-left (Begin_wait who at mode) (Granted id) own stays = refl
pins-left (Begin_wait who at mode) (Waits number) own stays = refl
pins-left (End_wait who) (Granted id) own stays = elim own.wait as (λ o. (winning id o own).pins ≡ own.pins) [ None ↦ refl | Some wait ↦ refl ]
pins-left (End_wait who) (Lost how) own stays = refl
pins-left (Release who id) Done own stays = refl
pins-left (Clone_ticket who id mode) (Granted copy) own stays = elim (ticket_held id own) as (λ o. (cloning copy mode o own).pins ≡ own.pins) [ None ↦ refl | Some t ↦ refl ]
pins-left (Merge who old new) Done own stays = elim (ticket_held new own) as (λ o. (merging old new o own).pins ≡ own.pins) [ None ↦ refl | Some t ↦ refl ]
pins-left (Upgrade_now who id mode) Upgraded own stays = refl
pins-left (Downgrade who id mode) Done own stays = refl
pins-left _ _ own stays = refl

-- where the pins are the same, the same places are pinned
pub pinned-same : (before after : SessionLocks) (place : ℕ) → after.pins ≡ before.pins → is_pinned place after ≡ is_pinned place before
pinned-same before after place same = ap (λ (pins : List ℕ). list_any (λ pin. pin == place) pins) same

-- a run of one program and then of what its reply leads to is a run of each
runs-parted : {S A B : Type 0} (joins : S → Call → Answer → S → Type 0) (first : Program A) (next : A → Program B) (a b : S) (reply : B)
    → Runs joins a (first >>= next) reply b → (x : A) × (mid : S) × Runs joins a first x mid × Runs joins mid (next x) reply b
runs-parted joins (Give x) next a b reply run = (x, a, (refl, refl), run)
runs-parted joins (Ask call more) next a b reply (answer, then, step, run) =
    let rest = runs-parted joins (more answer) next then b reply run in
    (rest.0, rest.1, (answer, then, step, rest.2), rest.3)
runs-parted joins (Grow refused found) next a b reply (inl run) =
    let rest = runs-parted joins refused next a b reply run in
    (rest.0, rest.1, inl rest.2, rest.3)
runs-parted joins (Grow refused found) next a b reply (inr run) =
    let rest = runs-parted joins found next a b reply run in
    (rest.0, rest.1, inr rest.2, rest.3)

-- ---- over a space

module _ {S : Type 0} (members : Ghosts S) (laws : LawsOf members) where
  -- the session pins only places that the context knows, and owes no reschedule
  pub record PinsJustKnown (space : S) (context : ContextView) : Type 0 where
    pub pins : (place : ℕ) → is_pinned place (members.own space context.who) ≡ true → is_known_place context.known place ≡ true
    pub owes : (place : ℕ) → members.owes space context.who place → ⊥

  module _ (space : S) (context : ContextView) where
    -- where the context needs a place, it knows it
    pub needed-known : Attends members space context → (place : ℕ) → is_needed context place ≡ true → is_known_place context.known place ≡ true
    needed-known attends place needed =
        either-way (list_any (is_kept_at place) context.kept) (λ here. kept-known context.known context.kept place attends.places here)
        (λ out. wait-known context.known context.kept context.wait place attends.wish (grind (arith, needed, out)))

    -- a session that pins just what its context needs, pins just what it knows, and all that it knows is needed
    pub just-known : Attends members space context → PinsJustNeeded members space context → PinsJustKnown space context
    just-known attends just = record {
      pins = λ place pinned. needed-known attends place (just.0 place pinned);
      owes = just.1;
    }

    pub just-tidy : Attends members space context → PinsJustNeeded members space context → IsTidy context
    just-tidy attends just k d inside = just.0 _ (attends.pinned k d inside)

    -- and the other way round
    pub known-just : IsTidy context → PinsJustKnown space context → PinsJustNeeded members space context
    known-just tidy known = (λ place pinned. known-passes (is_needed context) context.known place tidy (known.pins place pinned), known.owes)

  -- ---- runs

  -- a session still pins the same places, and owes no reschedule that it didn't owe
  pub record SamePins (who : ℕ) (a b : S) : Type 0 where
    pub speaks : members.speaks_for b who
    pub pins : (members.own b who).pins ≡ (members.own a who).pins
    pub owes : (place : ℕ) → members.owes b who place → members.owes a who place

  pub same-pins : (who : ℕ) (a : S) → members.speaks_for a who → SamePins who a a
  same-pins who a speaks = record { speaks = speaks; pins = refl; owes = λ place owes. owes }

  pub same-call : (who : ℕ) (a mid b : S) (call : Call) (answer : Answer) → SamePins who a mid → LeavesPins who call → members.joins mid call answer b → SamePins who a b
  same-call who a mid b call answer same made step = record {
    speaks = laws.keeps mid b call answer who same.speaks step;
    pins = ap (λ (o : SessionLocks). o.pins) (laws.changes mid b call answer who made.0 step) ∙ pins-left call answer (members.own mid who) made.1 ∙ same.pins;
    owes = λ place owes. same.owes place (laws.no_new_debts mid b call answer who place same.speaks step owes);
  }

  -- ---- a context that is tidied

  -- once the pins are given up of the known places where the context has nothing, the session pins just the others, if it pinned only known ones
  pub tidied-just : (a b : S) (context : ContextView) → members.speaks_for a context.who → Serves (members.own b context.who) (tidied context)
      → PinsJustKnown a context → Runs members.joins a (unpinning_all context.who (unneeded context)) tt b → PinsJustNeeded members b (tidied context)
  tidied-just a b context speaks serves known run = (needed, λ place owes. known.owes place (debts-run members laws (unpinning_all context.who (unneeded context)) a b tt context.who speaks run place owes)) where
    end : GaveUp members laws context.who (unneeded context) a b
    end = gave-up-pins members laws context.who (unneeded context) a b speaks run

    needed : (place : ℕ) → is_pinned place (members.own b context.who) ≡ true → is_needed (tidied context) place ≡ true
    needed place pinned = either-way (is_needed context place) (λ yes. yes) (λ spare. absurd (no spare)) where
      there : is_pinned place (members.own a context.who) ≡ true
      there = either-way (is_pinned place (members.own a context.who)) (λ yes. yes) (λ out. let gone = sym pinned ∙ end.fewer place out in cc)

      no : is_needed context place ≡ false → ⊥
      no spare =
          let own = members.own b context.who in
          let then = members.own a context.who in
          let unheld = λ (holds : HoldsAt place then). no-ticket own (tidied context) serves place spare (holds-back members laws place own then (sym end.held) holds) in
          let unawaited = λ (awaits : AwaitsAt place then). no-wait-there own (tidied context) serves place spare (awaits-back members laws place own then (sym end.wait) awaits) in
          elim (end.gone place (goes-among (is_needed context) place context.known (known.pins place there) spare) unheld unawaited) [
            | inl out ↦ let gone = sym pinned ∙ out in cc
            | inr owes ↦ known.owes place owes
          ]

-- ---- contexts that need as much

-- a context is the same session's, knows the same places, and needs each place that it needed
pub record NeedsAsMuch (before after : ContextView) : Type 0 where
  pub who : after.who ≡ before.who
  pub known : after.known ≡ before.known
  pub needs : NeedsMore before after

-- each place where a ticket was kept is one where a ticket is kept
kept-changed : (f : Kept → Kept) → ((t : Kept) → (f t).place ≡ t.place) → (kept : List Kept) (place : ℕ) → list_any (is_kept_at place) (map f kept) ≡ list_any (is_kept_at place) kept
kept-changed f same [] place = refl
kept-changed f same (t ∷ ts) place = grind (arith, same t, kept-changed f same ts place)

-- changed tickets are at the same places
pub needs-changed : (f : Kept → Kept) → ((t : Kept) → (f t).place ≡ t.place) → (before after : ContextView) → after.who ≡ before.who → after.known ≡ before.known
    → after.kept ≡ map f before.kept → after.wait ≡ before.wait → NeedsAsMuch before after
needs-changed f same before after who known kept wait = record {
  who = who;
  known = known;
  needs = λ place needed.
      ap (λ (ts : List Kept). list_any (is_kept_at place) ts || option_map_or (λ wanted. wanted.place == place) after.wait false) kept
      ∙ ap (λ (b : Bool). b || option_map_or (λ wanted. wanted.place == place) after.wait false) (kept-changed f same before.kept place)
      ∙ ap (λ (w : Option Wanted). list_any (is_kept_at place) before.kept || option_map_or (λ wanted. wanted.place == place) w false) wait
      ∙ needed;
}

-- so it stays tidy, and the session goes on to pin just what it needs
pub stays-over : {S : Type 0} (members : Ghosts S) (a b : S) (before after : ContextView) → NeedsAsMuch before after
    → (members.own b before.who).pins ≡ (members.own a before.who).pins → ((place : ℕ) → members.owes b before.who place → members.owes a before.who place)
    → StaysTidy members a before b after
stays-over members a b before after same pins owes = (
  tidy-more before after same.known same.needs,
  λ just. subst (λ who. JustOf who) (sym same.who) (
    λ place pinned. same.needs place (just.0 place (sym (pinned-same (members.own a before.who) (members.own b before.who) place pins) ∙ pinned)),
    λ place owed. just.1 place (owes place owed),
  ),
)
  where
    JustOf : ℕ → Type 0
    JustOf who = ((place : ℕ) → is_pinned place (members.own b who) ≡ true → is_needed after place ≡ true) × ((place : ℕ) → members.owes b who place → ⊥)

-- ---- programs that leave no pin behind

module _ {S : Type 0} (members : Ghosts S) (laws : LawsOf members) (a : S) (before : ContextView) (attends : Attends members a before) where
  -- whenever such a program is run after calls that leave the pins, no pin is left behind
  abbrev pub LeavesNone : {A : Type 0} → Program (Outcome A) → Type 0
  LeavesNone {A} program =
      (mid b : S) (reply : Outcome A) → SamePins members laws before.who a mid → Runs members.joins mid program reply b → Attends members b reply.1
      → StaysTidy members a before b reply.1

  -- the context has something at all places where it had something
  pub none-gives : {A : Type 0} (reply : Result A ContextError) (after : ContextView) → NeedsAsMuch before after → LeavesNone {A = A} (Give (reply, after))
  none-gives reply after more mid b end same (is, here) there =
      subst (λ (o : Outcome _). StaysTidy members a before b o.1) is
      (subst (λ s. StaysTidy members a before s after) here (stays-over members a mid before after more same.pins same.owes))

  pub none-asks : {A : Type 0} (call : Call) (next : Answer → Program (Outcome A)) → LeavesPins before.who call
      → ((answer : Answer) → LeavesNone {A = A} (next answer)) → LeavesNone {A = A} (Ask call next)
  none-asks call next made then mid b end same (answer, after, step, run) there =
      then answer after b end (same-call members laws before.who a mid after call answer same made step) run there

  pub none-grows : {A : Type 0} (refused found : Program (Outcome A)) → LeavesNone {A = A} refused → LeavesNone {A = A} found → LeavesNone {A = A} (Grow refused found)
  none-grows refused found one other mid b end same (inl run) there = one mid b end same run there
  none-grows refused found one other mid b end same (inr run) there = other mid b end same run there

  pub none-then : {A B : Type 0} (first : Program A) (next : A → Program (Outcome B)) → EachCall (LeavesPins before.who) first
      → ((x : A) → LeavesNone {A = B} (next x)) → LeavesNone {A = B} (first >>= next)
  none-then (Give x) next made then = then x
  none-then {A} {B} (Ask call more) next made then =
      none-asks {A = B} call (λ answer. more answer >>= next) made.0 (λ answer. none-then {A = A} {B = B} (more answer) next (made.1 answer) then)
  none-then {A} {B} (Grow refused found) next made then =
      none-grows {A = B} (refused >>= next) (found >>= next) (none-then {A = A} {B = B} refused next made.0 then) (none-then {A = A} {B = B} found next made.1 then)

  -- or lets go of those where it has nothing now
  pub none-tidies : {A : Type 0} (reply : Result A ContextError) (after : ContextView) → after.who ≡ before.who → after.known ≡ before.known
      → LeavesNone {A = A} (tidying (reply, after))
  none-tidies {A} reply after who known mid b end same run there = subst (λ (o : Outcome A). StaysTidy members a before b o.1) is (λ _. is-tidy after, ends) where
    parts : (x : Unit {0}) × (then : S) × Runs members.joins mid (unpinning_all after.who (unneeded after)) x then × (((reply, tidied after) ≡ end) × (then ≡ b))
    parts = runs-parted {B = Outcome A} members.joins (unpinning_all after.who (unneeded after)) (λ _. Give (reply, tidied after)) mid b end run

    is : (reply, tidied after) ≡ end
    is = parts.3.0

    pinned-before : (w : ℕ) → w ≡ before.who → PinsJustNeeded members a before → (place : ℕ) → is_pinned place (members.own mid w) ≡ true
        → is_known_place after.known place ≡ true
    pinned-before w e just place pinned =
        let there : is_pinned place (members.own mid before.who) ≡ true = subst (λ who. is_pinned place (members.own mid who) ≡ true) e pinned in
        let then = sym (pinned-same (members.own a before.who) (members.own mid before.who) place same.pins) ∙ there in
        subst (λ (known : List (KeyName × ℕ)). is_known_place known place ≡ true) (sym known) (needed-known members laws a before attends place (just.0 place then))

    ends : PinsJustNeeded members a before → PinsJustNeeded members b (tidied after)
    ends just =
        tidied-just members laws mid b after (subst (members.speaks_for mid) (sym who) same.speaks)
        (subst (λ (o : Outcome A). Serves (members.own b o.1.who) o.1) (sym is) there.serves) (record {
          pins = pinned-before after.who who just;
          owes = λ place owed. just.1 place (same.owes place (subst (λ w. members.owes mid w place) who owed));
        }) (subst (λ s. Runs members.joins mid (unpinning_all after.who (unneeded after)) tt s) parts.3.1 parts.2)

  -- run from the beginning, it leaves none
  pub leaves-none : {A : Type 0} (program : Program (Outcome A)) (b : S) (reply : Outcome A) → LeavesNone {A = A} program → Runs members.joins a program reply b
      → Attends members b reply.1 → StaysTidy members a before b reply.1
  leaves-none program b reply none run there = none a b reply (same-pins members laws before.who a attends.speaks) run there
