-- A context goes on to attend to its session as the mode of a ticket changes, and runs of upgrades.
use Rattle.std.proofs.Common.{◌≡◌, ℕ, ◌<◌, Bool, true, false, List, [], ◌∷◌, ◌++◌, length, Option, Some, None, Result, Ok, Err, inr, refl, sym, ap, ◌∙◌, subst, arith}
use Rattle.std.specs.Prelude.{map, find, is_some, slice_index_or, ◌||◌, ◌==◌, MatchOption}
use Rattle.std.specs.Option.{IfSome, option_map}
use Rattle.std.proofs.lemmas.Bool.{eqb-true}
use Rattle.std.proofs.lemmas.Bool.Decides.{nat_tests}
use Rattle.std.proofs.lemmas.List.{get_or_append_left, length-append, map-append}
use Rattle.std.proofs.lemmas.List.Elements.{All-map}
use Rattle.mdl_key.specs.declared.mode.Mode.{Mode}
use Rattle.mdl_key.specs.Keys.{KeyName}
use Rattle.mdl_book.proofs.TicketLemmas.{find-contains, find-passes}
use Rattle.mdl_system.specs.Strength.{covers, may_upgrade}
use Rattle.mdl_system.proofs.StrengthLemmas.{upgrade-raises}
use Rattle.mdl_calls.specs.declared.answers.Held.{Held}
use Rattle.mdl_calls.specs.declared.space_error.SpaceError.{SpaceError}
use Rattle.mdl_calls.specs.Causes.{Knowledge, IsFit, Mergeable}
use Rattle.mdl_calls.specs.SessionLocks.{changing, waiting}
use Rattle.mdl_calls.specs.SessionLocks as owned
use Rattle.mdl_calls.specs.Words.{Answer, Call, Upgrade_now, caller, SessionLocks, IsRising, is_pinned, own_after, gaining, giving_up, is_number, ticket_held, Runs, Give, Ask, IsClear}
use Rattle.mdl_calls.proofs.RunLemmas.{runs_bind}
use Rattle.mdl_calls.specs.declared.lock_space.LockSpace.{Ghosts}
use Rattle.mdl_calls.specs.MemberLaws.{LawsOf}
use Rattle.mdl_context.specs.declared.asking.AskResult.{AskResult}
use Rattle.mdl_context.specs.declared.asking.AskResult.TheVariants as got
use Rattle.mdl_context.specs.declared.context_error.ContextError.TheVariants.{NotHeld, Waiting, Space}
use Rattle.mdl_context.specs.declared.kept.Kept.{Kept}
use Rattle.mdl_context.specs.declared.kept.Wanted.{Wanted}
use Rattle.mdl_context.specs.declared.request.Acquire.{Acquire}
use Rattle.mdl_context.specs.declared.request.Acquire.TheVariants.{Acquired, MustWait}
use Rattle.mdl_context.specs.Contexts.{ContextView, Attends, IsAwaited, IsUpgradedBy, Serves, AreRising, held_of, has_number, is_known_place, ticket_kept, wish_here, wish_there}
use Rattle.mdl_context.specs.Gains.{waiting_at}
use Rattle.mdl_context.specs.Holdings.{wanted_upgrade, with_kept_mode}
use Rattle.mdl_context.proofs.PinLemmas.{unpins}
use Rattle.mdl_context.specs.Requests.{Outcome}
use Rattle.mdl_context.specs.Upgrades.{HasSecond, with_ticket_mode, with_ticket, merging_new, merged, awaiting_upgrade, waiting_to_upgrade, second_got, upgrade_answered, upgrading_ticket, upgrading}
use Rattle.mdl_context.specs.Releases.{release_fault, waiting_fault}
use Rattle.mdl_context.proofs.AttendLemmas.{ArePlaced, IsAwaitedIn, attends-over, attends-after, attends-pins, awaited-idle, placed-push}
use Rattle.mdl_context.proofs.BeyondLemmas.{no-wait, run-unless}
use Rattle.mdl_context.proofs.MergeLemmas.{can-merge, others-rising, serves-in_mode, serves-merged, serves-released}
use Rattle.mdl_context.proofs.ModeLemmas.{changed, changed-place}
use Rattle.mdl_context.proofs.PinLemmas.{pins-same}

unwrap : {X : Type 0} {x y : X} → Some x ≡ Some y → x ≡ y
unwrap e = cc

-- ---- places

placed-front : (known : List (KeyName × ℕ)) (xs ys : List Kept) → ArePlaced known (xs ++ ys) → ArePlaced known xs
placed-front known xs ys placed k d inside =
    let bound : k < length (xs ++ ys) = grind (arith, length-append xs ys, inside) in
    ap (λ (t : Kept). is_known_place known t.place) (sym (get_or_append_left xs ys d k inside)) ∙ placed k d bound

pub placed-in_mode : (known : List (KeyName × ℕ)) (id : ℕ) (f : Mode → Mode) (xs : List Kept) → ArePlaced known xs → ArePlaced known (with_kept_mode id f xs)
placed-in_mode known id f xs placed =
    All-map (λ (t : Kept). is_known_place known t.place ≡ true) (changed id f) xs
    (λ k d inside. ap (is_known_place known) (changed-place id f (slice_index_or xs k d)) ∙ placed k d inside)

-- a kept ticket is at a known place
pub placed-kept : (known : List (KeyName × ℕ)) (id : ℕ) (xs : List Kept) (t : Kept) → ArePlaced known xs → ticket_kept id xs ≡ Some t → is_known_place known t.place ≡ true
placed-kept known id xs t placed found =
    let inside = find-contains (λ (x : Kept). x.id == id) xs t found in
    ap (λ (x : Kept). is_known_place known x.place) (sym inside.2) ∙ placed inside.0 t inside.1

-- it has the number by which it is kept
pub kept-number : (id : ℕ) (xs : List Kept) (t : Kept) → ticket_kept id xs ≡ Some t → t.id ≡ id
kept-number id xs t found = eqb-true t.id id (find-passes (λ (x : Kept). x.id == id) xs t found)

-- a merge leaves what is pinned
pins-merged : (id new : ℕ) (o : Option Held) (own : SessionLocks) → (owned.merging id new o own).pins ≡ own.pins
pins-merged id new None own = refl
pins-merged id new (Some t) own = refl

-- ---- what the context attends to

-- a ticket is gained
serves-more : (own after : SessionLocks) (before now : ContextView) (t : Kept) → Serves own before → after ≡ gaining t.id t.place t.mode own
    → now.kept ≡ before.kept ++ t ∷ [] → now.wait ≡ before.wait → Serves after now
serves-more own after before now t serves gain kept wait = record {
  held = ap (λ (o : SessionLocks). o.held) gain ∙ ap (λ hs. hs ++ held_of t ∷ []) serves.held ∙ sym (map-append held_of before.kept (t ∷ [])) ∙ sym (ap (map held_of) kept);
  wait = ap (λ (o : SessionLocks). option_map wish_there o.wait) gain ∙ serves.wait ∙ sym (ap (option_map wish_here) wait);
}

module _ {S : Type 0} {members : Ghosts S} where
  -- a second ticket is gained beside one of its place
  pub attends-second : (a b : S) (before : ContextView) (t : Kept) → Attends members a before → ((at : ℕ) (key : KeyName) → members.knows a before.who at key → members.knows b before.who at key)
      → members.speaks_for b before.who → members.own b before.who ≡ gaining t.id t.place t.mode (members.own a before.who) → is_known_place before.known t.place ≡ true → is_some before.wait ≡ false
      → Attends members b (with_ticket t before)
  attends-second a b before t attends still speaks gains there idle =
      attends-over a b before (with_ticket t before) attends still (pins-same (members.own a before.who) (members.own b before.who) (ap (λ (o : SessionLocks). o.pins) gains)) speaks (serves-more _ _ before (with_ticket t before) t attends.serves gains refl refl) refl refl
      (placed-push before.known before.kept (before.kept ++ t ∷ []) t refl attends.places there) (awaited-idle before.known (before.kept ++ t ∷ []) before.wait idle)

  -- its place is pinned
  pub wanted-pinned : (space : S) (before : ContextView) (id : ℕ) (wanted : Wanted) → Attends members space before
      → MatchOption (ticket_kept id before.kept) ⊥ (λ ticket. (wanted ≡ wanted_upgrade ticket wanted.mode false) × (covers wanted.mode ticket.mode ≡ true))
      → is_pinned wanted.place (members.own space before.who) ≡ true
  wanted-pinned space before id wanted attends fits = go (ticket_kept id before.kept) refl fits where
    go : (o : Option Kept) → ticket_kept id before.kept ≡ o → MatchOption o ⊥ (λ ticket. (wanted ≡ wanted_upgrade ticket wanted.mode false) × (covers wanted.mode ticket.mode ≡ true))
        → is_pinned wanted.place (members.own space before.who) ≡ true
    go None found fits = absurd fits
    go (Some t) found fits =
        let place : wanted.place ≡ t.place = ap (λ (w : Wanted). w.place) fits.0 in
        attends-pins space before wanted.place attends (ap (is_known_place before.known) place ∙ placed-kept before.known id before.kept t attends.places found)

  -- that is one to be merged into the first
  pub has-gained : (a b : S) (before : ContextView) (id new : ℕ) (wanted : Wanted) → Attends members a before
      → ((at : ℕ) (key : KeyName) → members.knows a before.who at key → members.knows b before.who at key) → members.speaks_for b before.who
      → members.own b before.who ≡ gaining new wanted.place wanted.mode (members.own a before.who) → is_some before.wait ≡ false
      → MatchOption (ticket_kept id before.kept) ⊥ (λ ticket. (wanted ≡ wanted_upgrade ticket wanted.mode false) × (covers wanted.mode ticket.mode ≡ true))
      → HasSecond members id new wanted.mode b before
  has-gained a b before id new wanted attends still speaks gains idle fits = go (ticket_kept id before.kept) refl fits where
    go : (o : Option Kept) → ticket_kept id before.kept ≡ o → MatchOption o ⊥ (λ ticket. (wanted ≡ wanted_upgrade ticket wanted.mode false) × (covers wanted.mode ticket.mode ≡ true))
        → HasSecond members id new wanted.mode b before
    go None found fits = absurd fits
    go (Some t) found fits =
        let second : Kept = record { id = new; place = wanted.place; mode = wanted.mode; duration = wanted.duration } in
        let place : wanted.place ≡ t.place = ap (λ (w : Wanted). w.place) fits.0 in (
          second,
          refl,
          refl,
          rw found (sym place, fits.1),
          attends-second a b before second attends still speaks gains (ap (is_known_place before.known) place ∙ placed-kept before.known id before.kept t attends.places found) idle,
        )

  -- it is waited for
  pub attends-to-upgrade : (a b : S) (before after : ContextView) (id number : ℕ) (wanted : Wanted) (searched : Bool) → Attends members a before
      → ((at : ℕ) (key : KeyName) → members.knows a before.who at key → members.knows b before.who at key) → members.speaks_for b before.who
      → members.own b before.who ≡ waiting number wanted.place wanted.mode (members.own a before.who)
      → MatchOption (ticket_kept id before.kept) ⊥ (λ ticket. (wanted ≡ wanted_upgrade ticket wanted.mode false) × (covers wanted.mode ticket.mode ≡ true))
      → after.who ≡ before.who → after.known ≡ before.known → after.kept ≡ before.kept → after.wait ≡ Some (record wanted { searched = searched }) → Attends members b after
  attends-to-upgrade a b before after id number wanted searched attends still speaks begins fits who known kept wait =
      attends-over a b before after attends still (pins-same (members.own a before.who) (members.own b before.who) (ap (λ (o : SessionLocks). o.pins) begins)) speaks (record {
        held = ap (λ (o : SessionLocks). o.held) begins ∙ attends.serves.held ∙ sym (ap (map held_of) kept);
        wait = ap (λ (o : SessionLocks). option_map wish_there o.wait) begins ∙ sym (ap (option_map wish_here) wait);
      }) who known (subst (ArePlaced before.known) (sym kept) attends.places)
      (subst (λ (ks : List Kept). IsAwaitedIn before.known ks after.wait) (sym kept)
      (subst (IsAwaitedIn before.known before.kept) (sym wait) (go (ticket_kept id before.kept) refl fits)))
    where
      go : (o : Option Kept) → ticket_kept id before.kept ≡ o → MatchOption o ⊥ (λ ticket. (wanted ≡ wanted_upgrade ticket wanted.mode false) × (covers wanted.mode ticket.mode ≡ true))
          → IsAwaited before.known before.kept (record wanted { searched = searched })
      go None found fits = absurd fits
      go (Some t) found fits =
          let place : wanted.place ≡ t.place = ap (λ (w : Wanted). w.place) fits.0 in
          let upgrades : wanted.upgrades ≡ Some id = ap (λ (w : Wanted). w.upgrades) fits.0 ∙ ap (λ n. Some n) (kept-number id before.kept t found) in (
            ap (is_known_place before.known) place ∙ placed-kept before.known id before.kept t attends.places found,
            subst (λ u. IfSome u (λ n. MatchOption (ticket_kept n before.kept) ⊥ (IsUpgradedBy (record wanted { searched = searched })))) (sym upgrades) (rw found (sym place, fits.1)),
          )

  -- it is gone, and tickets may be in other modes
  pub attends-one : (a b : S) (before after : ContextView) (t : Kept) (id : ℕ) (f : Mode → Mode) → Attends members a (with_ticket t before)
      → ((at : ℕ) (key : KeyName) → members.knows a before.who at key → members.knows b before.who at key) → (members.own b before.who).pins ≡ (members.own a before.who).pins
      → members.speaks_for b before.who → Serves (members.own b before.who) after → after.who ≡ before.who
      → after.known ≡ before.known → after.kept ≡ with_kept_mode id f before.kept → after.wait ≡ before.wait → is_some before.wait ≡ false → Attends members b after
  attends-one a b before after t id f attends still pins speaks serves who known kept wait idle =
      attends-over a b (with_ticket t before) after attends still (pins-same (members.own a before.who) (members.own b before.who) pins) speaks serves who known
      (subst (ArePlaced before.known) (sym kept) (placed-in_mode before.known id f before.kept (placed-front before.known before.kept (t ∷ []) attends.places)))
      (awaited-idle before.known after.kept after.wait (ap is_some wait ∙ idle))

  pub attends-back : (a b : S) (before after : ContextView) (t : Kept) → Attends members a (with_ticket t before)
      → ((at : ℕ) (key : KeyName) → members.knows a before.who at key → members.knows b before.who at key) → (members.own b before.who).pins ≡ (members.own a before.who).pins
      → members.speaks_for b before.who → Serves (members.own b before.who) after → after.who ≡ before.who
      → after.known ≡ before.known → after.kept ≡ before.kept → after.wait ≡ before.wait → is_some before.wait ≡ false → Attends members b after
  attends-back a b before after t attends still pins speaks serves who known kept wait idle =
      attends-over a b (with_ticket t before) after attends still (pins-same (members.own a before.who) (members.own b before.who) pins) speaks serves who known
      (subst (ArePlaced before.known) (sym kept) (placed-front before.known before.kept (t ∷ []) attends.places))
      (awaited-idle before.known after.kept after.wait (ap is_some wait ∙ idle))

  -- ---- a second ticket

  module _ (id new : ℕ) (mode : Mode) (space : S) (context : ContextView) (rising : IsRising (members.own space context.who)) (has : HasSecond members id new mode space context) where
    pub has-mergeable : Mergeable true id new (members.own space context.who)
    has-mergeable =
        subst (λ n. Mergeable true id n (members.own space context.who)) has.1
        (can-merge (members.own space context.who) context has.0 rising has.4.serves id
        (subst (λ m. MatchOption (ticket_kept id context.kept) ⊥ (λ ticket. (ticket.place ≡ has.0.place) × (covers m ticket.mode ≡ true))) (sym has.2) has.3))

    pub has-rising : AreRising context.kept
    has-rising = others-rising (members.own space context.who) context has.0 rising has.4.serves

    -- it is merged into the first one
    pub attends-united : (b : S) (after : ContextView) → ((at : ℕ) (key : KeyName) → members.knows space context.who at key → members.knows b context.who at key) → members.speaks_for b context.who
        → members.own b context.who ≡ owned.merging id new (ticket_held new (members.own space context.who)) (members.own space context.who) → after.who ≡ context.who → after.known ≡ context.known
        → after.kept ≡ with_kept_mode id (λ _. mode) context.kept → after.wait ≡ context.wait → is_some context.wait ≡ false → Attends members b after
    attends-united b after still speaks merged who known kept wait idle =
        let o = members.own space context.who in
        let here = ap (λ n. owned.merging id n (ticket_held n o) o) (sym has.1) in
        let in_its = ap (λ m. with_kept_mode id (λ _. m) context.kept) (sym has.2) in
        attends-one space b context after has.0 id (λ _. mode) has.4 still (ap (λ (own : SessionLocks). own.pins) merged ∙ pins-merged id new (ticket_held new o) o) speaks
        (serves-merged o context has.0 rising has.4.serves id (members.own b context.who) after (merged ∙ here) (kept ∙ in_its) wait) who known kept wait idle

    -- it is released
    pub attends-parted : (b : S) (after : ContextView) → ((at : ℕ) (key : KeyName) → members.knows space context.who at key → members.knows b context.who at key) → members.speaks_for b context.who
        → members.own b context.who ≡ giving_up new (members.own space context.who) → after.who ≡ context.who → after.known ≡ context.known → after.kept ≡ context.kept → after.wait ≡ context.wait
        → is_some context.wait ≡ false → Attends members b after
    attends-parted b after still speaks gone who known kept wait idle =
        let o = members.own space context.who in
        attends-back space b context after has.0 has.4 still (ap (λ (own : SessionLocks). own.pins) gone) speaks
        (serves-released o context has.0 rising has.4.serves (members.own b context.who) after (gone ∙ ap (λ n. giving_up n o) (sym has.1)) kept wait) who known kept wait idle

-- ---- over a call

module _ {S : Type 0} (members : Ghosts S) (laws : LawsOf members) where
  -- the mode of a ticket is changed
  pub attends-in_mode : (a b : S) (call : Call) (answer : Answer) (id : ℕ) (f : Mode → Mode) (before after : ContextView) → Attends members a before
      → caller call ≡ Some before.who → unpins call ≡ false → members.joins a call answer b → own_after call answer (members.own a before.who) ≡ changing id f (members.own a before.who) → after.who ≡ before.who
      → after.known ≡ before.known → after.kept ≡ with_kept_mode id f before.kept → after.wait ≡ before.wait → is_some before.wait ≡ false → Attends members b after
  attends-in_mode a b call answer id f before after attends by stays step changed_there who known kept wait idle =
      attends-after members laws a b call answer before after attends by stays step
      (serves-in_mode id f (members.own a before.who) (own_after call answer (members.own a before.who)) before after attends.serves changed_there kept wait) who known
      (subst (ArePlaced before.known) (sym kept) (placed-in_mode before.known id f before.kept attends.places))
      (awaited-idle before.known after.kept after.wait (ap is_some wait ∙ idle))

-- ---- runs

-- where the ticket of a number is kept, a second one was asked for, and this was answered
abbrev pub HasAsked : {S : Type 0} → (S → Call → Answer → S → Type 0) → ℕ → Mode → S → Outcome Acquire → S → ContextView → Type 0
HasAsked joins id mode a reply b context =
    (ticket : Kept) → ticket_kept id context.kept ≡ Some ticket → Runs joins a (waiting_to_upgrade ticket mode context) reply b

module _ {S : Type 0} (joins : S → Call → Answer → S → Type 0) (t : Kept) (id : ℕ) (mode : Mode) (context after : ContextView) (number : t.id ≡ id) where
  -- a second ticket was asked for
  run-second : (end : Result AskResult SpaceError) (reply : Outcome Acquire) (a mid b : S) → Runs joins a (waiting_at context.who t.place mode) end mid
      → Runs joins mid (second_got t mode context end) reply b → Runs joins a (waiting_to_upgrade t mode context) reply b
  run-second end reply a mid b asked run = inr (runs_bind joins (waiting_at context.who t.place mode) (second_got t mode context) a mid b end reply asked run)

  -- it could be had at once, and was merged into the first
  pub run-united : (new : ℕ) (a mid b : S) → Runs joins a (waiting_at context.who t.place mode) (Ok (got.Granted new)) mid → Runs joins mid (merging_new context.who id new) (Ok tt) b
      → after ≡ with_ticket_mode id (λ _. mode) context → Runs joins a (waiting_to_upgrade t mode context) (Ok (Acquired id), after) b
  run-united new a mid b asked united is =
      run-second (Ok (got.Granted new)) (Ok (Acquired id), after) a mid b asked
      (runs_bind joins (merging_new context.who t.id new) (λ end. Give (merged (Acquired t.id) t.id mode context end)) mid b b (Ok tt) (Ok (Acquired id), after)
      (rw number united) (rw (number, is) refl, refl))

  -- or was given back
  pub run-parted : (new : ℕ) (refusal : SpaceError) (a mid b : S) → Runs joins a (waiting_at context.who t.place mode) (Ok (got.Granted new)) mid
      → Runs joins mid (merging_new context.who id new) (Err refusal) b → after ≡ context → Runs joins a (waiting_to_upgrade t mode context) (Err (Space refusal), after) b
  run-parted new refusal a mid b asked parted is =
      run-second (Ok (got.Granted new)) (Err (Space refusal), after) a mid b asked
      (runs_bind joins (merging_new context.who t.id new) (λ end. Give (merged (Acquired t.id) t.id mode context end)) mid b b (Err refusal) (Err (Space refusal), after)
      (rw number parted) (ap (λ (c : ContextView). let o : Outcome Acquire = (Err (Space refusal), c) in o) (sym is), refl))

  -- it is waited for
  pub run-awaiting : (wait : ℕ) (searched : Bool) (a b : S) → Runs joins a (waiting_at context.who t.place mode) (Ok (got.Waits wait searched)) b
      → after ≡ awaiting_upgrade t mode searched context → Runs joins a (waiting_to_upgrade t mode context) (Ok (MustWait wait), after) b
  run-awaiting wait searched a b asked is =
      run-second (Ok (got.Waits wait searched)) (Ok (MustWait wait), after) a b b asked (ap (λ (c : ContextView). let o : Outcome Acquire = (Ok (MustWait wait), c) in o) (sym is), refl)

  -- it isn't
  pub run-unasked : (refusal : SpaceError) (a b : S) → Runs joins a (waiting_at context.who t.place mode) (Err refusal) b → after ≡ context
      → Runs joins a (waiting_to_upgrade t mode context) (Err (Space refusal), after) b
  run-unasked refusal a b asked is =
      run-second (Err refusal) (Err (Space refusal), after) a b b asked (ap (λ (c : ContextView). let o : Outcome Acquire = (Err (Space refusal), c) in o) (sym is), refl)

-- ---- the ticket of a number

-- it is kept, or not
kept-some : (id : ℕ) (xs : List Kept) (t : Kept) → ticket_kept id xs ≡ Some t → has_number xs id ≡ true
kept-some id [] t found = cc
kept-some id (x ∷ xs) t found = grind (arith, nat_tests, kept-some id xs t)

kept-none : (id : ℕ) (xs : List Kept) → ticket_kept id xs ≡ None → has_number xs id ≡ false
kept-none id [] found = refl
kept-none id (x ∷ xs) found = grind (arith, nat_tests, kept-none id xs)

-- and so the change of its mode isn't refused by the context
pub fault-none : (id : ℕ) (context : ContextView) (t : Kept) → ticket_kept id context.kept ≡ Some t → is_some context.wait ≡ false → release_fault id context ≡ None
fault-none id context t found idle = rw (kept-some id context.kept t found, idle) refl

pub fault-waiting : (id : ℕ) (context : ContextView) (t : Kept) → ticket_kept id context.kept ≡ Some t → is_some context.wait ≡ true → release_fault id context ≡ Some Waiting
fault-waiting id context t found waits = rw (kept-some id context.kept t found, waits) refl

pub fault-absent : (id : ℕ) (context : ContextView) → ticket_kept id context.kept ≡ None → release_fault id context ≡ Some NotHeld
fault-absent id context none = rw (kept-none id context.kept none) refl

-- how it is wanted
pub wish-kept : (mode : Mode) (o : Option Kept) (w : Wanted) → option_map (λ t. wanted_upgrade t mode false) o ≡ Some w → (t : Kept) × (o ≡ Some t) × (w ≡ wanted_upgrade t mode false)
wish-kept mode None w is = cc
wish-kept mode (Some t) w is = (t, refl, sym (unwrap is))

pub wish-none : (mode : Mode) (o : Option Kept) → option_map (λ t. wanted_upgrade t mode false) o ≡ None → o ≡ None
wish-none mode None is = refl
wish-none mode (Some t) is = cc

-- it is held
kept-held : (id : ℕ) (xs : List Kept) (t : Kept) → ticket_kept id xs ≡ Some t → find (is_number id) (map held_of xs) ≡ Some (held_of t)
kept-held id [] t found = cc
kept-held id (x ∷ xs) t found = grind (arith, nat_tests, kept-held id xs t)

-- where its mode may be raised and isn't so strong already, the new mode is stronger
pub may-rise : (knows : Knowledge) (who id : ℕ) (mode : Mode) (own : SessionLocks) (context : ContextView) (t : Kept) → Serves own context → ticket_kept id context.kept ≡ Some t
    → IsClear knows (Upgrade_now who id mode) own → ((h : Held) → ticket_held id own ≡ Some h → covers h.mode mode ≡ true → ⊥) → covers mode t.mode ≡ true
may-rise knows who id mode own context t serves found clear weaker = go (covers t.mode mode) refl where
  held : ticket_held id own ≡ Some (held_of t)
  held = ap (find (is_number id)) serves.held ∙ kept-held id context.kept t found

  able : ((covers t.mode mode || may_upgrade t.mode mode) ≡ true) × IsFit knows t.place mode
  able = rw held at clear.1

  go : (b : Bool) → covers t.mode mode ≡ b → covers mode t.mode ≡ true
  go true e = absurd (weaker (held_of t) held e)
  go false e = (upgrade-raises t.mode mode (rw e at able.0)).0

-- a wish for an upgrade that can't be had at once
pub wait-fits : (knows : Knowledge) (who id : ℕ) (mode : Mode) (own : SessionLocks) (context : ContextView) (wanted : Wanted) → Serves own context
    → option_map (λ t. wanted_upgrade t mode false) (ticket_kept id context.kept) ≡ Some wanted
    → IsClear knows (Upgrade_now who id mode) own → ((h : Held) → ticket_held id own ≡ Some h → covers h.mode mode ≡ true → ⊥)
    → MatchOption (ticket_kept id context.kept) ⊥ (λ ticket. (wanted ≡ wanted_upgrade ticket wanted.mode false) × (covers wanted.mode ticket.mode ≡ true))
wait-fits knows who id mode own context wanted serves is clear weaker =
    let its = wish-kept mode (ticket_kept id context.kept) wanted is in
    let same : wanted.mode ≡ mode = ap (λ (w : Wanted). w.mode) its.2 in
    rw its.1 (
      subst (λ m. wanted ≡ wanted_upgrade its.0 m false) (sym same) its.2,
      subst (λ m. covers m its.0.mode ≡ true) (sym same) (may-rise knows who id mode own context its.0 serves its.1 clear weaker),
    )

module _ {S : Type 0} (joins : S → Call → Answer → S → Type 0) where
  -- whether the upgrade can be had at once was asked
  pub run-upgrading : (id : ℕ) (mode : Mode) (context : ContextView) (t : Kept) (answer : Answer) (reply : Outcome Acquire) (a mid b : S) → ticket_kept id context.kept ≡ Some t
      → is_some context.wait ≡ false → joins a (Upgrade_now context.who id mode) answer mid → Runs joins mid (upgrade_answered t mode context answer) reply b
      → Runs joins a (upgrading id mode context) reply b
  run-upgrading id mode context t answer reply a mid b found idle step run =
      let asked = subst (λ n. joins a (Upgrade_now context.who n mode) answer mid) (sym (kept-number id context.kept t found)) step in
      subst (λ o. Runs joins a (upgrading_ticket o mode context) reply b) (sym found)
      (run-unless joins {A = Acquire} (waiting_fault context) context (Ask (Upgrade_now context.who t.id mode) (upgrade_answered t mode context)) a b reply (no-wait context idle) (answer, mid, asked, run))
