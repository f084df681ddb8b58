-- A context goes on to attend to its session over each call.
use Rattle.std.proofs.Common.{◌≡◌, ℕ, Bool, true, false, List, [], ◌∷◌, ◌++◌, Option, Some, None, option_map, refl, sym, ap, ◌∙◌, subst, arith}
use Rattle.std.specs.Prelude.{All, ◌==◌, filter, is_some, map, slice_index_or}
use Rattle.std.specs.Option.{IfSome}
use Rattle.std.proofs.lemmas.Bool.Decides.{nat_tests}
use Rattle.std.proofs.lemmas.List.Elements.{All-push, All-map, All-filter, All-head, All-tail}
use Rattle.mdl_key.specs.Keys.{KeyName, key_eq}
use Rattle.mdl_system.proofs.Deciding.{key-Decides}
use Rattle.mdl_calls.specs.declared.answers.Held.{Held}
use Rattle.mdl_calls.specs.declared.answers.Settled.{Settled}
use Rattle.mdl_calls.specs.Words.{Answer, At_place, Granted, Lost, Call, End_wait, Resolve, caller, SessionLocks, is_pinned, own_after, gaining}
use Rattle.mdl_calls.specs.SessionLocks.{waiting}
use Rattle.mdl_calls.proofs.PinLemmas.{pinned-here}
use Rattle.mdl_calls.specs.declared.lock_space.LockSpace.{Ghosts}
use Rattle.mdl_calls.specs.MemberLaws.{LawsOf}
use Rattle.mdl_context.specs.declared.kept.Kept.{Kept}
use Rattle.mdl_context.specs.declared.kept.Wanted.{Wanted}
use Rattle.mdl_context.specs.Contexts.{ContextView, Attends, IsAwaited, Serves, held_of, place_known, is_known_place, wish_there}
use Rattle.mdl_context.specs.Holdings.{with_wanted}
use Rattle.mdl_context.specs.Wishes.{Wish}
use Rattle.mdl_context.specs.Requests.{remembering, keeping_ticket, awaiting}
use Rattle.mdl_context.specs.Waits.{without_wait}
use Rattle.mdl_context.proofs.PinLemmas.{PinsStay, pins-rest, pins-same, unpins}
use Rattle.mdl_context.proofs.ServingLemmas.{serves-changed, serves-gaining, serves-waiting, serves-ending, serves-winning}

-- to ask for the place of a key changes no ticket and no wait
pub resolved-keeps : (who : ℕ) (key : KeyName) (answer : Answer) (own : SessionLocks)
    → ((own_after (Resolve who key) answer own).held ≡ own.held) × ((own_after (Resolve who key) answer own).wait ≡ own.wait)
resolved-keeps who key (At_place place) own = (refl, refl)
resolved-keeps who key _ own = (refl, refl)

-- ---- known places

-- the keys of these entries are known at their places
abbrev pub AreKnown : {S : Type 0} → (S → ℕ → ℕ → KeyName → Type 0) → S → ℕ → List (KeyName × ℕ) → Type 0
AreKnown knows space who known = All (λ entry. knows space who entry.1 entry.0) known

-- the places of these entries are pinned
abbrev pub ArePinned : SessionLocks → List (KeyName × ℕ) → Type 0
ArePinned own known = All (λ entry. is_pinned entry.1 own ≡ true) known

-- these tickets are at known places
abbrev pub ArePlaced : List (KeyName × ℕ) → List Kept → Type 0
ArePlaced known kept = All (λ ticket. is_known_place known ticket.place ≡ true) kept

-- what is waited for is as a context awaits it
abbrev pub IsAwaitedIn : List (KeyName × ℕ) → List Kept → Option Wanted → Type 0
IsAwaitedIn known kept wait = IfSome wait (IsAwaited known kept)

-- the place of a known key is a known place
pub known-place : (key : KeyName) (known : List (KeyName × ℕ)) (place : ℕ) → place_known key known ≡ Some place → is_known_place known place ≡ true
known-place key [] place found = cc
known-place key (e ∷ es) place found = go (key_eq key e.0) refl (known-place key es place) where
  go : (b : Bool) → key_eq key e.0 ≡ b → (place_known key es ≡ Some place → is_known_place es place ≡ true) → is_known_place (e ∷ es) place ≡ true
  go true same later = let here : e.1 ≡ place = grind (arith, found, same) in grind (arith, nat_tests)
  go false same later = let there : is_known_place es place ≡ true = later (grind (arith, found, same)) in grind (arith, nat_tests)

-- a known key is known at its place
pub known-there : {S : Type 0} (knows : S → ℕ → ℕ → KeyName → Type 0) (space : S) (who : ℕ) (key : KeyName) (known : List (KeyName × ℕ)) (place : ℕ) → AreKnown knows space who known
    → place_known key known ≡ Some place → knows space who place key
known-there knows space who key [] place each found = cc
known-there knows space who key (e ∷ es) place each found = go (key_eq key e.0) refl (known-there knows space who key es place (All-tail (λ entry. knows space who entry.1 entry.0) e es each)) where
  go : (b : Bool) → key_eq key e.0 ≡ b → (place_known key es ≡ Some place → knows space who place key) → knows space who place key
  go true same later =
      let here : e.1 ≡ place = grind (arith, found, same) in
      subst (λ at. knows space who at key) here (subst (λ named. knows space who e.1 named) (sym ((key-Decides key e.0).0 same)) (All-head (λ entry. knows space who entry.1 entry.0) e es each))
  go false same later = later (grind (arith, found, same))

-- a known place is pinned
pub pinned-there : (own : SessionLocks) (known : List (KeyName × ℕ)) (place : ℕ) → ArePinned own known → is_known_place known place ≡ true → is_pinned place own ≡ true
pinned-there own [] place each there = cc
pinned-there own (e ∷ es) place each there = go (e.1 == place) refl (pinned-there own es place (All-tail (λ entry. is_pinned entry.1 own ≡ true) e es each)) where
  go : (b : Bool) → (e.1 == place) ≡ b → (is_known_place es place ≡ true → is_pinned place own ≡ true) → is_pinned place own ≡ true
  go true same later = let here : e.1 ≡ place = grind (arith, nat_tests) in subst (λ at. is_pinned at own ≡ true) here (All-head (λ entry. is_pinned entry.1 own ≡ true) e es each)
  go false same later = later (grind (arith, nat_tests))

-- a known place stays one where one more is known
pub still-known-place : (known : List (KeyName × ℕ)) (e : KeyName × ℕ) (place : ℕ) → is_known_place known place ≡ true → is_known_place (known ++ e ∷ []) place ≡ true
still-known-place [] e place there = cc
still-known-place (x ∷ xs) e place there = grind (arith, nat_tests, still-known-place xs e place)

-- the key that came to be known last is known
pub known-last : (key : KeyName) (known : List (KeyName × ℕ)) (place : ℕ) → place_known key known ≡ None → place_known key (known ++ (key, place) ∷ []) ≡ Some place
known-last key [] place none = rw ((key-Decides key key).1 refl) refl
known-last key (e ∷ es) place none = go (key_eq key e.0) refl (known-last key es place) where
  go : (b : Bool) → key_eq key e.0 ≡ b → (place_known key es ≡ None → place_known key (es ++ (key, place) ∷ []) ≡ Some place) → place_known key ((e ∷ es) ++ (key, place) ∷ []) ≡ Some place
  go true same later = absurd (grind (arith, none, same))
  go false same later = let there : place_known key (es ++ (key, place) ∷ []) ≡ Some place = later (grind (arith, none, same)) in rw same there

-- with one more ticket
pub placed-push : (known : List (KeyName × ℕ)) (kept now : List Kept) (ticket : Kept) → now ≡ kept ++ ticket ∷ [] → ArePlaced known kept → is_known_place known ticket.place ≡ true → ArePlaced known now
placed-push known kept now ticket more placed there =
    subst (ArePlaced known) (sym more) (All-push (λ (t : Kept). is_known_place known t.place ≡ true) kept ticket placed there)

-- with the ticket that was waited for
pub placed-taken : (known : List (KeyName × ℕ)) (id : ℕ) (wait : Option Wanted) (kept now : List Kept) → now ≡ with_wanted id wait kept → ArePlaced known kept → IsAwaitedIn known kept wait → ArePlaced known now
placed-taken known id None kept now more placed there = subst (ArePlaced known) (sym more) placed
placed-taken known id (Some wanted) kept now more placed there = placed-push known kept now _ more placed there.0

-- where there is no wait
pub awaited-none : (known : List (KeyName × ℕ)) (kept : List Kept) (wait : Option Wanted) → wait ≡ None → IsAwaitedIn known kept wait
awaited-none known kept wait none = subst (IsAwaitedIn known kept) (sym none) tt

pub awaited-idle : (known : List (KeyName × ℕ)) (kept : List Kept) (wait : Option Wanted) → is_some wait ≡ false → IsAwaitedIn known kept wait
awaited-idle known kept None idle = tt
awaited-idle known kept (Some wanted) idle = cc

-- where one more place is known
still-placed : (known : List (KeyName × ℕ)) (e : KeyName × ℕ) (kept : List Kept) → ArePlaced known kept → ArePlaced (known ++ e ∷ []) kept
still-placed known e kept placed k d inside = still-known-place known e _ (placed k d inside)

still-awaited : (known : List (KeyName × ℕ)) (e : KeyName × ℕ) (kept : List Kept) (wait : Option Wanted) → IsAwaitedIn known kept wait → IsAwaitedIn (known ++ e ∷ []) kept wait
still-awaited known e kept None awaited = awaited
still-awaited known e kept (Some wanted) awaited = (still-known-place known e _ awaited.0, awaited.1)

-- ---- over calls

module _ {S : Type 0} {members : Ghosts S} where
  -- what a context knows, its session knows
  pub attends-knows : (space : S) (context : ContextView) (who place : ℕ) (key : KeyName) → Attends members space context → context.who ≡ who → place_known key context.known ≡ Some place
      → members.knows space who place key
  attends-knows space context who place key attends same found =
      subst (λ w. members.knows space w place key) same (known-there members.knows space context.who key context.known place attends.known found)

  -- and pins
  pub attends-pins : (space : S) (context : ContextView) (place : ℕ) → Attends members space context → is_known_place context.known place ≡ true
      → is_pinned place (members.own space context.who) ≡ true
  attends-pins space context place attends there = pinned-there (members.own space context.who) context.known place attends.pinned there

  -- what the context serves then is what the session has then. The session knows what it knew, and pins what it pinned
  pub attends-over : (a b : S) (before after : ContextView) → Attends members a before → ((place : ℕ) (key : KeyName) → members.knows a before.who place key → members.knows b before.who place key)
      → PinsStay (members.own a before.who) (members.own b before.who) → members.speaks_for b before.who → Serves (members.own b before.who) after → after.who ≡ before.who → after.known ≡ before.known → ArePlaced before.known after.kept
      → IsAwaitedIn before.known after.kept after.wait → Attends members b after
  attends-over a b before after attends still pinned speaks serves same known placed wished = record {
    speaks = subst (members.speaks_for b) (sym same) speaks;
    serves = subst (λ who. Serves (members.own b who) after) (sym same) serves;
    known = subst (λ who. AreKnown members.knows b who after.known) (sym same) (subst (AreKnown members.knows b before.who) (sym known) (λ k d inside. still _ _ (attends.known k d inside)));
    pinned = subst (λ who. ArePinned (members.own b who) after.known) (sym same) (subst (ArePinned (members.own b before.who)) (sym known) (λ k d inside. pinned _ (attends.pinned k d inside)));
    places = subst (λ (es : List (KeyName × ℕ)). ArePlaced es after.kept) (sym known) placed;
    wish = subst (λ (es : List (KeyName × ℕ)). IsAwaitedIn es after.kept after.wait) (sym known) wished;
  }

  -- no ticket and no wait has changed, though there were calls
  pub attends-kept : (a b : S) (context : ContextView) → Attends members a context → ((place : ℕ) (key : KeyName) → members.knows a context.who place key → members.knows b context.who place key)
      → PinsStay (members.own a context.who) (members.own b context.who) → members.speaks_for b context.who → (members.own b context.who).held ≡ (members.own a context.who).held
      → (members.own b context.who).wait ≡ (members.own a context.who).wait → Attends members b context
  attends-kept a b context attends still pinned speaks held wait =
      attends-over a b context context attends still pinned speaks
      (record { held = held ∙ attends.serves.held; wait = ap (option_map wish_there) wait ∙ attends.serves.wait }) refl refl attends.places attends.wish

  -- nothing has changed, though there were calls
  pub attends-same : (a b : S) (context : ContextView) → Attends members a context → ((place : ℕ) (key : KeyName) → members.knows a context.who place key → members.knows b context.who place key)
      → members.speaks_for b context.who → members.own b context.who ≡ members.own a context.who → Attends members b context
  attends-same a b context attends still speaks same =
      attends-over a b context context attends still (pins-same (members.own a context.who) (members.own b context.who) (ap (λ (o : SessionLocks). o.pins) same)) speaks (subst (λ (o : SessionLocks). Serves o context) (sym same) attends.serves) refl refl attends.places attends.wish

  -- fewer tickets are left
  pub attends-left : (a b : S) (before after : ContextView) (stays : Kept → Bool) → Attends members a before → ((place : ℕ) (key : KeyName) → members.knows a before.who place key → members.knows b before.who place key)
      → (members.own b before.who).pins ≡ (members.own a before.who).pins → members.speaks_for b before.who → Serves (members.own b before.who) after → after.who ≡ before.who → after.known ≡ before.known → after.kept ≡ filter stays before.kept → after.wait ≡ before.wait
      → is_some before.wait ≡ false → Attends members b after
  attends-left a b before after stays attends still pins speaks serves same known left waits idle =
      attends-over a b before after attends still (pins-same (members.own a before.who) (members.own b before.who) pins) speaks serves same known
      (subst (ArePlaced before.known) (sym left) (All-filter stays (λ (t : Kept). is_known_place before.known t.place ≡ true) before.kept attends.places))
      (awaited-idle before.known after.kept after.wait (ap is_some waits ∙ idle))

  -- other durations
  pub attends-changed : (f : Kept → Kept) → ((t : Kept) → held_of (f t) ≡ held_of t) → (space : S) (before after : ContextView) → after.who ≡ before.who → after.known ≡ before.known
      → after.kept ≡ map f before.kept → after.wait ≡ before.wait → is_some before.wait ≡ false → Attends members space before → Attends members space after
  attends-changed f same space before after who known kept wait idle attends =
      attends-over space space before after attends (λ place key there. there) (λ place pinned. pinned) attends.speaks (serves-changed f same (members.own space before.who) before after kept wait attends.serves) who known
      (subst (ArePlaced before.known) (sym kept)
      (All-map (λ (t : Kept). is_known_place before.known t.place ≡ true) f before.kept (λ k d inside. placed-changed (slice_index_or before.kept k d) (attends.places k d inside))))
      (awaited-idle before.known after.kept after.wait (ap is_some wait ∙ idle))
    where
      placed-changed : (t : Kept) → is_known_place before.known t.place ≡ true → is_known_place before.known (f t).place ≡ true
      placed-changed t there = ap (λ (h : Held). is_known_place before.known h.place) (same t) ∙ there

  -- one more place is known, which is pinned
  pub attends-learnt : (space : S) (key : KeyName) (place : ℕ) (before after : ContextView) → Attends members space before → members.knows space before.who place key
      → is_pinned place (members.own space before.who) ≡ true → after ≡ remembering key place before → Attends members space after
  attends-learnt space key place before after attends knew pinned learnt =
      subst (Attends members space) (sym learnt) (record {
        speaks = attends.speaks;
        serves = record { held = attends.serves.held; wait = attends.serves.wait };
        known = All-push (λ (e : KeyName × ℕ). members.knows space before.who e.1 e.0) before.known (key, place) attends.known knew;
        pinned = All-push (λ (e : KeyName × ℕ). is_pinned e.1 (members.own space before.who) ≡ true) before.known (key, place) attends.pinned pinned;
        places = still-placed before.known (key, place) before.kept attends.places;
        wish = still-awaited before.known (key, place) before.kept before.wait attends.wish;
      })

  -- a ticket at a known place is gained
  pub attends-granted : (a b : S) (before after : ContextView) (id place : ℕ) (request : Wish) → Attends members a before
      → ((at : ℕ) (key : KeyName) → members.knows a before.who at key → members.knows b before.who at key) → members.speaks_for b before.who → members.own b before.who ≡ gaining id place request.mode (members.own a before.who)
      → is_known_place before.known place ≡ true → is_some before.wait ≡ false → after ≡ keeping_ticket id place request before → Attends members b after
  attends-granted a b before after id place request attends still speaks gains there idle is =
      let then_after = keeping_ticket id place request before in
      subst (Attends members b) (sym is)
      (attends-over a b before then_after attends still (pins-same (members.own a before.who) (members.own b before.who) (ap (λ (o : SessionLocks). o.pins) gains)) speaks (serves-gaining _ _ before then_after id place request attends.serves gains refl refl) refl refl
      (placed-push before.known before.kept then_after.kept _ refl attends.places there) (awaited-idle before.known then_after.kept before.wait idle))

  -- a wait for a ticket at a known place begins
  pub attends-awaiting : (a b : S) (before after : ContextView) (number place : ℕ) (request : Wish) (searched : Bool) → Attends members a before
      → ((at : ℕ) (key : KeyName) → members.knows a before.who at key → members.knows b before.who at key) → members.speaks_for b before.who → members.own b before.who ≡ waiting number place request.mode (members.own a before.who)
      → is_known_place before.known place ≡ true → after ≡ awaiting place request searched before → Attends members b after
  attends-awaiting a b before after number place request searched attends still speaks begins there is =
      let then_after = awaiting place request searched before in
      subst (Attends members b) (sym is)
      (attends-over a b before then_after attends still (pins-same (members.own a before.who) (members.own b before.who) (ap (λ (o : SessionLocks). o.pins) begins)) speaks (serves-waiting _ _ before then_after number place request searched attends.serves begins refl refl) refl refl attends.places (there, tt))

-- ---- over a call

module _ {S : Type 0} (members : Ghosts S) (laws : LawsOf members) where
  -- what is known stays known
  pub known-still : (a b : S) (call : Call) (answer : Answer) (who : ℕ) → members.speaks_for a who → unpins call ≡ false → members.joins a call answer b
      → (place : ℕ) (key : KeyName) → members.knows a who place key → members.knows b who place key
  known-still a b call answer who speaks stays step place key = laws.remembers a b call answer who place key speaks (λ e done. cc) step

  -- the context serves what the call makes of the session
  pub attends-after : (a b : S) (call : Call) (answer : Answer) (before after : ContextView) → Attends members a before → caller call ≡ Some before.who → unpins call ≡ false
      → members.joins a call answer b → Serves (own_after call answer (members.own a before.who)) after → after.who ≡ before.who → after.known ≡ before.known → ArePlaced before.known after.kept
      → IsAwaitedIn before.known after.kept after.wait → Attends members b after
  attends-after a b call answer before after attends by stays step serves same known placed wished =
      let now : members.own b before.who ≡ own_after call answer (members.own a before.who) = laws.changes a b call answer before.who by step in
      attends-over a b before after attends (known-still a b call answer before.who attends.speaks stays step)
      (subst (PinsStay (members.own a before.who)) (sym now) (pins-rest call answer (members.own a before.who) stays)) (laws.keeps a b call answer before.who attends.speaks step)
      (subst (λ (o : SessionLocks). Serves o after) (sym now) serves) same known placed wished

  -- a call that does nothing to the session
  pub attends-still : (a b : S) (call : Call) (answer : Answer) (context : ContextView) → Attends members a context → caller call ≡ Some context.who → unpins call ≡ false
      → own_after call answer (members.own a context.who) ≡ members.own a context.who → members.joins a call answer b → Attends members b context
  attends-still a b call answer context attends by stays nothing step =
      attends-after a b call answer context context attends by stays step (subst (λ (o : SessionLocks). Serves o context) (sym nothing) attends.serves) refl refl attends.places attends.wish

  -- a place that was asked for is pinned
  pub pinned-resolved : (a b : S) (who place : ℕ) (key : KeyName) → members.joins a (Resolve who key) (At_place place) b → is_pinned place (members.own b who) ≡ true
  pinned-resolved a b who place key step =
      ap (is_pinned place) (laws.changes a b (Resolve who key) (At_place place) who refl step) ∙ pinned-here place (members.own a who)

  -- the place of a key is asked for
  pub attends-resolved : (a b : S) (key : KeyName) (answer : Answer) (context : ContextView) → Attends members a context → members.joins a (Resolve context.who key) answer b
      → Attends members b context
  attends-resolved a b key answer context attends step =
      let keeps = resolved-keeps context.who key answer (members.own a context.who) in
      attends-after a b (Resolve context.who key) answer context context attends refl refl step
      (record { held = keeps.0 ∙ attends.serves.held; wait = ap (option_map wish_there) keeps.1 ∙ attends.serves.wait }) refl refl attends.places attends.wish

  -- a wait ends with its ticket
  pub attends-won : (a b : S) (id : ℕ) (before after : ContextView) → Attends members a before → members.joins a (End_wait before.who) (Granted id) b
      → after.who ≡ before.who → after.known ≡ before.known → after.kept ≡ with_wanted id before.wait before.kept → after.wait ≡ None → Attends members b after
  attends-won a b id before after attends step same known kept wait =
      attends-after a b _ _ before after attends refl refl step (serves-winning id _ _ before after attends.serves refl kept wait) same known
      (placed-taken before.known id before.wait before.kept after.kept kept attends.places attends.wish) (awaited-none before.known after.kept after.wait wait)

  -- a wait ends without it
  pub attends-lost : (a b : S) (how : Settled) (before after : ContextView) → Attends members a before → members.joins a (End_wait before.who) (Lost how) b → after ≡ without_wait before
      → Attends members b after
  attends-lost a b how before after attends step lost =
      subst (Attends members b) (sym lost)
      (attends-after a b _ _ before (without_wait before) attends refl refl step (serves-ending _ _ before (without_wait before) attends.serves refl refl refl) refl refl attends.places tt)
