-- A request that looked its place up and got nothing there lets go of the place: what its session has and pins then.
use Rattle.std.proofs.Common.{◌≡◌, ◌⊎◌, ℕ, zero, suc, ◌<◌, Bool, true, false, List, [], ◌∷◌, get_or, length, None, option_map, inl, inr, refl, sym, ap, ◌∙◌, subst, arith}
use Rattle.std.specs.Prelude.{◌==◌}
use Rattle.std.proofs.lemmas.Bool.Decides.{nat_tests}
use Rattle.std.proofs.lemmas.List.Elements.{All-head, All-tail}
use Rattle.mdl_key.specs.Keys.{KeyName, key_eq}
use Rattle.mdl_system.proofs.Deciding.{key-Decides}
use Rattle.mdl_calls.specs.declared.space_error.SpaceError.{SpaceError}
use Rattle.mdl_calls.specs.Words.{At_place, Refused, Resolve, Runs, SessionLocks, is_pinned, pinning}
use Rattle.mdl_calls.proofs.PinLemmas.{is_among, pinned-still, pinned-told}
use Rattle.mdl_calls.specs.declared.lock_space.LockSpace.{Ghosts}
use Rattle.mdl_calls.specs.MemberLaws.{LawsOf}
use Rattle.mdl_context.specs.Contexts.{Attends, ContextView, Serves, is_known_place, place_known, wish_there}
use Rattle.mdl_context.specs.Requests.{HasWhatItHad, remembering}
use Rattle.mdl_context.specs.Tidying.{IsTidy, PinsJustNeeded, StaysTidy, is_needed, unpinning_all}
use Rattle.mdl_context.proofs.AttendLemmas.{AreKnown, attends-resolved}
use Rattle.mdl_context.proofs.JustLemmas.{either-way, just-known, just-tidy, known-just, needed-known, pinned-same}
use Rattle.mdl_context.proofs.KnownLemmas.{all-parts}
use Rattle.mdl_context.proofs.TidyLemmas.{GaveUp, debts-run, gave-up-pins, no-ticket, no-wait-there}

-- known places differ from a place that isn't known
apart-known : (known : List (KeyName × ℕ)) (place : ℕ) → is_known_place known place ≡ false → (k : ℕ) (d : KeyName × ℕ) → k < length known
    → is_among (get_or known k d).1 (place ∷ []) ≡ false
apart-known [] place none k d inside = absurd (omega (arith, inside))
apart-known (e ∷ es) place none zero d inside =
    either-way (place == e.1) (λ same. let is : place ≡ e.1 = grind (arith, nat_tests) in absurd (grind (arith, nat_tests, none, is)))
    (λ apart. grind (arith, apart))
apart-known (e ∷ es) place none (suc k) d inside = apart-known es place (grind (arith, none)) k d (omega (arith, inside))

module _ {S : Type 0} (members : Ghosts S) (laws : LawsOf members) where
  -- ---- a place that isn't known

  -- if the context doesn't know a key, the key's place is none of those that it knows
  unknown-among : (space : S) (who : ℕ) (key : KeyName) (place : ℕ) → members.speaks_for space who → members.knows space who place key
      → (known : List (KeyName × ℕ)) → AreKnown members.knows space who known → place_known key known ≡ None → is_known_place known place ≡ false
  unknown-among space who key place speaks knew [] each none = refl
  unknown-among space who key place speaks knew (e ∷ es) each none =
      by (key_eq key e.0) refl
      (λ later. unknown-among space who key place speaks knew es (All-tail (λ (x : KeyName × ℕ). members.knows space who x.1 x.0) e es each) later)
    where
      by : (b : Bool) → key_eq key e.0 ≡ b → (place_known key es ≡ None → is_known_place es place ≡ false) → is_known_place (e ∷ es) place ≡ false
      by true same later = absurd (grind (arith, none, same))
      by false other later =
          let out : is_known_place es place ≡ false = later (grind (arith, none, other)) in
          either-way (e.1 == place)
          (λ here. let is : e.1 ≡ place = grind (arith, nat_tests) in
          let there : members.knows space who place e.0 =
          subst (λ p. members.knows space who p e.0) is (All-head (λ (x : KeyName × ℕ). members.knows space who x.1 x.0) e es each) in
          let same : key_eq key e.0 ≡ true = (key-Decides key e.0).1 (laws.one_key space who place key e.0 speaks knew there) in
          let never = sym same ∙ other in
          absurd (cc))
          (λ apart. grind (arith, apart, out))

  module _ (space : S) (context : ContextView) (key : KeyName) (place : ℕ) (attends : Attends members space context)
      (knew : members.knows space context.who place key) (new : place_known key context.known ≡ None) where
    unknown-place : is_known_place context.known place ≡ false
    unknown-place = unknown-among space context.who key place attends.speaks knew context.known attends.known new

    -- so the context has nothing there
    spare : is_needed context place ≡ false
    spare =
        either-way (is_needed context place) (λ needed. let never = sym unknown-place ∙ needed-known members laws space context attends place needed in absurd (cc))
        (λ none. none)

    -- once the pin is given up, the context attends to the session as before
    pub attends-let_go : (b : S) → Runs members.joins space (unpinning_all context.who (place ∷ [])) tt b → Attends members b context
    attends-let_go b run =
        let end = gave-up-pins members laws context.who (place ∷ []) space b attends.speaks run in
        record {
          speaks = end.speaks;
          serves = record { held = end.held ∙ attends.serves.held; wait = ap (option_map wish_there) end.wait ∙ attends.serves.wait };
          known = λ k d inside. end.knows _ _ (apart-known context.known place unknown-place k d inside) (attends.known k d inside);
          pinned = λ k d inside. end.pinned _ (apart-known context.known place unknown-place k d inside) (attends.pinned k d inside);
          places = attends.places;
          wish = attends.wish;
        }

  -- a context that knows one place less
  pub attends-forgetting : (a b : S) (key : KeyName) (place : ℕ) (context : ContextView) → Attends members a context
      → Attends members b (remembering key place context) → Attends members b context
  attends-forgetting a b key place context before attends = record {
    speaks = attends.speaks;
    serves = record { held = attends.serves.held; wait = attends.serves.wait };
    known = (all-parts (λ (e : KeyName × ℕ). members.knows b context.who e.1 e.0) context.known ((key, place) ∷ []) attends.known).0;
    pinned = (all-parts (λ (e : KeyName × ℕ). is_pinned e.1 (members.own b context.who) ≡ true) context.known ((key, place) ∷ []) attends.pinned).0;
    places = before.places;
    wish = before.wish;
  }

  -- ---- what the session has

  pub had-same : (a b : S) (who : ℕ) (key : KeyName) → members.own b who ≡ members.own a who → HasWhatItHad members who key a b
  had-same a b who key same = record {
    locks = (ap (λ (o : SessionLocks). o.held) same, ap (λ (o : SessionLocks). o.wait) same);
    pins = λ place pinned. inl (ap (is_pinned place) (sym same) ∙ pinned);
    keeps = λ place pinned. inl (ap (is_pinned place) same ∙ pinned);
  }

  -- no place was given to the key
  pub had-refused : (a b : S) (who : ℕ) (key : KeyName) (refusal : SpaceError) → members.joins a (Resolve who key) (Refused refusal) b
      → HasWhatItHad members who key a b
  had-refused a b who key refusal step = had-same a b who key (laws.changes a b (Resolve who key) (Refused refusal) who refl step)

  -- the place of a key that the context didn't know was looked up, and then let go of
  module _ (a looked_up mid b : S) (context : ContextView) (key : KeyName) (place : ℕ) (attends : Attends members a context)
      (new : place_known key context.known ≡ None) (step : members.joins a (Resolve context.who key) (At_place place) looked_up)
      (same : members.own mid context.who ≡ members.own looked_up context.who) (speaks : members.speaks_for mid context.who)
      (debts : (p : ℕ) → members.owes mid context.who p → members.owes looked_up context.who p)
      (run : Runs members.joins mid (unpinning_all context.who (place ∷ [])) tt b) where
    abbrev who : ℕ
    who = context.who

    end : GaveUp members laws who (place ∷ []) mid b
    end = gave-up-pins members laws who (place ∷ []) mid b speaks run

    pinned : members.own mid who ≡ pinning place (members.own a who)
    pinned = same ∙ laws.changes a looked_up (Resolve who key) (At_place place) who refl step

    knew : members.knows looked_up who place key
    knew = laws.resolves a looked_up who place key step

    serves : Serves (members.own mid who) context
    serves = record {
      held = ap (λ (o : SessionLocks). o.held) pinned ∙ attends.serves.held;
      wait = ap (λ (o : SessionLocks). option_map wish_there o.wait) pinned ∙ attends.serves.wait;
    }

    nothing-there : is_needed context place ≡ false
    nothing-there = spare looked_up context key place (attends-resolved members laws a looked_up key (At_place place) context attends step) knew new

    gone : (is_pinned place (members.own b who) ≡ false) ⊎ members.owes mid who place
    gone = end.gone place (grind (arith, nat_tests)) (λ holds. no-ticket (members.own mid who) context serves place nothing-there holds)
        (λ awaits. no-wait-there (members.own mid who) context serves place nothing-there awaits)

    no-more : (p : ℕ) → is_pinned p (members.own b who) ≡ true → (is_pinned p (members.own a who) ≡ true) ⊎ members.owes a who p
    no-more p there = elim (pinned-told p place (members.own a who) (ap (is_pinned p) (sym pinned) ∙ before)) [
      | inl here ↦ inr (owed (subst (λ x. is_pinned x (members.own b who) ≡ true) here there) here)
      | inr was ↦ inl was
    ]
      where
        before : is_pinned p (members.own mid who) ≡ true
        before = either-way (is_pinned p (members.own mid who)) (λ yes. yes) (λ out. let never = sym there ∙ end.fewer p out in absurd (cc))

        owed : is_pinned place (members.own b who) ≡ true → p ≡ place → members.owes a who p
        owed still here = elim gone [
          | inl none ↦ let never = sym still ∙ none in absurd (cc)
          | inr owes ↦
              subst (members.owes a who) (sym here) (laws.no_new_debts a looked_up (Resolve who key) (At_place place) who place attends.speaks step (debts place owes))
        ]

    keeps : (p : ℕ) → is_pinned p (members.own a who) ≡ true → (is_pinned p (members.own b who) ≡ true) ⊎ members.knows a who p key
    keeps p there = either-way (place == p)
        (λ here. inr (known-before (let is : place ≡ p = grind (arith, nat_tests) in is)))
        (λ apart. inl (end.pinned p (grind (arith, apart)) (ap (is_pinned p) pinned ∙ pinned-still p place (members.own a who) there)))
      where
        known-before : place ≡ p → members.knows a who p key
        known-before is =
            let told = laws.pinned_known a who p attends.speaks there in
            let still = laws.remembers a looked_up (Resolve who key) (At_place place) who p told.0 attends.speaks (λ e done. cc) step told.1 in
            let one = laws.one_key looked_up who p told.0 key (laws.keeps a looked_up (Resolve who key) (At_place place) who attends.speaks step) still
            (subst (λ x. members.knows looked_up who x key) is knew) in
            subst (members.knows a who p) one told.1

    pub had-let_go : HasWhatItHad members context.who key a b
    had-let_go = record {
      locks = (
        end.held ∙ ap (λ (o : SessionLocks). o.held) pinned,
        end.wait ∙ ap (λ (o : SessionLocks). o.wait) pinned,
      );
      pins = no-more;
      keeps = keeps;
    }

    pub debts-let_go : (p : ℕ) → members.owes b context.who p → members.owes a context.who p
    debts-let_go p owes =
        laws.no_new_debts a looked_up (Resolve who key) (At_place place) who p attends.speaks step
        (debts p (debts-run members laws (unpinning_all who (place ∷ [])) mid b tt who speaks run p owes))

  -- ---- no pin is left behind

  module _ (a b : S) (before after : ContextView) (debts : (place : ℕ) → members.owes b before.who place → members.owes a before.who place) where
    -- where the session has what it had
    pub tidy-had : (key : KeyName) → after ≡ before → HasWhatItHad members before.who key a b → StaysTidy members a before b after
    tidy-had key same had =
        subst (λ (context : ContextView). StaysTidy members a before b context) (sym same) (
          λ tidy. tidy,
          λ just. (
            λ place there. elim (had.pins place there) [
              | inl was ↦ just.0 place was
              | inr owes ↦ absurd (just.1 place owes)
            ],
            λ place owes. just.1 place (debts place owes),
          ),
        )

    -- where it pins just what the context knows, if it did so before
    pub tidy-known : Attends members a before → after.who ≡ before.who → (IsTidy before → IsTidy after)
        → (((place : ℕ) → is_pinned place (members.own a before.who) ≡ true → is_known_place before.known place ≡ true)
        → (place : ℕ) → is_pinned place (members.own b before.who) ≡ true → is_known_place after.known place ≡ true)
        → StaysTidy members a before b after
    tidy-known attends same tidy pins = (tidy, λ just. just-after just) where
      just-after : PinsJustNeeded members a before → PinsJustNeeded members b after
      just-after just =
          let known = just-known members laws a before attends just in
          known-just members laws b after (tidy (just-tidy members laws a before attends just)) (record {
            pins = λ place there. pins known.pins place (subst (λ w. is_pinned place (members.own b w) ≡ true) same there);
            owes = λ place owes. known.owes place (debts place (subst (λ w. members.owes b w place) same owes));
          })

    -- so too where both are the same
    pub tidy-same : Attends members a before → after.who ≡ before.who → (IsTidy before → IsTidy after) → after.known ≡ before.known
        → (members.own b before.who).pins ≡ (members.own a before.who).pins → StaysTidy members a before b after
    tidy-same attends same tidy known pins =
        tidy-known attends same tidy (λ so place there.
        ap (λ (es : List (KeyName × ℕ)). is_known_place es place) known
        ∙ so place (sym (pinned-same (members.own a before.who) (members.own b before.who) place pins) ∙ there))
