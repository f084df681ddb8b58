-- A context lets go of places: what its session has, knows and pins afterwards.
use Rattle.std.proofs.Common.{◌≡◌, ◌≢◌, ◌⊎◌, ℕ, zero, suc, ◌+◌, ◌<◌, ◌≤◌, Bool, true, false, List, [], ◌∷◌, length, get_or, drop, Option, Some, None, option_map, Result, Ok, inl, inr, refl, sym, ap, ◌∙◌, subst, arith}
use Rattle.std.specs.Prelude.{◌==◌, not, filter, map, slice_get}
use Rattle.std.specs.List.{Contains, list_any}
use Rattle.std.specs.Option.{IfSome, option_map_or}
use Rattle.std.proofs.lemmas.Bool.Decides.{nat_tests}
use Rattle.std.proofs.lemmas.List.Elements.{All-filter, filter_passes}
use Rattle.mdl_key.specs.declared.mode.Mode.{Mode}
use Rattle.mdl_key.specs.Keys.{KeyName}
use Rattle.mdl_calls.specs.declared.answers.Held.{Held}
use Rattle.mdl_calls.specs.declared.space_error.SpaceError.TheVariants.{InUse, NoPlace}
use Rattle.mdl_calls.specs.Words.{Answer, Done, Refused, Call, Unpin, IsExplained, SessionLocks, AwaitsAt, HoldsAt, is_answer_of, is_pinned, own_after, Each, Program, Runs, Give}
use Rattle.mdl_calls.proofs.PinLemmas.{unpinned-here, unpinned-still, unpinned-told}
use Rattle.mdl_calls.proofs.FaithfulLemmas.{each_then}
use Rattle.mdl_calls.proofs.RunLemmas.{runs_bind, runs_keeps}
use Rattle.mdl_calls.specs.declared.lock_space.LockSpace.{Ghosts}
use Rattle.mdl_calls.specs.MemberLaws.{LawsOf}
use Rattle.mdl_context.specs.declared.context_error.ContextError.{ContextError}
use Rattle.mdl_context.specs.declared.kept.Kept.{Kept}
use Rattle.mdl_context.specs.declared.kept.Wanted.{Wanted}
use Rattle.mdl_context.specs.Contexts.{ContextView, Attends, IsAwaited, Serves, held_of, is_known_place, wish_here, wish_there, without_tickets}
use Rattle.mdl_context.specs.Holdings.{is_kept_at}
use Rattle.mdl_context.specs.Releases.{releasing_all}
use Rattle.mdl_context.specs.Requests.{Outcome}
use Rattle.mdl_context.specs.TidyLaws.{ReleasesLeaveTidy}
use Rattle.mdl_context.specs.Tidying.{IsTidy, LetsGo, is_needed, tidied, tidying, unneeded, unpinning_all}

-- whether a place is among others
abbrev is_among : ℕ → List ℕ → Bool
is_among place places = list_any (λ (p : ℕ). p == place) places

-- ---- one pin that is given up

-- no ticket and no wait changes
unpin-held : (who place : ℕ) (answer : Answer) (own : SessionLocks)
    → ((own_after (Unpin who place) answer own).held ≡ own.held) × ((own_after (Unpin who place) answer own).wait ≡ own.wait)
unpin-held who place Done own = (refl, refl)
unpin-held who place _ own = (refl, refl)

-- the other places stay pinned
unpin-others : (who place : ℕ) (answer : Answer) (own : SessionLocks) (other : ℕ) → other ≢ place → is_pinned other own ≡ true
    → is_pinned other (own_after (Unpin who place) answer own) ≡ true
unpin-others who place Done own other apart pinned = unpinned-still other place own apart pinned
unpin-others who place _ own other apart pinned = pinned

-- and no more are pinned
unpin-fewer : (who place : ℕ) (answer : Answer) (own : SessionLocks) (other : ℕ) → is_pinned other own ≡ false
    → is_pinned other (own_after (Unpin who place) answer own) ≡ false
unpin-fewer who place Done own other none = by (is_pinned other (own_after (Unpin who place) Done own)) refl where
  by : (b : Bool) → is_pinned other (own_after (Unpin who place) Done own) ≡ b → b ≡ false
  by true is = absurd (let there = (unpinned-told other place own is).1 in let no = sym none ∙ there in cc)
  by false is = refl
unpin-fewer who place _ own other none = none

-- ---- which places are needed

-- where a ticket is kept, the place is needed
any-here : (kept : List Kept) (k : ℕ) (d : Kept) → k < length kept → list_any (is_kept_at (get_or kept k d).place) kept ≡ true
any-here [] k d inside = absurd (omega (arith, inside))
any-here (t ∷ ts) zero d inside = grind (arith, nat_tests)
any-here (t ∷ ts) (suc k) d inside = let later = any-here ts k d (omega (arith, inside)) in grind (arith, nat_tests, later)

any-held : (kept : List Kept) (k : ℕ) (d : Held) → k < length (map held_of kept) → list_any (is_kept_at (get_or (map held_of kept) k d).place) kept ≡ true
any-held [] k d inside = absurd (omega (arith, inside))
any-held (t ∷ ts) zero d inside = grind (arith, nat_tests)
any-held (t ∷ ts) (suc k) d inside = let later = any-held ts k d (omega (arith, inside)) in grind (arith, nat_tests, later)

needed-held : (context : ContextView) (place : ℕ) → list_any (is_kept_at place) context.kept ≡ true → is_needed context place ≡ true
needed-held context place here = grind (arith, here)

-- and where the context waits
needed-wait : (context : ContextView) (wanted : Wanted) → context.wait ≡ Some wanted → is_needed context wanted.place ≡ true
needed-wait context wanted waits = grind (arith, nat_tests, waits)

-- so the session has nothing at a place that isn't needed
module _ (own : SessionLocks) (context : ContextView) (serves : Serves own context) (place : ℕ) (spare : is_needed context place ≡ false) where
  pub no-ticket : HoldsAt place own → ⊥
  no-ticket (ticket, (k, inside, here), at) =
      let among : k < length (map held_of context.kept) = subst (λ hs. k < length hs) serves.held inside in
      let there : list_any (is_kept_at (get_or (map held_of context.kept) k ticket).place) context.kept ≡ true = any-held context.kept k ticket among in
      let is : get_or (map held_of context.kept) k ticket ≡ ticket = subst (λ hs. get_or hs k ticket ≡ ticket) serves.held here in
      let needed : is_needed context place ≡ true =
      needed-held context place (subst (λ p. list_any (is_kept_at p) context.kept ≡ true) (ap (λ (h : Held). h.place) is ∙ at) there) in
      let no = sym spare ∙ needed in
      cc

  pub no-wait-there : AwaitsAt place own → ⊥
  no-wait-there (wait, waits, at) = by context.wait refl where
    served : option_map wish_there (Some wait) ≡ option_map wish_here context.wait
    served = ap (option_map wish_there) (sym waits) ∙ serves.wait

    by : (o : Option Wanted) → context.wait ≡ o → ⊥
    by None is = let no : Some (wish_there wait) ≡ None = served ∙ ap (option_map wish_here) is in cc
    by (Some wanted) is =
        let same : Some (wish_there wait) ≡ Some (wish_here wanted) = served ∙ ap (option_map wish_here) is in
        let here : wait.place ≡ wanted.place = ap (λ (o : Option (ℕ × Mode)). option_map_or (λ (w : ℕ × Mode). w.0) o 0) same in
        let needed : is_needed context place ≡ true = subst (λ p. is_needed context p ≡ true) (sym here ∙ at) (needed-wait context wanted is) in
        let no = sym spare ∙ needed in
        cc

-- ---- which places go

-- where a test passes, the place isn't among those where it fails
stays-apart : (q : ℕ → Bool) (place : ℕ) (places : List ℕ) → q place ≡ true → is_among place (filter (λ p. not (q p)) places) ≡ false
stays-apart q place [] passes = refl
stays-apart q place (p ∷ ps) passes = go (p == place) refl (stays-apart q place ps passes) where
  go : (b : Bool) → (p == place) ≡ b → is_among place (filter (λ x. not (q x)) ps) ≡ false → is_among place (filter (λ x. not (q x)) (p ∷ ps)) ≡ false
  go true same rest = let here : q p ≡ true = subst (λ x. q x ≡ true) (let e : p ≡ place = grind (arith, nat_tests) in sym e) passes in grind (arith, rest, here)
  go false same rest = grind (arith, rest, same)

-- a known place where the test fails is among them
pub goes-among : (q : ℕ → Bool) (place : ℕ) (known : List (KeyName × ℕ)) → is_known_place known place ≡ true → q place ≡ false
    → is_among place (filter (λ p. not (q p)) (map (λ entry. entry.1) known)) ≡ true
goes-among q place [] there fails = cc
goes-among q place (e ∷ es) there fails = go (e.1 == place) refl (λ later. goes-among q place es later fails) where
  go : (b : Bool) → (e.1 == place) ≡ b → (is_known_place es place ≡ true → is_among place (filter (λ p. not (q p)) (map (λ entry. entry.1) es)) ≡ true)
      → is_among place (filter (λ p. not (q p)) (map (λ entry. entry.1) (e ∷ es))) ≡ true
  go true same more = let here : q e.1 ≡ false = subst (λ x. q x ≡ false) (let is : e.1 ≡ place = grind (arith, nat_tests) in sym is) fails in grind (arith, same, here)
  go false same more = let rest = more (grind (arith, there, same)) in grind (arith, rest, same)

-- a known place where the test passes stays known
known-stays : (q : ℕ → Bool) (place : ℕ) (known : List (KeyName × ℕ)) → is_known_place known place ≡ true → q place ≡ true
    → is_known_place (filter (λ entry. q entry.1) known) place ≡ true
known-stays q place [] there passes = cc
known-stays q place (e ∷ es) there passes = go (e.1 == place) refl (λ later. known-stays q place es later passes) where
  go : (b : Bool) → (e.1 == place) ≡ b → (is_known_place es place ≡ true → is_known_place (filter (λ entry. q entry.1) es) place ≡ true)
      → is_known_place (filter (λ entry. q entry.1) (e ∷ es)) place ≡ true
  go true same more = let here : q e.1 ≡ true = subst (λ x. q x ≡ true) (let is : e.1 ≡ place = grind (arith, nat_tests) in sym is) passes in grind (arith, same, here)
  go false same more = let rest = more (grind (arith, there, same)) in grind (arith, rest, same)

-- so it fails where a place isn't known any more
known-no-more : (q : ℕ → Bool) (place : ℕ) (known : List (KeyName × ℕ)) → is_known_place known place ≡ true
    → is_known_place (filter (λ entry. q entry.1) known) place ≡ false → q place ≡ false
known-no-more q place known there gone = by (q place) refl where
  by : (b : Bool) → q place ≡ b → b ≡ false
  by true passes = let no = sym gone ∙ known-stays q place known there passes in cc
  by false fails = refl

-- ---- a context that is tidied

-- which knows the same if each known place was needed
all-needed : (q : ℕ → Bool) (known : List (KeyName × ℕ)) → filter (λ p. not (q p)) (map (λ entry. entry.1) known) ≡ [] → filter (λ entry. q entry.1) known ≡ known
all-needed q [] none = refl
all-needed q (e ∷ es) none = go (q e.1) refl (λ later. all-needed q es later) where
  go : (b : Bool) → q e.1 ≡ b → (filter (λ p. not (q p)) (map (λ entry. entry.1) es) ≡ [] → filter (λ entry. q entry.1) es ≡ es)
      → filter (λ entry. q entry.1) (e ∷ es) ≡ e ∷ es
  go true needed more = rw needed (ap (λ known. e ∷ known) (more (rw needed at none)))
  go false spare more = absurd (let no = rw spare at none in cc)

pub tidied-same : (context : ContextView) → unneeded context ≡ [] → tidied context ≡ context
tidied-same context none = ap (λ (known : List (KeyName × ℕ)). record context { known = known }) (all-needed (is_needed context) context.known none)

-- and nothing if it has no ticket and no wait
none-pass : (q : ℕ → Bool) (known : List (KeyName × ℕ)) → ((place : ℕ) → q place ≡ false) → filter (λ entry. q entry.1) known ≡ []
none-pass q [] fails = refl
none-pass q (e ∷ es) fails = rw (fails e.1) (none-pass q es fails)

pub nothing-known : (context : ContextView) → context.kept ≡ [] → context.wait ≡ None → (tidied context).known ≡ []
nothing-known context no-ticket no-wait = none-pass (is_needed context) context.known (λ place. rw (no-ticket, no-wait) refl)

-- what the tidied context knows is needed
pub is-tidy : (context : ContextView) → IsTidy (tidied context)
is-tidy context = filter_passes (λ (e : KeyName × ℕ). is_needed context e.1) context.known

module _ {S : Type 0} (joins : S → Call → Answer → S → Type 0) where
  -- the pins are given up, and then the context forgets the places
  pub run-tidied : {A : Type 0} (reply : Result A ContextError) (context after : ContextView) (a b : S) → Runs joins a (unpinning_all context.who (unneeded context)) tt b
      → after ≡ tidied context → Runs joins a (tidying (reply, context)) (reply, after) b
  run-tidied {A} reply context after a b run is =
      runs_bind {A = Unit {0}} {B = Outcome A} joins (unpinning_all context.who (unneeded context)) (λ _. Give (reply, tidied context)) a b b tt (reply, after) run
      (ap (λ (c : ContextView). (reply, c)) (sym is), refl)

-- the known places where the context has nothing, from an index on
abbrev pub unneeded_from : ℕ → ContextView → List ℕ
unneeded_from at context = filter (λ place. not (is_needed context place)) (drop at (map (λ entry. entry.1) context.known))

-- the place at an index comes before the rest
drop-there : (places : List ℕ) (at place : ℕ) → slice_get places at ≡ Some place → drop at places ≡ place ∷ drop (suc at) places
drop-there [] at place there = cc
drop-there (p ∷ ps) zero place there = cc
drop-there (p ∷ ps) (suc at) place there = drop-there ps at place there

drop-over : (known : List (KeyName × ℕ)) (at : ℕ) → length known ≤ at → drop at (map (λ entry. entry.1) known) ≡ []
drop-over [] zero over = refl
drop-over [] (suc at) over = refl
drop-over (e ∷ es) zero over = absurd (omega (arith, over))
drop-over (e ∷ es) (suc at) over = drop-over es at (omega (arith, over))

module _ {S : Type 0} (joins : S → Call → Answer → S → Type 0) (context : ContextView) (at : ℕ) where
  parted : (place : ℕ) → slice_get (map (λ entry. entry.1) context.known) at ≡ Some place
      → unneeded_from at context ≡ filter (λ p. not (is_needed context p)) (place ∷ drop (at + 1) (map (λ entry. entry.1) context.known))
  parted place there =
      let places = map (λ (entry : KeyName × ℕ). entry.1) context.known in
      let next : suc at ≡ at + 1 = omega arith in
      ap (filter (λ p. not (is_needed context p))) (drop-there places at place there ∙ ap (λ n. place ∷ drop n places) next)

  goes : (place : ℕ) (places : List ℕ) → is_needed context place ≡ false
      → filter (λ p. not (is_needed context p)) (place ∷ places) ≡ place ∷ filter (λ p. not (is_needed context p)) places
  goes place places spare = grind (arith, spare)

  stays : (place : ℕ) (places : List ℕ) → is_needed context place ≡ true
      → filter (λ p. not (is_needed context p)) (place ∷ places) ≡ filter (λ p. not (is_needed context p)) places
  stays place places needed = grind (arith, needed)

  pub left-same : (place : ℕ) → slice_get (map (λ entry. entry.1) context.known) at ≡ Some place → is_needed context place ≡ true
      → unneeded_from at context ≡ unneeded_from (at + 1) context
  left-same place there needed = parted place there ∙ stays place (drop (at + 1) (map (λ entry. entry.1) context.known)) needed

  -- the pin of the next place is given up
  pub run-unpinned : (place : ℕ) (a mid b : S) → slice_get (map (λ entry. entry.1) context.known) at ≡ Some place → is_needed context place ≡ false
      → Runs joins a (unpinning_all context.who (place ∷ [])) tt mid → Runs joins mid (unpinning_all context.who (unneeded_from (at + 1) context)) tt b
      → Runs joins a (unpinning_all context.who (unneeded_from at context)) tt b
  run-unpinned place a mid b there spare (answer, next, step, (same, here)) run =
      subst (λ places. Runs joins a (unpinning_all context.who places) tt b)
      (sym (parted place there ∙ goes place (drop (at + 1) (map (λ entry. entry.1) context.known)) spare)) (answer, next, step, subst (λ s. Runs joins s (unpinning_all context.who (unneeded_from (at + 1) context)) tt b) (sym here) run)

  -- or the place is needed
  pub run-spared : (place : ℕ) (a b : S) → slice_get (map (λ entry. entry.1) context.known) at ≡ Some place → is_needed context place ≡ true
      → Runs joins a (unpinning_all context.who (unneeded_from (at + 1) context)) tt b → Runs joins a (unpinning_all context.who (unneeded_from at context)) tt b
  run-spared place a b there needed run =
      subst (λ places. Runs joins a (unpinning_all context.who places) tt b) (sym (left-same place there needed)) run

  -- and in the end none is left
  pub none-left : length context.known ≤ at → unneeded_from at context ≡ []
  none-left over = ap (filter (λ p. not (is_needed context p))) (drop-over context.known at over)

  pub run-over : (a : S) → length context.known ≤ at → Runs joins a (unpinning_all context.who (unneeded_from at context)) tt a
  run-over a over = subst (λ places. Runs joins a (unpinning_all context.who places) tt a) (sym (none-left over)) (refl, refl)

-- ---- over a space

module _ {S : Type 0} (members : Ghosts S) (laws : LawsOf members) where
  -- what a session that gave up its pins of these places still has, and what it hasn't
  pub record GaveUp (who : ℕ) (places : List ℕ) (a b : S) : Type 0 where
    pub speaks : members.speaks_for b who
    pub held : (members.own b who).held ≡ (members.own a who).held
    pub wait : (members.own b who).wait ≡ (members.own a who).wait
    pub knows : (place : ℕ) (key : KeyName) → is_among place places ≡ false → members.knows a who place key → members.knows b who place key
    pub pinned : (place : ℕ) → is_among place places ≡ false → is_pinned place (members.own a who) ≡ true → is_pinned place (members.own b who) ≡ true
    pub fewer : (place : ℕ) → is_pinned place (members.own a who) ≡ false → is_pinned place (members.own b who) ≡ false
    pub gone : (place : ℕ) → is_among place places ≡ true → (HoldsAt place (members.own a who) → ⊥) → (AwaitsAt place (members.own a who) → ⊥)
        → (is_pinned place (members.own b who) ≡ false) ⊎ members.owes a who place

  -- a pin that isn't needed goes, unless the session owes the place a reschedule
  unpin-gone : (a b : S) (who place : ℕ) (answer : Answer) → members.joins a (Unpin who place) answer b → (HoldsAt place (members.own a who) → ⊥)
      → (AwaitsAt place (members.own a who) → ⊥) → (is_pinned place (members.own b who) ≡ false) ⊎ members.owes a who place
  unpin-gone a b who place answer step unheld unawaited =
      by answer step (laws.fits a b (Unpin who place) answer step) (laws.explains a b (Unpin who place) answer who refl step)
      (laws.changes a b (Unpin who place) answer who refl step)
    where
      by : (x : Answer) → members.joins a (Unpin who place) x b → is_answer_of (Unpin who place) x ≡ true
          → IsExplained (members.knows a who) (Unpin who place) x (members.own a who) → members.own b who ≡ own_after (Unpin who place) x (members.own a who)
          → (is_pinned place (members.own b who) ≡ false) ⊎ members.owes a who place
      by Done made fits told now = inl (ap (is_pinned place) now ∙ unpinned-here place (members.own a who))
      by (Refused NoPlace) made fits told now = inl (ap (is_pinned place) now ∙ told)
      by (Refused InUse) made fits told now = elim (laws.unpins_in_use a b who place made) [
        | inl holds ↦ absurd (unheld holds)
        | inr (inl awaits) ↦ absurd (unawaited awaits)
        | inr (inr owes) ↦ inr owes
      ]
      by (Refused _) made fits told now = absurd told
      by _ made fits told now = cc

  pub holds-back : (place : ℕ) (before after : SessionLocks) → after.held ≡ before.held → HoldsAt place after → HoldsAt place before
  holds-back place before after same (ticket, among, at) = (ticket, subst (λ hs. Contains hs ticket) same among, at)

  pub awaits-back : (place : ℕ) (before after : SessionLocks) → after.wait ≡ before.wait → AwaitsAt place after → AwaitsAt place before
  awaits-back place before after same (wait, waits, at) = (wait, sym same ∙ waits, at)

  apart : (place p : ℕ) (ps : List ℕ) → is_among place (p ∷ ps) ≡ false → (place ≢ p) × (is_among place ps ≡ false)
  apart place p ps out = (λ same. grind (arith, nat_tests, out, same), grind (arith, out))

  pub gave-up-pins : (who : ℕ) (places : List ℕ) (a b : S) → members.speaks_for a who → Runs members.joins a (unpinning_all who places) tt b → GaveUp who places a b
  gave-up-pins who [] a b speaks (same, here) = subst (GaveUp who [] a) here (record {
    speaks = speaks;
    held = refl;
    wait = refl;
    knows = λ place key out knew. knew;
    pinned = λ place out pinned. pinned;
    fewer = λ place none. none;
    gone = λ place among unheld unawaited. cc;
  })
  gave-up-pins who (p ∷ ps) a b speaks (answer, mid, step, run) =
      let rest = gave-up-pins who ps mid b (laws.keeps a mid (Unpin who p) answer who speaks step) run in
      let now = laws.changes a mid (Unpin who p) answer who refl step in
      let same = unpin-held who p answer (members.own a who) in
      let held : (members.own mid who).held ≡ (members.own a who).held = ap (λ (o : SessionLocks). o.held) now ∙ same.0 in
      let wait : (members.own mid who).wait ≡ (members.own a who).wait = ap (λ (o : SessionLocks). o.wait) now ∙ same.1 in
      record {
        speaks = rest.speaks;
        held = rest.held ∙ held;
        wait = rest.wait ∙ wait;
        knows = λ place key out knew.
            rest.knows place key (apart place p ps out).1 (laws.remembers a mid (Unpin who p) answer who place key speaks (λ e done. (apart place p ps out).0 (other e)) step knew);
        pinned = λ place out pinned.
            rest.pinned place (apart place p ps out).1 (ap (is_pinned place) now ∙ unpin-others who p answer (members.own a who) place (apart place p ps out).0 pinned);
        fewer = λ place none. rest.fewer place (ap (is_pinned place) now ∙ unpin-fewer who p answer (members.own a who) place none);
        gone = λ place among unheld unawaited. go place among unheld unawaited rest held wait (p == place) refl;
      }
    where
      other : {place : ℕ} → Unpin who p ≡ Unpin who place → place ≡ p
      other e = cc

      go : (place : ℕ) → is_among place (p ∷ ps) ≡ true → (HoldsAt place (members.own a who) → ⊥) → (AwaitsAt place (members.own a who) → ⊥) → GaveUp who ps mid b
          → (members.own mid who).held ≡ (members.own a who).held → (members.own mid who).wait ≡ (members.own a who).wait → (t : Bool) → (p == place) ≡ t
          → (is_pinned place (members.own b who) ≡ false) ⊎ members.owes a who place
      go place among unheld unawaited rest held wait true same =
          let is : p ≡ place = grind (arith, nat_tests) in
          elim (unpin-gone a mid who place answer (subst (λ x. members.joins a (Unpin who x) answer mid) is step) unheld unawaited) [
            | inl none ↦ inl (rest.fewer place none)
            | inr owes ↦ inr owes
          ]
      go place among unheld unawaited rest held wait false same =
          let later : is_among place ps ≡ true = grind (arith, among, same) in
          elim (rest.gone place later (λ holds. unheld (holds-back place (members.own a who) (members.own mid who) held holds))
          (λ awaits. unawaited (awaits-back place (members.own a who) (members.own mid who) wait awaits))) [
            | inl none ↦ inl none
            | inr owes ↦ inr (laws.no_new_debts a mid (Unpin who p) answer who place speaks step owes)
          ]

  module _ (a b : S) (context : ContextView) (attends : Attends members a context) (run : Runs members.joins a (unpinning_all context.who (unneeded context)) tt b) where
    end : GaveUp context.who (unneeded context) a b
    end = gave-up-pins context.who (unneeded context) a b attends.speaks run

    needed-stays : (place : ℕ) → is_needed context place ≡ true → is_among place (unneeded context) ≡ false
    needed-stays place needed = stays-apart (is_needed context) place (map (λ entry. entry.1) context.known) needed

    -- the tidied context attends to the session
    pub attends-tidied : Attends members b (tidied context)
    attends-tidied = record {
      speaks = end.speaks;
      serves = record { held = end.held ∙ attends.serves.held; wait = ap (option_map wish_there) end.wait ∙ attends.serves.wait };
      known = λ k d inside.
          end.knows _ _ (needed-stays _ (filter_passes needs context.known k d inside))
          (All-filter needs (λ entry. members.knows a context.who entry.1 entry.0) context.known attends.known k d inside);
      pinned = λ k d inside.
          end.pinned _ (needed-stays _ (filter_passes needs context.known k d inside))
          (All-filter needs (λ entry. is_pinned entry.1 (members.own a context.who) ≡ true) context.known attends.pinned k d inside);
      places = λ k d inside. known-stays (is_needed context) _ context.known (attends.places k d inside) (needed-held context _ (any-here context.kept k d inside));
      wish = awaited context.wait refl attends.wish;
    }
      where
        needs : KeyName × ℕ → Bool
        needs entry = is_needed context entry.1

        awaited : (wait : Option Wanted) → context.wait ≡ wait → IfSome wait (IsAwaited context.known context.kept) → IfSome wait (IsAwaited (tidied context).known context.kept)
        awaited None is wished = tt
        awaited (Some wanted) is wished = (known-stays (is_needed context) wanted.place context.known wished.0 (needed-wait context wanted is), wished.1)

    -- and has let go of the places that it doesn't know any more
    pub lets-go : LetsGo members a context b (tidied context)
    lets-go place there gone =
        let spare : is_needed context place ≡ false = known-no-more (is_needed context) place context.known there gone in
        end.gone place (goes-among (is_needed context) place context.known there spare)
        (no-ticket (members.own a context.who) context attends.serves place spare) (no-wait-there (members.own a context.who) context attends.serves place spare)

  -- over calls no debt comes
  pub debts-run : {A : Type 0} (program : Program A) (a b : S) (reply : A) (who : ℕ) → members.speaks_for a who → Runs members.joins a program reply b
      → (place : ℕ) → members.owes b who place → members.owes a who place
  debts-run program a b reply who speaks run =
      (runs_keeps members.joins (λ c. members.speaks_for c who × ((place : ℕ) → members.owes c who place → members.owes a who place))
      (λ c d call answer so step.
      (laws.keeps c d call answer who so.0 step, λ place owes. so.1 place (laws.no_new_debts c d call answer who place so.0 step owes)))
      program a b reply (speaks, λ place owes. owes) run).1

  -- a context let places go after other calls, of which it knew all before
  pub let-go-after : {A : Type 0} (program : Program A) (a mid b : S) (reply : A) (before between after : ContextView) → members.speaks_for a before.who
      → Runs members.joins a program reply mid → between.who ≡ before.who → between.known ≡ before.known → LetsGo members mid between b after → LetsGo members a before b after
  let-go-after program a mid b reply before between after speaks run who known let_go place there gone =
      let went = let_go place (ap (λ (es : List (KeyName × ℕ)). is_known_place es place) known ∙ there) gone in
      elim (subst (λ w. (is_pinned place (members.own b w) ≡ false) ⊎ members.owes mid w place) who went) [
        | inl none ↦ inl none
        | inr owes ↦ inr (debts-run program a mid reply before.who speaks run place owes)
      ]

-- ---- what is replied

-- what is so of the reply with the tidied context, is so of the outcome
pub each_tidying : {A : Type 0} (P : Outcome A → Type 0) (reply : Result A ContextError) (context : ContextView) → P (reply, tidied context)
    → Each P (tidying (reply, context))
each_tidying {A} P reply context holds =
    each_then {A = Unit {0}} {B = Outcome A} P (unpinning_all context.who (unneeded context)) (λ _. Give (reply, tidied context)) (λ _. holds)

-- after releases nothing is known that isn't needed
pub releases-leave_tidy : ReleasesLeaveTidy
releases-leave_tidy gone context =
    let left : ContextView = record context { kept = without_tickets gone context.kept } in
    each_then {A = Unit {0}} {B = Outcome (Unit {0})} (λ (o : Outcome (Unit {0})). IsTidy o.1) (releasing_all context.who gone) (λ _. tidying (Ok tt, left))
    (λ _. each_tidying (λ (o : Outcome (Unit {0})). IsTidy o.1) (Ok tt) left (is-tidy left))
