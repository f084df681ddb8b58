-- What a session's context keeps is held in the space, and what it holds stays, over all that a context asks for.
use Rattle.std.proofs.Common.{◌≡◌, ◌≢◌, ◌⊎◌, inl, inr, ℕ, ◌<◌, Bool, true, false, not, List, [], ◌∷◌, ◌++◌, Option, Some, None, Contains, filter, map, refl, sym, ap, ◌∙◌, subst, arith}
use Rattle.std.specs.Prelude.{if◌then◌else◌, nat_lt, IsTrue}
use Rattle.std.specs.List.{list_all}
use Rattle.std.proofs.lemmas.Bool.{false≢true}
use Rattle.std.proofs.lemmas.Bool.Decides.{nat_tests}
use Rattle.std.proofs.lemmas.List.Elements.{Contains-append_right, Contains-append_cases}
use Rattle.mdl_key.specs.declared.mode.Duration.TheVariants.{Explicit}
use Rattle.mdl_key.specs.declared.mode.Mode.{Mode}
use Rattle.mdl_key.specs.Keys.{KeyName, key_eq}
use Rattle.mdl_system.proofs.Deciding.{key-Decides}
use Rattle.mdl_system.proofs.MemberLemmas.{Contains-map_from, Contains-none}
use Rattle.mdl_system.proofs.OrderLemmas.{Contains-cons_cases, Contains-here, Contains-later}
use Rattle.mdl_calls.specs.declared.answers.Held.{Held}
use Rattle.mdl_calls.specs.SessionLocks.{Wait}
use Rattle.mdl_calls.specs.Words.{SessionLocks, IsRising, are_rising, gaining}
use Rattle.mdl_core.specs.CoreJoins.{Knows, SpeaksFor, locks_at}
use Rattle.mdl_core.specs.Cores.{Core, key_at}
use Rattle.mdl_context.specs.declared.kept.Kept.{Kept}
use Rattle.mdl_context.specs.declared.kept.Wanted.{Wanted}
use Rattle.mdl_context.specs.Holdings.{kept_for}
use Rattle.mdl_context.specs.Contexts.{ContextView, place_known}
use Rattle.mdl_context.specs.Tidying.{is_needed, tidied, unneeded}
use Rattle.mdl_script_laws.proofs.ListLemmas.{among-filter, only-one}
use Rattle.mdl_script_laws.proofs.ShownCalls.{Leaves, Spares, Stays, Unpins, leaves-spared, leaves-then, leaves-unpinned, none, spares-here, spares-then}

-- ---- tickets with rising numbers

last_above : (xs : List Held) (x : Held) (n : ℕ) → IsTrue (list_all (λ other. nat_lt n other.id) (xs ++ x ∷ [])) → n < x.id
last_above [] x n all = grind (arith, nat_tests)
last_above (y ∷ ys) x n all = grind (arith, nat_tests, last_above ys x n)

below-last : (xs : List Held) (x t : Held) → IsTrue (are_rising (xs ++ x ∷ [])) → Contains xs t → t.id < x.id
below-last [] x t rising among = absurd (Contains-none t among)
below-last (y ∷ ys) x t rising among =
    let first : IsTrue (list_all (λ other. nat_lt y.id other.id) (ys ++ x ∷ [])) = grind (arith, nat_tests) in
    let rest : IsTrue (are_rising (ys ++ x ∷ [])) = grind (arith, nat_tests) in
    elim (Contains-cons_cases y ys t among) [
      | inl later ↦ below-last ys x t rest later
      | inr same ↦ subst (λ (z : Held). z.id < x.id) (sym same) (last_above ys x y.id first)
    ]

-- a session holds no ticket of this number
abbrev pub IsFresh : Core → ℕ → ℕ → Type 0
IsFresh a who id = (t : Held) → Contains (locks_at a who).held t → t.id ≢ id

pub gained-fresh : (id place : ℕ) (mode : Mode) (own : SessionLocks) → IsRising (gaining id place mode own) → (t : Held) → Contains own.held t → t.id ≢ id
gained-fresh id place mode own rising t among same = let lt = below-last own.held
    (record { id = id; place = place; mode = mode }) t rising among in omega (arith, lt, same)

pub gained-there : (id place : ℕ) (mode : Mode) (own : SessionLocks) → Contains (gaining id place mode own).held (record { id = id; place = place; mode = mode })
gained-there id place mode own = Contains-append_right own.held (_ ∷ []) _ (Contains-here _ [])

-- ---- what a context keeps

-- the space speaks for the context's session, each kept ticket is held at its place, and kept tickets of one number for as long;
-- the session knows the places of known keys, and waits where the context says
pub record Fits (a : Core) (context : ContextView) : Type 0 where
  pub speaks : SpeaksFor a context.who
  pub backed : (k : Kept) → Contains context.kept k → (t : Held) × Contains (locks_at a context.who).held t × (t.id ≡ k.id) × (t.place ≡ k.place)
  pub alone : (k other : Kept) → Contains context.kept k → Contains context.kept other → k.id ≡ other.id → k.duration ≡ other.duration
  pub known : (key : KeyName) (place : ℕ) → Contains context.known (key, place) → Knows a context.who place key
  pub wait : (wanted : Wanted) (w : Wait) → context.wait ≡ Some wanted → (locks_at a context.who).wait ≡ Some w → w.place ≡ wanted.place

-- the place of a key that is known is known with it
place-among : (key : KeyName) (known : List (KeyName × ℕ)) (place : ℕ) → place_known key known ≡ Some place → Contains known (key, place)
place-among key [] place e = cc
place-among key (x ∷ xs) place e = go (key_eq key x.0) refl e (place-among key xs place)
  where
    go : (b : Bool) → key_eq key x.0 ≡ b → (if b then Some x.1 else place_known key xs) ≡ Some place
        → (place_known key xs ≡ Some place → Contains xs (key, place)) → Contains (x ∷ xs) (key, place)
    go true same f later =
        let first : x.0 ≡ key = sym ((key-Decides key x.0).0 same) in
        let second : x.1 ≡ place = cc in
        subst (λ (y : KeyName × ℕ). Contains (x ∷ xs) y) (λ i. (first i, second i)) (Contains-here x xs)
    go false other f later = Contains-later x xs (key, place) (later f)

pub fits-known : (a : Core) (context : ContextView) (key : KeyName) (place : ℕ) → Fits a context → place_known key context.known ≡ Some place
    → Knows a context.who place key
fits-known a context key place fits e = fits.known key place (place-among key context.known place e)

-- fewer tickets are kept
pub fits-fewer : (a b : Core) (context : ContextView) (gone : ℕ → Type 0) (p : Kept → Bool) → ((k : Kept) → p k ≡ true → gone k.id → ⊥) → Fits a context
    → Stays context.who gone a b → Fits b (record context { kept = filter p context.kept })
fits-fewer a b context gone p stay fits stays = record {
  speaks = stays.0.speaks;
  backed = λ k among.
      let h = among-filter p context.kept k among in
      let t = fits.backed k h.0 in
      (t.0, stays.0.held t.0 t.1 (λ g. stay k h.1 (subst gone t.2 g)), t.2, t.3);
  alone = λ k other one two e. fits.alone k other (among-filter p context.kept k one).0 (among-filter p context.kept other two).0 e;
  known = λ key place e. stays.0.known place key (fits.known key place e);
  wait = λ wanted w e f. fits.wait wanted w e (stays.1 w f);
}

-- a place where the context has something isn't given up
needed-stays : (context : ContextView) (place : ℕ) → is_needed context place ≡ true → Contains (unneeded context) place → ⊥
needed-stays context place needs among =
    let h = among-filter (λ p. not (is_needed context p)) (map (λ (entry : KeyName × ℕ). entry.1) context.known) place among in
    let g = ap not needs in
    cc

-- the same are, and the pins of the known places where it has nothing are given up
pub fits-tidied : (a b : Core) (context : ContextView) → Fits a context → Unpins context.who (unneeded context) a b → Fits b (tidied context)
fits-tidied a b context fits unpins = record {
  speaks = unpins.speaks;
  backed = λ k among. (let t = fits.backed k among in (t.0, subst (λ held. Contains held t.0) (sym unpins.held) t.1, t.2, t.3));
  alone = fits.alone;
  known = λ key place among.
      let h = among-filter (λ (entry : KeyName × ℕ). is_needed context entry.1) context.known (key, place) among in
      unpins.known place key (needed-stays context place h.1) (fits.known key place h.0);
  wait = λ wanted w e f. fits.wait wanted w e (sym unpins.wait ∙ f);
}

-- the same are, and all for as long
pub fits-kept : (a : Core) (context : ContextView) → Fits a context → Fits a (record context { kept = map (kept_for Explicit) context.kept })
fits-kept a context fits = record {
  speaks = fits.speaks;
  backed = λ k among. (
      let from = Contains-map_from (kept_for Explicit) context.kept k among in
      let t = fits.backed from.0 from.1 in
      (t.0, t.1, t.2 ∙ sym (ap (λ (x : Kept). x.id) from.2), t.3 ∙ sym (ap (λ (x : Kept). x.place) from.2)));
  alone = λ k other one two e. (
      let first = Contains-map_from (kept_for Explicit) context.kept k one in
      let second = Contains-map_from (kept_for Explicit) context.kept other two in
      ap (λ (x : Kept). x.duration) first.2 ∙ sym (ap (λ (x : Kept). x.duration) second.2));
  known = fits.known;
  wait = fits.wait;
}

-- the same are, with a wait where the session waits
pub fits-waiting : (a b : Core) (context : ContextView) (wait : Option Wanted) → Fits a context → Spares context.who none a b
    → ((wanted : Wanted) (w : Wait) → wait ≡ Some wanted → (locks_at b context.who).wait ≡ Some w → w.place ≡ wanted.place)
    → Fits b (record context { wait = wait })
fits-waiting a b context wait fits spares at = record {
  speaks = spares.speaks;
  backed = λ k among. (let t = fits.backed k among in (t.0, spares.held t.0 t.1 (λ g. g), t.2, t.3));
  alone = fits.alone;
  known = λ key place e. spares.known place key (fits.known key place e);
  wait = at;
}

-- and with the wait that it has
pub fits-same : (a b : Core) (context : ContextView) → Fits a context → Stays context.who none a b → Fits b context
fits-same a b context fits stays = fits-waiting a b context context.wait fits stays.0 (λ wanted w e f. fits.wait wanted w e (stays.1 w f))

-- one more is, of a new number
pub fits-more : (a b : Core) (context : ContextView) (new : Kept) (t : Held) → Fits a context → Spares context.who none a b → IsFresh a context.who new.id
    → Contains (locks_at b context.who).held t → t.id ≡ new.id → t.place ≡ new.place
    → Fits b (record { who = context.who; kept = context.kept ++ new ∷ []; known = context.known; wait = None })
fits-more a b context new t fits spares fresh there number place = record {
  speaks = spares.speaks;
  backed = λ k among. elim (last k among) [
    | inl old ↦ (let h = fits.backed k old in (h.0, spares.held h.0 h.1 (λ g. g), h.2, h.3))
    | inr e ↦ (t, there, number ∙ ap (λ (x : Kept). x.id) (sym e), place ∙ ap (λ (x : Kept). x.place) (sym e))
  ];
  alone = λ k other one two e. apart k other (last k one) (last other two) e;
  known = λ key p e. spares.known p key (fits.known key p e);
  wait = λ wanted w e f. cc;
}
  where
    last : (k : Kept) → Contains (context.kept ++ new ∷ []) k → Contains context.kept k ⊎ (k ≡ new)
    last k among = elim (Contains-append_cases context.kept (new ∷ []) k among) [ inl old ↦ inl old | inr late ↦ inr (only-one new k late) ]

    not_old : (k : Kept) → Contains context.kept k → k.id ≡ new.id → ⊥
    not_old k old e = let h = fits.backed k old in fresh h.0 h.1 (h.2 ∙ e)

    apart : (k other : Kept) → Contains context.kept k ⊎ (k ≡ new) → Contains context.kept other ⊎ (other ≡ new) → k.id ≡ other.id → k.duration ≡ other.duration
    apart k other (inl one) (inl two) e = fits.alone k other one two e
    apart k other (inl one) (inr two) e = absurd (not_old k one (e ∙ ap (λ (x : Kept). x.id) two))
    apart k other (inr one) (inl two) e = absurd (not_old other two (sym e ∙ ap (λ (x : Kept). x.id) one))
    apart k other (inr one) (inr two) e = ap (λ (x : Kept). x.duration) (one ∙ sym two)

-- it keeps what it kept, or one ticket of a new number more
abbrev pub Grown : Core → ℕ → List Kept → List Kept → Type 0
Grown a who before after = (after ≡ before) ⊎ ((new : Kept) × IsFresh a who new.id × (after ≡ before ++ new ∷ []))

-- it kept so before something else was done
grown-late : (a b : Core) (who : ℕ) (before after : List Kept) → Spares who none a b → Grown b who before after → Grown a who before after
grown-late a b who before after spares (inl same) = inl same
grown-late a b who before after spares (inr (new, fresh, more)) = inr (new, λ t among. fresh t (spares.held t among (λ g. g)), more)

-- ---- a context that asks

-- a context asked for something: it fits still, its session keeps its tickets and pins, and it keeps what it kept
pub record Spared (a : Core) (before : ContextView) (b : Core) (after : ContextView) : Type 0 where
  pub fits : Fits b after
  pub spares : Spares before.who none a b
  pub who : after.who ≡ before.who
  pub grown : Grown a before.who before.kept after.kept

pub spared-here : (a : Core) (context : ContextView) → Fits a context → Spared a context a context
spared-here a context fits = record { fits = fits; spares = spares-here context.who none a fits.speaks; who = refl; grown = inl refl }

pub spared-waiting : (a b : Core) (context : ContextView) (wait : Option Wanted) → Fits a context → Spares context.who none a b
    → ((wanted : Wanted) (w : Wait) → wait ≡ Some wanted → (locks_at b context.who).wait ≡ Some w → w.place ≡ wanted.place)
    → Spared a context b (record context { wait = wait })
spared-waiting a b context wait fits spares at =
    record { fits = fits-waiting a b context wait fits spares at; spares = spares; who = refl; grown = inl refl }

pub spared-same : (a b : Core) (context : ContextView) → Fits a context → Stays context.who none a b → Spared a context b context
spared-same a b context fits stays = record { fits = fits-same a b context fits stays; spares = stays.0; who = refl; grown = inl refl }

-- something was done before
pub spared-late : (a b c : Core) (who : ℕ) (kept : List Kept) (known knew : List (KeyName × ℕ)) (wait still : Option Wanted) (after : ContextView)
    → Spares who none a b
    → Spared b (record { who = who; kept = kept; known = knew; wait = still }) c after
    → Spared a (record { who = who; kept = kept; known = known; wait = wait }) c after
spared-late a b c who kept known knew wait still after spares spared = record {
  fits = spared.fits;
  spares = spares-then who none a b c spares spared.spares;
  who = spared.who;
  grown = grown-late a b who kept after.kept spares spared.grown;
}

-- the same where it may have let go of places
pub record Followed (a : Core) (before : ContextView) (b : Core) (after : ContextView) : Type 0 where
  pub fits : Fits b after
  pub leaves : Leaves before.who none a b
  pub who : after.who ≡ before.who
  pub grown : Grown a before.who before.kept after.kept

pub followed-spared : (a b : Core) (before after : ContextView) → Fits a before → Spared a before b after → Followed a before b after
followed-spared a b before after fits spared = record {
  fits = spared.fits;
  leaves = leaves-spared before.who none a b fits.speaks spared.spares;
  who = spared.who;
  grown = spared.grown;
}

pub followed-here : (a : Core) (context : ContextView) → Fits a context → Followed a context a context
followed-here a context fits = followed-spared a a context context fits (spared-here a context fits)

pub followed-same : (a b : Core) (context : ContextView) → Fits a context → Stays context.who none a b → Followed a context b context
followed-same a b context fits stays = followed-spared a b context context fits (spared-same a b context fits stays)

pub followed-late : (a b c : Core) (who : ℕ) (kept : List Kept) (known knew : List (KeyName × ℕ)) (wait still : Option Wanted) (after : ContextView)
    → SpeaksFor a who → Spares who none a b
    → Followed b (record { who = who; kept = kept; known = knew; wait = still }) c after
    → Followed a (record { who = who; kept = kept; known = known; wait = wait }) c after
followed-late a b c who kept known knew wait still after speaks spares followed = record {
  fits = followed.fits;
  leaves = leaves-then who none a b c (leaves-spared who none a b speaks spares) followed.leaves;
  who = followed.who;
  grown = grown-late a b who kept after.kept spares followed.grown;
}

-- a place of a key that isn't known
none-known : (key : KeyName) (known : List (KeyName × ℕ)) (place : ℕ) → place_known key known ≡ None → Contains known (key, place) → ⊥
none-known key [] place e among = Contains-none (key, place) among
none-known key (x ∷ xs) place e among = go (key_eq key x.0) refl e (none-known key xs place)
  where
    go : (b : Bool) → key_eq key x.0 ≡ b → (if b then Some x.1 else place_known key xs) ≡ None → (place_known key xs ≡ None → Contains xs (key, place) → ⊥) → ⊥
    go true same f later = cc
    go false other f later = elim (Contains-cons_cases x xs (key, place) among) [
      | inl there ↦ later f there
      | inr first ↦ false≢true (sym other ∙ (key-Decides key x.0).1 (ap (λ (y : KeyName × ℕ). y.0) first))
    ]

-- the pin of a place that was looked up is given up again, and the context is as it was
pub followed-forgotten : (a b c : Core) (context : ContextView) (key : KeyName) (place : ℕ) → Fits a context → context.wait ≡ None
    → place_known key context.known ≡ None → Spares context.who none a b → Knows b context.who place key → Unpins context.who (place ∷ []) b c
    → Followed a context c context
followed-forgotten a b c context key place fits idle new spares knows unpins = record {
  fits = record {
    speaks = unpins.speaks;
    backed = λ k among.
        let t = fits.backed k among in
        (t.0, subst (λ held. Contains held t.0) (sym unpins.held) (spares.held t.0 t.1 (λ g. g)), t.2, t.3);
    alone = fits.alone;
    known = λ other p among. unpins.known p other (apart other p among) (known other p among);
    wait = λ wanted w e f. (let g = sym idle ∙ e in cc);
  };
  leaves = leaves-unpinned context.who none (place ∷ []) a b c (leaves-spared context.who none a b fits.speaks spares) unpins;
  who = refl;
  grown = inl refl;
}
  where
    known : (other : KeyName) (p : ℕ) → Contains context.known (other, p) → Knows b context.who p other
    known other p among = spares.known p other (fits.known other p among)

    apart : (other : KeyName) (p : ℕ) → Contains context.known (other, p) → Contains (place ∷ []) p → ⊥
    apart other p among there =
        let same : p ≡ place = only-one place p there in
        let its : other ≡ key = sym (known other p among).1 ∙ ap (λ q. key_at q b) same ∙ knows.1 in
        none-known key context.known p new (subst (λ k. Contains context.known (k, p)) its among)
