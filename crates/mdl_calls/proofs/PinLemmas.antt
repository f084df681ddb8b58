-- Pinned places, as calls change them.
use Rattle.std.proofs.Common.{◌≡◌, ◌≢◌, ◌⊎◌, ℕ, ◌<◌, Bool, true, false, not, ◌==◌, nat_lt, List, [], ◌∷◌, ◌++◌, map, filter, find, Option, Some, None, IfSome, Contains, get_or, inl, inr, refl, sym, ap, subst, ◌∙◌, arith, if◌then◌else◌}
use Rattle.std.proofs.lemmas.Bool.Decides.{eqb_tells, nat_tests}
use Rattle.std.proofs.lemmas.List.{get_or_default}
use Rattle.std.proofs.lemmas.List.Folds.{list_all-append}
use Rattle.std.proofs.lemmas.List.Sums.{AllPass-from_list_all, list_all-from_AllPass}
use Rattle.std.specs.List.{list_all, list_any}
use Rattle.mdl_calls.specs.Effects.{Begins, Clones, Effect, Ends, Gains, GivesUp, Keeps, Lowers, Merges, Pins, Raises, Unpins, Wins, own_by}
use Rattle.mdl_calls.specs.Prelude.{Held, KeyName, Mode, Settled, VersionedDefinition}
use Rattle.mdl_calls.specs.Reads.{AwaitsAt, HoldsAt}
use Rattle.mdl_calls.specs.SessionLocks.{Numbers, SessionLocks, Wait, are_at_pins, are_rising_places, cloning, giving_up, is_number, is_pinned, merging, pinning, ticket_held, unpinning, upgraded, winning, with_place, without_place}
use Rattle.mdl_calls.specs.SpaceLaws.{SpaceLaws}
use Rattle.mdl_calls.specs.Words.{Answer, Call}

-- ---- lists of places

-- whether a place is among others
abbrev pub is_among : ℕ → List ℕ → Bool
is_among place places = list_any (λ (p : ℕ). p == place) places

-- a place that was put among others is there
pub with-here : (place : ℕ) (places : List ℕ) → is_among place (with_place place places) ≡ true
with-here place [] = grind (arith, nat_tests)
with-here place (first ∷ later) = grind (arith, nat_tests, with-here place later)

-- and the others still are
pub with-keeps : (other place : ℕ) (places : List ℕ) → is_among other places ≡ true → is_among other (with_place place places) ≡ true
with-keeps other place [] among = cc
with-keeps other place (first ∷ later) among = grind (arith, nat_tests, with-keeps other place later)

-- nothing else is there
with-other : (other place : ℕ) (places : List ℕ) → other ≢ place → is_among other (with_place place places) ≡ is_among other places
with-other other place [] apart = grind (arith, nat_tests)
with-other other place (first ∷ later) apart = grind (arith, nat_tests, with-other other place later)

pub with-told : (other place : ℕ) (places : List ℕ) → is_among other (with_place place places) ≡ true → (other ≡ place) ⊎ (is_among other places ≡ true)
with-told other place places among = elim (eqb_tells other place) [
  | inl same ↦ inl same.1
  | inr apart ↦ inr (sym (with-other other place places apart.1) ∙ among)
]

-- a place that was taken from others isn't there
pub without-gone : (place : ℕ) (places : List ℕ) → is_among place (without_place place places) ≡ false
without-gone place [] = refl
without-gone place (first ∷ later) = grind (arith, nat_tests, without-gone place later)

-- but the others still are
pub without-keeps : (other place : ℕ) (places : List ℕ) → other ≢ place → is_among other places ≡ true → is_among other (without_place place places) ≡ true
without-keeps other place [] apart among = cc
without-keeps other place (first ∷ later) apart among = grind (arith, nat_tests, without-keeps other place later)

-- and they were there
pub without-told : (other place : ℕ) (places : List ℕ) → is_among other (without_place place places) ≡ true → is_among other places ≡ true
without-told other place [] among = cc
without-told other place (first ∷ later) among = grind (arith, nat_tests, without-told other place later)

-- ---- a test of all places

module _ (test : ℕ → Bool) where
  -- one more passes
  pub all-with : (place : ℕ) (places : List ℕ) → list_all test places ≡ true → test place ≡ true → list_all test (with_place place places) ≡ true
  all-with place [] all passes = grind arith
  all-with place (first ∷ later) all passes = grind (arith, all-with place later)

  -- one fewer
  pub all-without : (place : ℕ) (places : List ℕ) → list_all test places ≡ true → list_all test (without_place place places) ≡ true
  all-without place [] all = refl
  all-without place (first ∷ later) all = grind (arith, all-without place later)

  -- one among them
  pub all-among : (place : ℕ) (places : List ℕ) → list_all test places ≡ true → is_among place places ≡ true → test place ≡ true
  all-among place [] all among = cc
  all-among place (first ∷ later) all among = grind (arith, nat_tests, all-among place later)

-- a weaker test
pub all-weaker : (test other : ℕ → Bool) → ((place : ℕ) → test place ≡ true → other place ≡ true) → (places : List ℕ) → list_all test places ≡ true
    → list_all other places ≡ true
all-weaker test other weaker [] all = refl
all-weaker test other weaker (first ∷ later) all = grind (arith, weaker first, all-weaker test other weaker later)

-- ---- rising places

-- what is below a place is below those above it
above-below : (place first : ℕ) (later : List ℕ) → place < first → list_all (λ other. nat_lt first other) later ≡ true → list_all (λ other. nat_lt place other) later ≡ true
above-below place first later lt =
    all-weaker (λ other. nat_lt first other) (λ other. nat_lt place other) (λ other above. grind (arith, nat_tests)) later

-- one more
pub with-rise : (place : ℕ) (places : List ℕ) → are_rising_places places ≡ true → are_rising_places (with_place place places) ≡ true
with-rise place [] rise = refl
with-rise place (first ∷ later) rise =
    grind (arith, nat_tests, with-rise place later, all-with (λ other. nat_lt first other) place later, above-below place first later)

-- one fewer
pub without-rise : (place : ℕ) (places : List ℕ) → are_rising_places places ≡ true → are_rising_places (without_place place places) ≡ true
without-rise place [] rise = refl
without-rise place (first ∷ later) rise = grind (arith, without-rise place later, all-without (λ other. nat_lt first other) place later)

-- ---- what a session pins

module _ (place : ℕ) (own : SessionLocks) where
  -- a place that it pinned
  pub pinned-here : is_pinned place (pinning place own) ≡ true
  pinned-here = with-here place own.pins

  -- and one whose pin it gave up
  pub unpinned-here : is_pinned place (unpinning place own) ≡ false
  unpinned-here = without-gone place own.pins

module _ (other place : ℕ) (own : SessionLocks) where
  -- it still pins what it pinned before
  pub pinned-still : is_pinned other own ≡ true → is_pinned other (pinning place own) ≡ true
  pinned-still = with-keeps other place own.pins

  -- and nothing else but the new place
  pub pinned-told : is_pinned other (pinning place own) ≡ true → (other ≡ place) ⊎ (is_pinned other own ≡ true)
  pinned-told = with-told other place own.pins

  -- it still pins the other places
  pub unpinned-still : other ≢ place → is_pinned other own ≡ true → is_pinned other (unpinning place own) ≡ true
  unpinned-still = without-keeps other place own.pins

  -- and only those
  pub unpinned-told : is_pinned other (unpinning place own) ≡ true → (other ≢ place) × (is_pinned other own ≡ true)
  unpinned-told among = (
    λ same. (let gone = without-gone place own.pins in let here = subst (λ p. is_among p (without_place place own.pins) ≡ true) same among in let no = sym gone ∙ here in cc),
    without-told other place own.pins among,
  )

-- the places of tickets, told one by one
pub at_pins-told : (own : SessionLocks) (tickets : List Held) (ticket : Held) → are_at_pins own tickets ≡ true → Contains tickets ticket
    → is_pinned ticket.place own ≡ true
at_pins-told own tickets ticket all among =
    subst (λ (t : Held). is_pinned t.place own ≡ true) among.2
    (AllPass-from_list_all (λ (t : Held). is_pinned t.place own) tickets all among.0 ticket among.1)

pub at_pins-from : (own : SessionLocks) (tickets : List Held) → ((ticket : Held) → Contains tickets ticket → is_pinned ticket.place own ≡ true)
    → are_at_pins own tickets ≡ true
at_pins-from own tickets each =
    list_all-from_AllPass (λ (t : Held). is_pinned t.place own) tickets
    (λ k d lt. each (get_or tickets k d) (k, lt, get_or_default tickets k (get_or tickets k d) d lt))

-- ---- what calls do to pins

-- the places that are pinned after a call of this effect
abbrev pub pins_by : Effect → List ℕ → List ℕ
pins_by (Pins place) pins = with_place place pins
pins_by (Unpins place) pins = without_place place pins
pins_by _ pins = pins

-- no other call changes them
pub pins-after : (effect : Effect) (own : SessionLocks) → (own_by effect own).pins ≡ pins_by effect own.pins
pins-after Keeps own = refl
pins-after (Gains id place mode) own = refl
pins-after (Begins number place mode) own = refl
pins-after (Wins id) own = elim own.wait as (λ o. (winning id o own).pins ≡ own.pins) [ None ↦ refl | Some wait ↦ refl ]
pins-after Ends own = refl
pins-after (GivesUp id) own = refl
pins-after (Clones copy id mode) own = elim (ticket_held id own) as (λ o. (cloning copy mode o own).pins ≡ own.pins) [ None ↦ refl | Some ticket ↦ refl ]
pins-after (Raises id mode) own = refl
pins-after (Merges old new) own = elim (ticket_held new own) as (λ o. (merging old new o own).pins ≡ own.pins) [ None ↦ refl | Some ticket ↦ refl ]
pins-after (Lowers id mode) own = refl
pins-after (Pins place) own = refl
pins-after (Unpins place) own = refl

-- a pinned place stays pinned, unless its pin is given up
pub pinned-after : (effect : Effect) (place : ℕ) (own : SessionLocks) → (effect ≡ Unpins place → ⊥) → is_pinned place own ≡ true
    → is_pinned place (own_by effect own) ≡ true
pinned-after effect place own kept pinned = ap (is_among place) (pins-after effect own) ∙ by effect kept
  where
    by : (effect : Effect) → (effect ≡ Unpins place → ⊥) → is_among place (pins_by effect own.pins) ≡ true
    by (Pins other) kept = with-keeps place other own.pins pinned
    by (Unpins other) kept = without-keeps place other own.pins (λ same. kept (ap (λ p. Unpins p) (sym same))) pinned
    by _ kept = pinned

-- pinned places still rise
pub rise-after : (effect : Effect) (own : SessionLocks) → are_rising_places own.pins ≡ true → are_rising_places (own_by effect own).pins ≡ true
rise-after effect own rise = ap are_rising_places (pins-after effect own) ∙ by effect
  where
    by : (effect : Effect) → are_rising_places (pins_by effect own.pins) ≡ true
    by (Pins place) = with-rise place own.pins rise
    by (Unpins place) = without-rise place own.pins rise
    by _ = rise

-- and pass a test that all did, if a new one passes it
pub all-after : (test : ℕ → Bool) (effect : Effect) (own : SessionLocks) → ((place : ℕ) → effect ≡ Pins place → test place ≡ true) → list_all test own.pins ≡ true
    → list_all test (own_by effect own).pins ≡ true
all-after test effect own new all = ap (list_all test) (pins-after effect own) ∙ by effect new
  where
    by : (effect : Effect) → ((place : ℕ) → effect ≡ Pins place → test place ≡ true) → list_all test (pins_by effect own.pins) ≡ true
    by (Pins place) new = all-with test place own.pins all (new place refl)
    by (Unpins place) new = all-without test place own.pins all
    by _ new = all

-- ---- the places of tickets and waits

-- the session pins the places of its tickets, and of its wait
abbrev pub HasPins : SessionLocks → Type 0
HasPins own = (are_at_pins own own.held ≡ true) × IfSome own.wait (λ wait. is_pinned wait.place own ≡ true)

-- where a new ticket or wait is, the place is pinned. A pin is given up where no ticket and no wait is.
abbrev pub KeepsPins : Effect → SessionLocks → Type 0
KeepsPins (Gains id place mode) own = is_pinned place own ≡ true
KeepsPins (Begins number place mode) own = is_pinned place own ≡ true
KeepsPins (Unpins place) own = (HoldsAt place own → ⊥) × (AwaitsAt place own → ⊥)
KeepsPins _ own = Unit {0}

module _ (own : SessionLocks) where
  abbrev is_here : Held → Bool
  is_here ticket = is_pinned ticket.place own

  here-last : (tickets : List Held) (ticket : Held) → are_at_pins own tickets ≡ true → is_here ticket ≡ true → are_at_pins own (tickets ++ ticket ∷ []) ≡ true
  here-last tickets ticket all here = grind (arith, list_all-append is_here tickets (ticket ∷ []))

  here-fewer : (keep : Held → Bool) (tickets : List Held) → are_at_pins own tickets ≡ true → are_at_pins own (filter keep tickets) ≡ true
  here-fewer keep [] all = refl
  here-fewer keep (ticket ∷ later) all = grind (arith, here-fewer keep later)

  here-changed : (id : ℕ) (change : Mode → Mode) (tickets : List Held) → are_at_pins own tickets ≡ true
      → are_at_pins own (map (λ ticket. if is_number id ticket then record ticket { mode = change ticket.mode } else ticket) tickets) ≡ true
  here-changed id change [] all = refl
  here-changed id change (ticket ∷ later) all = grind (arith, here-changed id change later)

  here-found : (which : Held → Bool) (tickets : List Held) (ticket : Held) → are_at_pins own tickets ≡ true → find which tickets ≡ Some ticket → is_here ticket ≡ true
  here-found which [] ticket all found = cc
  here-found which (first ∷ later) ticket all found = grind (arith, here-found which later ticket)

  -- by pins that are more, at the places of tickets
  at_more : (more : SessionLocks) → ((place : ℕ) → HoldsAt place own → is_pinned place own ≡ true → is_pinned place more ≡ true) → are_at_pins own own.held ≡ true
      → are_at_pins more own.held ≡ true
  at_more more still all = at_pins-from more own.held (λ ticket among. still ticket.place (ticket, among, refl) (at_pins-told own own.held ticket all among))

  wait_more : (more : SessionLocks) → ((place : ℕ) → AwaitsAt place own → is_pinned place own ≡ true → is_pinned place more ≡ true)
      → IfSome own.wait (λ wait. is_pinned wait.place own ≡ true) → IfSome own.wait (λ wait. is_pinned wait.place more ≡ true)
  wait_more more still at = by own.wait refl at
    where
      by : (o : Option Wait) → own.wait ≡ o → IfSome o (λ wait. is_pinned wait.place own ≡ true) → IfSome o (λ wait. is_pinned wait.place more ≡ true)
      by None is at = tt
      by (Some wait) is at = still wait.place (wait, is, refl) at

-- they still are, after each call
pub has_pins-after : (effect : Effect) (own : SessionLocks) → HasPins own → KeepsPins effect own → HasPins (own_by effect own)
has_pins-after Keeps own has keeps = has
has_pins-after (Gains id place mode) own has keeps = (here-last own own.held _ has.0 keeps, has.1)
has_pins-after (Begins number place mode) own has keeps = (has.0, keeps)
has_pins-after (Wins id) own has keeps = by own.wait has.1
  where
    by : (o : Option Wait) → IfSome o (λ wait. is_pinned wait.place own ≡ true) → HasPins (winning id o own)
    by None at = has
    by (Some wait) at = (here-last own own.held _ has.0 at, tt)
has_pins-after Ends own has keeps = (has.0, tt)
has_pins-after (GivesUp id) own has keeps = (here-fewer own (λ ticket. not (is_number id ticket)) own.held has.0, has.1)
has_pins-after (Clones copy id mode) own has keeps = by (ticket_held id own) (λ ticket found. here-found own (is_number id) own.held ticket has.0 found)
  where
    by : (o : Option Held) → ((ticket : Held) → o ≡ Some ticket → is_pinned ticket.place own ≡ true) → HasPins (cloning copy mode o own)
    by None at = has
    by (Some ticket) at = (here-last own own.held _ has.0 (at ticket refl), has.1)
has_pins-after (Raises id mode) own has keeps = (here-changed own id (upgraded mode) own.held has.0, has.1)
has_pins-after (Merges old new) own has keeps = by (ticket_held new own)
  where
    by : (o : Option Held) → HasPins (merging old new o own)
    by None = has
    by (Some ticket) = (here-changed own old (λ _. ticket.mode) (giving_up new own).held (here-fewer own (λ t. not (is_number new t)) own.held has.0), has.1)
has_pins-after (Lowers id mode) own has keeps = (here-changed own id (λ _. mode) own.held has.0, has.1)
has_pins-after (Pins place) own has keeps = (
  at_more own (pinning place own) (λ other _ pinned. pinned-still other place own pinned) has.0,
  wait_more own (pinning place own) (λ other _ pinned. pinned-still other place own pinned) has.1,
)
has_pins-after (Unpins place) own has keeps = (
  at_more own (unpinning place own) (λ other holds pinned. unpinned-still other place own (λ same. keeps.0 (subst (λ p. HoldsAt p own) same holds)) pinned) has.0,
  wait_more own (unpinning place own) (λ other awaits pinned. unpinned-still other place own (λ same. keeps.1 (subst (λ p. AwaitsAt p own) same awaits)) pinned) has.1,
)

-- ---- laws of spaces

module _ {S : Type 0} {speaks_for : S → ℕ → Type 0} {own : S → ℕ → SessionLocks} {knows : S → ℕ → ℕ → KeyName → Type 0} {is_settled : S → ℕ → Settled → Type 0}
    {numbers : S → ℕ → Numbers} {has_read has_met : S → ℕ → ℕ → VersionedDefinition → Type 0} {has_seen : S → ℕ → ℕ → ℕ → Type 0} {owes : S → ℕ → ℕ → Type 0}
    {joins : S → Call → Answer → S → Type 0} (laws : SpaceLaws speaks_for own knows is_settled numbers has_read has_met has_seen owes joins)
  where
    -- a session that holds a ticket knows the key of its place
    pub held_places : (a : S) (w : ℕ) (ticket : Held) → speaks_for a w → Contains (own a w).held ticket → (key : KeyName) × knows a w ticket.place key
    held_places a w ticket speaks holds = laws.pinned_known a w ticket.place speaks (laws.held_pinned a w ticket speaks holds)

    -- a session that waits knows the key of the place that it waits for
    pub wait_place : (a : S) (w : ℕ) (wait : Wait) → speaks_for a w → (own a w).wait ≡ Some wait → (key : KeyName) × knows a w wait.place key
    wait_place a w wait speaks waits = laws.pinned_known a w wait.place speaks (laws.wait_pinned a w wait speaks waits)
