-- When a lock space refuses a call, as far as what the caller has and the keys that it knows decide it. Which of several causes comes first is
-- said here only in part. `mdl_core` says it of the space of one thread, by the outcome of each call (`CoreCalls`), and `mdl_shared` of the table that
-- threads share, by its own specification of each call (`calls`).
use Rattle.std.specs.Prelude.{◌≡◌, ℕ, Bool, true, false, not, ◌&&◌, ◌||◌, ◌==◌, MatchOption}
use Rattle.mdl_calls.specs.Prelude.{Held, KeyName, Mode, covers, is_mode_of, kind_of, may_downgrade, may_upgrade}
use Rattle.mdl_calls.specs.SessionLocks.{SessionLocks, ticket_held}

-- what a session knows of keys: which key is at which place
abbrev pub Knowledge : Type 1
Knowledge = ℕ → KeyName → Type 0

-- the session knows no key at the place
abbrev pub IsUnknown : Knowledge → ℕ → Type 0
IsUnknown knows place = (key : KeyName) → knows place key → ⊥

-- the session knows no place of the key
abbrev pub IsUnplaced : Knowledge → KeyName → Type 0
IsUnplaced knows key = (place : ℕ) → knows place key → ⊥

-- the mode is one of the kind of the key that the session knows at the place. Every mode fits a place that it doesn't know.
abbrev pub IsFit : Knowledge → ℕ → Mode → Type 0
IsFit knows place mode = (key : KeyName) → knows place key → is_mode_of (kind_of key.namespace) mode ≡ true

-- the mode isn't one of that kind. This too holds of every mode, if the session doesn't know the place.
abbrev pub IsUnfit : Knowledge → ℕ → Mode → Type 0
IsUnfit knows place mode = (key : KeyName) → knows place key → is_mode_of (kind_of key.namespace) mode ≡ false

-- a ticket of this number is held, and it has the property
abbrev pub OfHeld : ℕ → SessionLocks → (Held → Type 0) → Type 0
OfHeld id own P = MatchOption (ticket_held id own) ⊥ P

-- a held ticket may be cloned in the mode: it covers the mode, which is one of the place's kind
abbrev pub MayClone : Knowledge → Mode → Held → Type 0
MayClone knows mode ticket = (covers ticket.mode mode ≡ true) × IsFit knows ticket.place mode

-- a held ticket may not be cloned in the mode
abbrev pub MayNotClone : Knowledge → Mode → Held → Type 0
MayNotClone knows mode ticket = covers ticket.mode mode ≡ true → IsUnfit knows ticket.place mode

-- a held ticket covers the mode already or may be upgraded to it, and the mode is one of the place's kind
abbrev pub MayUpgrade : Knowledge → Mode → Held → Type 0
MayUpgrade knows mode ticket = ((covers ticket.mode mode || may_upgrade ticket.mode mode) ≡ true) × IsFit knows ticket.place mode

-- a held ticket may not be upgraded to the mode
abbrev pub MayNotUpgrade : Knowledge → Mode → Held → Type 0
MayNotUpgrade knows mode ticket = (covers ticket.mode mode || may_upgrade ticket.mode mode) ≡ true → IsUnfit knows ticket.place mode

-- a held ticket may be downgraded to the mode, which is one of the place's kind
abbrev pub MayDowngrade : Knowledge → Mode → Held → Type 0
MayDowngrade knows mode ticket = (may_downgrade ticket.mode mode ≡ true) × IsFit knows ticket.place mode

-- a held ticket may not be downgraded to the mode
abbrev pub MayNotDowngrade : Knowledge → Mode → Held → Type 0
MayNotDowngrade knows mode ticket = may_downgrade ticket.mode mode ≡ true → IsUnfit knows ticket.place mode

-- whether two tickets may be merged: they are different ones of one place, and the one to be released is at least as strong as the other
abbrev pub may_merge : Held → Held → Bool
may_merge kept gone = not (kept.id == gone.id) && kept.place == gone.place && covers gone.mode kept.mode

-- the two tickets are held, and this is whether they may be merged
abbrev pub Mergeable : Bool → ℕ → ℕ → SessionLocks → Type 0
Mergeable answer old new own = OfHeld old own (λ kept. OfHeld new own (λ gone. may_merge kept gone ≡ answer))
