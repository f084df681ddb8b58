-- Which keys have which places after a call, which places are pinned, and which numbers were given last.
use Rattle.std.proofs.Common.{◌≡◌, ℕ, zero, suc, ◌+◌, ◌-◌, Bool, true, false, not, inl, inr, List, [], ◌∷◌, length, map, Option, Some, None, nat_le, refl, sym, ap, subst, ◌∙◌, if◌then◌else◌, arith}
use Rattle.std.specs.Prelude.{Contains, slice_set, slice_index_or}
use Rattle.std.proofs.lemmas.Bool.Decides.{nat_tests}
use Rattle.std.proofs.lemmas.List.{length-map, map-append, map-set}
use Rattle.mdl_key.specs.Keys.{KeyName, global_key}
use Rattle.mdl_key.specs.declared.mode.Mode.{Mode}
use Rattle.mdl_key.specs.declared.mode.Mode.TheVariants.{X}
use Rattle.mdl_key.specs.Words.{same_mode}
use Rattle.mdl_book.specs.declared.book_view.BookView.{BookView}
use Rattle.mdl_book.specs.declared.ticket.Ticket.{Ticket}
use Rattle.mdl_book.specs.Books.{empty_book, redefining}
use Rattle.mdl_defs.specs.declared.change.Change.{Change as Redefinition}
use Rattle.mdl_defs.specs.declared.change_error.ChangeError.{ChangeError}
use Rattle.mdl_calls.specs.declared.answers.Held.{Held}
use Rattle.mdl_calls.specs.declared.answers.Settled.{Settled}
use Rattle.mdl_calls.specs.declared.answers.Settled.TheVariants as settled_as
use Rattle.mdl_calls.specs.declared.space_error.SpaceError.{SpaceError}
use Rattle.mdl_calls.specs.declared.space_error.SpaceError.TheVariants.{OutOfMemory}
use Rattle.mdl_calls.specs.Words.{Answer, Refused, Done, takes_memory, Call, Resolve, Try_now, Begin_wait, Search, Poll_wait, Settle_timeout, End_wait, Wait_of, Kill, Release, Clone_ticket, Upgrade_now, Merge, Downgrade, Read_definition, Read_kept, Change_definition, Key_of, Tables_of, List_held, Unpin, SessionLocks}
use Rattle.mdl_core.specs.declared.pending.Pending.{Pending}
use Rattle.mdl_core.specs.Changes.{Change, Gain, Lose, Queue, Admit, Settle, Leave, Take_up, Alter, Fold, Redefine, seat_after, book_after, is_of_book, booked_if, after_change, next_ready, admitting_if, serving}
unfoldable use Rattle.mdl_core.specs.Changes.{admitting_up_to}
use Rattle.mdl_core.specs.CoreCalls.{outcome, Makes, placing, replacing, resolve_outcome, refused_or, first_cause, unpin_causes, is_full, granted_unless_full, queued_unless_full, cloning_of, upgrading_of, is_lower, downgrading_of, merging_of, held_ticket, releasing_of, polling_of, timing_out_at, timing_out_of, ending_at, ending_of, is_open_wait, wait_at, searching_of, victim_at, reading_of, redefining_of, redefining_fault, redefined_unless}
use Rattle.mdl_core.specs.CoreJoins.{locks_at}
use Rattle.mdl_core.specs.Cores.{Core, book_at, seat_at, index_of, is_free_for, has_key, unpinning, unused_place}
use Rattle.mdl_core.specs.Determined.{Places, places_of, PlacesAfter, PlacesInUseKeepTheirKeys, PlacesPinsAndNumbersFollow}
use Rattle.mdl_core.specs.Seats.{SeatView}
use Rattle.mdl_core.specs.Ties.{IsTied}
use Rattle.mdl_core.proofs.CallCases.{test_cases, option_cases}
use Rattle.mdl_core.proofs.CallLaws.{core-changes, core-others, core-draws, core-others_draw, core-keeps_keys}
use Rattle.mdl_core.proofs.CoreReads.{found}
use Rattle.mdl_core.proofs.PinsFollow.{pins-follow}
use Rattle.mdl_core.proofs.PlaceAnswers.{in_use-from, key_of-place, listed, unlisted, used-keyed}
use Rattle.mdl_system.specs.Strength.{covers}

-- ---- books that are written

-- a book that is written in the place of one with its key
keys-set : (books : List BookView) (i : ℕ) (book d : BookView) → book.key ≡ (slice_index_or books i d).key
    → map (λ (b : BookView). b.key) (slice_set books i book) ≡ map (λ (b : BookView). b.key) books
keys-set [] i book d same = refl
keys-set (b ∷ bs) zero book d same = λ j. same j ∷ map (λ (b : BookView). b.key) bs
keys-set (b ∷ bs) (suc i) book d same = ap (λ ks. b.key ∷ ks) (keys-set bs i book d same)

-- a book has its key after each change
key-after : (who : ℕ) (seat : SeatView) (change : Change) (book : BookView) → (book_after who seat change book).key ≡ book.key
key-after who seat (Gain mode) book = refl
key-after who seat (Lose ticket) book = refl
key-after who seat (Queue mode) book = refl
key-after who seat (Admit ticket) book = refl
key-after who seat (Settle how) book = refl
key-after who seat (Leave wait) book = refl
key-after who seat (Take_up wait) book = refl
key-after who seat (Alter ticket mode) book = refl
key-after who seat (Fold old new) book = refl
key-after who seat (Redefine ticket change) book = refl

-- the places stay
abbrev pub Keeps : Core → Core → Type 0
Keeps a b = places_of b ≡ places_of a

module _ (place : ℕ) where
  keeps-booking : (core : Core) (book : BookView) (seats : List SeatView) → book.key ≡ (book_at place core).key
      → Keeps core (record core { books = slice_set core.books (place - 1) book; seats = seats })
  keeps-booking core book seats same =
      λ i. record { keys = keys-set core.books (place - 1) book (empty_book global_key) same i; most = core.places }

  keeps-changing : (who : ℕ) (change : Change) (core : Core) → Keeps core (after_change who place change core)
  keeps-changing who change core = go (is_of_book change)
    where
      go : (b : Bool) → Keeps core (booked_if b place (book_after who (seat_at who core) change (book_at place core))
          (record core { seats = slice_set core.seats (who - 1) (seat_after place change (seat_at who core)) }))
      go true = keeps-booking core (book_after who (seat_at who core) change (book_at place core))
          (slice_set core.seats (who - 1) (seat_after place change (seat_at who core))) (key-after who (seat_at who core) change (book_at place core))
      go false = refl

  keeps-admitting : (next : Option Ticket) (core : Core) → Keeps core (admitting_if place next core)
  keeps-admitting None core = refl
  keeps-admitting (Some ticket) core = keeps-changing ticket.session (Admit ticket) core

  keeps-up_to : (n : ℕ) (core : Core) → Keeps core (admitting_up_to n place core)
  unfolding admitting_up_to
  keeps-up_to zero core = refl
  keeps-up_to (suc more) core =
      keeps-up_to more (admitting_if place (next_ready place core) core) ∙ keeps-admitting (next_ready place core) core

  keeps-serving : (core : Core) → Keeps core (serving place core)
  keeps-serving core = keeps-up_to (length (book_at place core).waiting) core

-- ---- calls

module _ (a : Core) where
  -- the outcome of a call leaves the places
  abbrev Stays : Answer × Core → Type 0
  Stays r = Keeps a r.1

  either : (test : Bool) (x y : Answer × Core) → Stays x → Stays y → Stays (if test then x else y)
  either test x y one other = test_cases Stays test x y (λ _. one) (λ _. other)

  unless-refused : (refusal : Option SpaceError) (x : Answer × Core) → Stays x → Stays (refused_or refusal a x)
  unless-refused None x stays = stays
  unless-refused (Some why) x stays = refl

  grant-keeps : (who place : ℕ) (mode : Mode) → Stays (granted_unless_full who place mode a)
  grant-keeps who place mode = either (is_full place a) _ _ refl (keeps-changing place who (Gain mode) a)

  queue-keeps : (who place : ℕ) (mode : Mode) → Stays (queued_unless_full who place mode a)
  queue-keeps who place mode = either (is_full place a) _ _ refl (keeps-changing place who (Queue mode) a)

  clone-keeps : (who : ℕ) (mode : Mode) (o : Option Held) → Stays (cloning_of who mode o a)
  clone-keeps who mode None = refl
  clone-keeps who mode (Some ticket) = unless-refused _ _ (grant-keeps who ticket.place mode)

  release-keeps : (who : ℕ) (o : Option Held) → Stays (releasing_of who o a)
  release-keeps who None = refl
  release-keeps who (Some ticket) =
      keeps-serving ticket.place (after_change who ticket.place (Lose ticket) a) ∙ keeps-changing ticket.place who (Lose ticket) a

  upgrade-keeps : (who : ℕ) (mode : Mode) (o : Option Held) → Stays (upgrading_of who mode o a)
  upgrade-keeps who mode None = refl
  upgrade-keeps who mode (Some ticket) = unless-refused _ _ (either (covers ticket.mode mode) _ _ refl
      (either (not (is_free_for who ticket.place mode a)) _ _ refl (keeps-changing ticket.place who (Alter ticket mode) a)))

  downgrade-keeps : (who : ℕ) (mode : Mode) (o : Option Held) → Stays (downgrading_of who mode o a)
  downgrade-keeps who mode None = refl
  downgrade-keeps who mode (Some ticket) = either (not (is_lower mode ticket a)) _ _ refl
      (keeps-serving ticket.place (after_change who ticket.place (Alter ticket mode) a) ∙ keeps-changing ticket.place who (Alter ticket mode) a)

  merge-keeps : (who : ℕ) (o p : Option Held) → Stays (merging_of who o p a)
  merge-keeps who None p = refl
  merge-keeps who (Some old) None = refl
  merge-keeps who (Some old) (Some new) =
      unless-refused _ _ (keeps-serving old.place (after_change who old.place (Fold old new) a) ∙ keeps-changing old.place who (Fold old new) a)

  poll-keeps : (o : Option Pending) → Stays (polling_of o a)
  poll-keeps None = refl
  poll-keeps (Some wait) = refl

  time_out-keeps : (who : ℕ) (o : Option Pending) → Stays (timing_out_of who o a)
  time_out-keeps who None = refl
  time_out-keeps who (Some wait) = at wait.settled
    where
      at : (settled : Option Settled) → Stays (timing_out_at who settled a)
      at None = refl
      at (Some how) = refl

  end-keeps : (who : ℕ) (o : Option Pending) → Stays (ending_of who o a)
  end-keeps who None = refl
  end-keeps who (Some wait) = at wait.settled
    where
      lost : Keeps a (serving wait.place (after_change who wait.place (Leave wait) a))
      lost = keeps-serving wait.place (after_change who wait.place (Leave wait) a) ∙ keeps-changing wait.place who (Leave wait) a

      at : (settled : Option Settled) → Stays (ending_at who wait settled a)
      at None = refl
      at (Some settled_as.Granted) = keeps-changing wait.place who (Take_up wait) a
      at (Some settled_as.Victim) = lost
      at (Some settled_as.Timeout) = lost
      at (Some settled_as.Killed) = lost

  search-keeps : (o : Option ℕ) → Stays (searching_of o a)
  search-keeps None = refl
  search-keeps (Some victim) = refl

  read-keeps : (o : Option Held) → Stays (reading_of o a)
  read-keeps None = refl
  read-keeps (Some ticket) = refl

  redefine-keeps : (change : Redefinition) (o : Option Held) → Stays (redefining_of o change a)
  redefine-keeps change None = refl
  redefine-keeps change (Some ticket) = either (not (same_mode ticket.mode X)) _ _ refl (unless (redefining_fault ticket.place change a))
    where
      unless : (why : Option ChangeError) → Stays (redefined_unless why ticket.place change a)
      unless None = keeps-booking ticket.place a (redefining change (book_at ticket.place a)) a.seats refl
      unless (Some why) = refl

-- whether a call asks for the place of a key
abbrev pub is_resolve : Call → Bool
is_resolve (Resolve who key) = true
is_resolve _ = false

-- no other call changes the places
pub places-kept : (a : Core) (call : Call) → is_resolve call ≡ false → places_of (outcome call a).1 ≡ places_of a
places-kept a (Resolve who key) other = cc
places-kept a (Try_now who place mode) other = unless-refused a _ _ (either a (not (is_free_for who place mode a)) _ _ refl (grant-keeps a who place mode))
places-kept a (Begin_wait who place mode) other =
    unless-refused a _ _ (either a (not (is_free_for who place mode a)) _ _ (queue-keeps a who place mode) (grant-keeps a who place mode))
places-kept a (Search who) other = search-keeps a (victim_at who a)
places-kept a (Poll_wait who) other = poll-keeps a (seat_at who a).wait
places-kept a (Settle_timeout who) other = time_out-keeps a who (seat_at who a).wait
places-kept a (End_wait who) other = end-keeps a who (seat_at who a).wait
places-kept a (Wait_of target) other = refl
places-kept a (Kill target number) other = either a (is_open_wait number (wait_at target a)) _ _ refl refl
places-kept a (Release who id) other = release-keeps a who (held_ticket who id a)
places-kept a (Clone_ticket who id mode) other = clone-keeps a who mode (held_ticket who id a)
places-kept a (Upgrade_now who id mode) other = upgrade-keeps a who mode (held_ticket who id a)
places-kept a (Merge who old new) other = merge-keeps a who (held_ticket who old a) (held_ticket who new a)
places-kept a (Downgrade who id mode) other = downgrade-keeps a who mode (held_ticket who id a)
places-kept a (Read_definition who id) other = read-keeps a (held_ticket who id a)
places-kept a (Read_kept who id) other = read-keeps a (held_ticket who id a)
places-kept a (Change_definition who id change) other = redefine-keeps a change (held_ticket who id a)
places-kept a (Key_of who place) other = either a (not (has_key place a)) _ _ refl refl
places-kept a (Tables_of who schema) other = refl
places-kept a (List_held who) other = refl
places-kept a (Unpin who place) other = unless-refused a (first_cause (unpin_causes who place a)) (Done, unpinning who place a) refl

-- ---- a key is given a place

module _ (a : Core) (who : ℕ) (key : KeyName) (tied : IsTied a) where
  -- what is so of a resolved key's place after it
  abbrev Follows : Answer × Core → Type 0
  Follows r = PlacesAfter (Resolve who key) r.0 (places_of a) (places_of r.1)

  resolve-follows : Follows (resolve_outcome who key a)
  resolve-follows = option_cases (λ o. Follows (placing who key o a)) (index_of key a.books) next known
    where
      known : (index : ℕ) → index_of key a.books ≡ Some index → Follows (placing who key (Some index) a)
      known index e = let at = found a key index e in inl (subst (Contains (places_of a).keys) at.1 (listed a (index + 1) at.0), refl)

      counted : length (places_of a).keys ≡ length a.books
      counted = length-map a.books (λ (b : BookView). b.key)

      -- by the place that isn't in use, if there is one
      instead : index_of key a.books ≡ None → nat_le a.places (length a.books) ≡ true → (o : Option ℕ) → Follows (replacing who key o a)
      instead none all None = refl
      instead none all (Some place) = inr (
        unlisted a tied key none,
        inr (
          (let c = counted in grind (arith, nat_tests)),
          λ i. record { keys = map-set (λ (b : BookView). b.key) a.books (place - 1) (empty_book key) i; most = a.places },
        ),
      )

      next : index_of key a.books ≡ None → Follows (placing who key None a)
      next none =
          test_cases Follows (nat_le a.places (length a.books)) _ _ (λ all. instead none all (unused_place a))
          (λ few. inr (
            unlisted a tied key none,
            inl (
              (let c = counted in grind (arith, nat_tests)),
              λ i. record { keys = map-append (λ (b : BookView). b.key) a.books (empty_book key ∷ []) i; most = a.places },
            ),
          ))

refused-follows : (call : Call) (refusal : SpaceError) (before after : Places) → after ≡ before → PlacesAfter call (Refused refusal) before after
refused-follows (Resolve who key) refusal before after same = same
refused-follows _ refusal before after same = same

other-follows : (call : Call) (answer : Answer) (before after : Places) → is_resolve call ≡ false → after ≡ before → PlacesAfter call answer before after
other-follows (Resolve who key) answer before after other same = cc
other-follows _ answer before after other same = same

call-follows : (a : Core) (call : Call) → IsTied a → PlacesAfter call (outcome call a).0 (places_of a) (places_of (outcome call a).1)
call-follows a (Resolve who key) tied = resolve-follows a who key tied
call-follows a call tied =
    other-follows call (outcome call a).0 (places_of a) (places_of (outcome call a).1) refl (places-kept a call refl)

-- ---- all that follows

pub places-follow : PlacesPinsAndNumbersFollow
places-follow a b call answer sound joins = (
  places joins.1,
  λ who has. (
    (λ mine. (
      ap (λ (own : SessionLocks). own.pins) (core-changes a b call answer who mine joins) ∙ pins-follow call answer (locks_at a who),
      core-draws a b call answer who mine joins,
    )),
    λ other. (
      ap (λ (own : SessionLocks). own.pins) (core-others a b call answer who (has, sound) other joins),
      core-others_draw a b call answer who (has, sound) other joins,
    ),
  ),
)
  where
    places : Makes (takes_memory call) (outcome call) a answer b → PlacesAfter call answer (places_of a) (places_of b)
    places (inl out) =
        subst (λ told. PlacesAfter call told (places_of a) (places_of b)) (sym out.1)
        (refused-follows call OutOfMemory (places_of a) (places_of b) (ap places_of out.2))
    places (inr made) =
        subst (λ (r : Answer × Core). PlacesAfter call r.0 (places_of a) (places_of r.1)) made (call-follows a call sound.tied)

-- a place in use keeps its key
pub keys-stay : PlacesInUseKeepTheirKeys
keys-stay a b call answer place sound joins used =
    let keeps = core-keeps_keys a b call answer place sound.tied joins (used-keyed a place sound.tied used) (in_use-from a place sound.tied used) in
    key_of-place b place keeps.0 ∙ ap (λ k. Some k) keeps.1 ∙ sym (key_of-place a place (used-keyed a place sound.tied used))
