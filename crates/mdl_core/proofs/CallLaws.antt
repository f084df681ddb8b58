-- The laws of a lock space, of the space of one thread: what its calls do to the sessions, and what they tell them.
use Rattle.std.proofs.Common.{◌≡◌, ◌⊎◌, ℕ, ◌+◌, ◌-◌, Bool, true, false, not, ◌&&◌, List, [], ◌∷◌, ◌++◌, length, Option, Some, None, MatchOption, IfSome, is_some, option_map, refl, sym, ap, subst, ◌∙◌, inl, inr, eq-eqb}
use Rattle.std.specs.Prelude.{slice_set}
use Rattle.std.proofs.lemmas.Bool.{false≢true}
use Rattle.std.proofs.lemmas.Bool.Decides.{eqb_tells}
use Rattle.mdl_key.specs.Keys.{KeyName}
use Rattle.mdl_key.specs.declared.mode.Mode.{Mode}
use Rattle.mdl_calls.specs.declared.answers.Held.{Held}
use Rattle.mdl_calls.specs.declared.answers.Settled.{Settled}
use Rattle.mdl_calls.specs.declared.answers.Settled.TheVariants as settled_as
use Rattle.mdl_calls.specs.declared.answers.TimedOut.TheVariants.{ByThisCall, Already}
use Rattle.mdl_calls.specs.declared.space_error.SpaceError.TheVariants.{InUse, OutOfMemory}
use Rattle.mdl_calls.proofs.PinLemmas.{is_among}
use Rattle.mdl_calls.specs.SessionLocks.{is_pinned}
use Rattle.mdl_calls.specs.Words.{Answer, Refused, Done, At_place, Would_wait, Upgraded, Is_settled, Timed_out, Has_wait, Has_killed, Victim_is, Key_is, Tables, Holds, is_answer_of, Call, Resolve, Search, Poll_wait, Settle_timeout, End_wait, Wait_of, Kill, Release, Upgrade_now, Downgrade, Change_definition, Key_of, Tables_of, List_held, Unpin, caller, takes_memory, AreTablesOf, IsCause, IsExplained, own_after, wait_number, is_waiting, IsRising, Draws, ticket_held, told, with_place, HoldsAt, AwaitsAt, IsToldOf}
use Rattle.mdl_core.specs.declared.pending.Pending.{Pending}
use Rattle.mdl_core.specs.Changes.{Change, Settle, seat_after, after_change, losing}
use Rattle.mdl_core.specs.CoreCalls.{outcome, Makes, wait_at, is_open_wait}
use Rattle.mdl_core.specs.CoreJoins.{SpeaksFor, locks_at, numbers_at, Knows, IsSettledAs, Joins}
use Rattle.mdl_core.specs.CoreLaws.{CallsKeepSound, UpgradesWhatIsGrantable}
use Rattle.mdl_book.specs.Books.{empty_book}
use Rattle.mdl_book.specs.declared.book_view.BookView.{BookView}
use Rattle.mdl_core.specs.Cores.{Core, seat_at, has_key, has_pin, has_session, is_in_use, table_places}
use Rattle.mdl_core.specs.Seats.{locks_of_seat, numbers_of_seat}
use Rattle.mdl_core.specs.SessionLaws.{RefusesForCause}
use Rattle.mdl_core.specs.Ties.{IsTied}
use Rattle.mdl_system.specs.Words.{covers}
use Rattle.mdl_core.proofs.CallCases.{test_cases}
use Rattle.mdl_core.proofs.ChangeTies.{tied-changing}
use Rattle.mdl_core.proofs.CoreServing.{serves}
use Rattle.mdl_core.proofs.KnownPlaces.{keeps-placing, known-used, spares-opening}
use Rattle.mdl_core.proofs.PinsFollow.{pin-stays, pins-follow}
use Rattle.mdl_core.proofs.PinnedSeats.{repinned, repinning, has_session-repinning, repinned-same, repinned-other, repinned-bare}
use Rattle.mdl_core.proofs.MadeCalls.{number-same, refused, made}
use Rattle.mdl_core.proofs.SparedSeats.{IsSettledWait, HasSettled, KeepsKey, settled-seat, seat-settled, wait-of_session, Spares, spares-same, is_end, keeps-key_then, key-kept, own-settling, sessions-changed, seat-changed, seat-other, keys-changed, settled-changed, spares-changing}
use Rattle.mdl_core.proofs.Ways.{HasAtOnce, HasNotAtOnce, Way, Stay, Repin, Open, Replace, Settle_wait, Make, makes_room, served_if, space_by, seat_by, IsSo, ServesCaller, IsMade, Made, Comes}
use Rattle.mdl_core.proofs.TableLists.{are-tables}

-- ---- calls and what comes of them

-- a call that takes memory has a caller, who is told when there is none
some_caller : (call : Call) → takes_memory call ≡ true → (who : ℕ) × (caller call ≡ Some who)
some_caller (Wait_of _) takes = cc
some_caller (Kill _ _) takes = cc
some_caller _ takes = (_, refl)

-- and want of memory is a cause of its own
memory-told : (a : Core) (call : Call) (who : ℕ) → takes_memory call ≡ true
    → IsCause (Knows a who) call OutOfMemory (locks_at a who) × ((how : Settled) → IsToldOf how call (Refused OutOfMemory))
memory-told a (Change_definition _ _ _) who takes = (takes, λ how. tt)
memory-told a (Poll_wait _) who takes = cc
memory-told a (Settle_timeout _) who takes = cc
memory-told a (End_wait _) who takes = cc
memory-told a (Wait_of _) who takes = cc
memory-told a (Kill _ _) who takes = cc
memory-told a (Release _ _) who takes = cc
memory-told a (Downgrade _ _ _) who takes = cc
memory-told a (Unpin _ _) who takes = cc
memory-told a _ who takes = (tt, λ how. tt)

-- whatever a call answers comes of it
pub joins-comes : (a b : Core) (call : Call) (answer : Answer) → IsTied a → Joins a call answer b → Comes a call (answer, b)
joins-comes a b call answer tied (speaks, makes) = by makes
  where
    sessions : (o : Option ℕ) → IfSome o (SpeaksFor a) → IfSome o (λ who. has_session who a ≡ true)
    sessions None speaks = tt
    sessions (Some who) speaks = speaks.0

    by : Makes (takes_memory call) (outcome call) a answer b → Comes a call (answer, b)
    by (inl (takes, out, same)) =
        let who = some_caller call takes in
        let told = memory-told a call who.0 takes in
        subst (λ r. Comes a call (r, b)) (sym out) (subst (λ c. Comes a call (Refused OutOfMemory, c)) (sym same)
        (refused a who.0 OutOfMemory who.1 told.0 (λ how has. told.1 how) tt))
    by (inr e) = subst (Comes a call) e (made a tied call (sessions (caller call) speaks))

-- ---- what a call leaves to the sessions

-- places in use keep their keys, the caller has what the way leaves it, the others have what they had, and a settled wait stays until it is ended
record IsLeft (a : Core) (call : Call) (way : Way) (b : Core) : Type 0 where
  sessions : (w : ℕ) → has_session w b ≡ has_session w a
  keys : (place : ℕ) → has_key place a ≡ true → is_in_use place a ≡ true → KeepsKey a b place
  own : (w : ℕ) → has_session w a ≡ true → caller call ≡ Some w → (locks_at b w ≡ locks_of_seat (seat_by way w a)) × (numbers_at b w ≡ numbers_of_seat (seat_by way w a))
  others : (w : ℕ) → has_session w a ≡ true → (caller call ≡ Some w → ⊥) → (locks_at b w ≡ locks_at a w) × (numbers_at b w ≡ numbers_at a w)
  settled : (w : ℕ) (how : Settled) → has_session w a ≡ true → (call ≡ End_wait w → ⊥) → HasSettled (seat_at w a) how → HasSettled (seat_at w b) how

-- a way by which all have what they had
left-spared : (a : Core) (call : Call) (way : Way) → ((w : ℕ) → seat_by way w a ≡ seat_at w a) → Spares a (space_by way a) → IsLeft a call way (space_by way a)
left-spared a call way same spares = record {
  sessions = spares.sessions;
  keys = λ place has used. spares.keys place has;
  own = λ w is mine. ((spares.seats w is).own ∙ ap locks_of_seat (sym (same w)), (spares.seats w is).numbers ∙ ap numbers_of_seat (sym (same w)));
  others = λ w is other. ((spares.seats w is).own, (spares.seats w is).numbers);
  settled = λ w how is apart has. (spares.seats w is).settled how has;
}

-- a way by which the caller pins other places, whatever books there are then
left-pinned : (a : Core) (call : Call) (way : Way) (who : ℕ) (pins : List ℕ) (books : List BookView) → has_session who a ≡ true → caller call ≡ Some who
    → ((p : ℕ) → has_key p a ≡ true → is_in_use p a ≡ true → KeepsKey a (record a { books = books }) p) → seat_by way who a ≡ repinned pins (seat_at who a)
    → IsLeft a call way (repinning who pins (record a { books = books }))
left-pinned a call way who pins books session mine keys same = record {
  sessions = has_session-repinning mid who pins;
  keys = keys;
  own = λ w is called. (
      let own : who ≡ w = (let e = sym mine ∙ called in cc) in
      let seat = subst (λ v. seat_at v (repinning who pins mid) ≡ seat_by way v a) own (repinned-same mid who pins session ∙ sym same) in
      (ap locks_of_seat seat, ap numbers_of_seat seat));
  others = λ w is other. (
      let seat = repinned-other mid who pins session w is (λ e. other (mine ∙ ap Some (sym e))) in
      (ap locks_of_seat seat, ap numbers_of_seat seat));
  settled = λ w how is apart has. subst (λ s. HasSettled s how) (sym (repinned-bare mid who pins session w)) has;
}
  where
    mid : Core
    mid = record a { books = books }

module _ (a : Core) (call : Call) (answer : Answer) (tied : IsTied a) where
  -- a change that the caller makes
  left-made : (who place : ℕ) (change : Change) → IsMade a call answer who place change → caller call ≡ Some who
      → (is_end change ≡ true → call ≡ End_wait who) → IsLeft a call (Make who place change) (space_by (Make who place change) a)
  left-made who place change made mine ends = record {
    sessions = λ w. late.sessions w ∙ sessions-changed a who place change made.may w;
    keys = λ other has used. (
        let h = key-kept a who place change made.may other has in
        keeps-key_then a mid (served_if (makes_room change) place mid) other h (late.keys other h.0));
    own = λ w is called. (
        let same : who ≡ w = (let e = sym mine ∙ called in cc) in
        let seat = subst (λ v. seat_at v mid ≡ seat_after place change (seat_at v a)) same (seat-changed a who place change made.may) in
        let h = late.seats w (there w is) in
        (h.own ∙ ap locks_of_seat seat, h.numbers ∙ ap numbers_of_seat seat));
    others = λ w is other. (
        let seat = seat-other a who place change made.may w is (λ e. other (mine ∙ ap Some (sym e))) in
        let h = late.seats w (there w is) in
        (h.own ∙ ap locks_of_seat seat, h.numbers ∙ ap numbers_of_seat seat));
    settled = λ w how is apart has. (late.seats w (there w is)).settled how (stays w how is apart has);
  }
    where
      mid : Core
      mid = after_change who place change a

      there : (w : ℕ) → has_session w a ≡ true → has_session w mid ≡ true
      there w is = sessions-changed a who place change made.may w ∙ is

      -- what granting waiters leaves
      late : Spares mid (served_if (makes_room change) place mid)
      late = by (makes_room change)
        where
          by : (room : Bool) → Spares mid (served_if room place mid)
          by false = spares-same mid
          by true = (serves mid place (tied-changing a who place change tied made.may)
              (keys-changed a who place change made.may place made.may.key).0).spares

      stays : (w : ℕ) (how : Settled) → has_session w a ≡ true → (call ≡ End_wait w → ⊥) → HasSettled (seat_at w a) how → HasSettled (seat_at w mid) how
      stays w how is apart has = elim (eqb_tells w who) [
        | inr other ↦ subst (λ s. HasSettled s how) (sym (seat-other a who place change made.may w is other.1)) has
        | inl same ↦ by same.1 (is_end change) refl
      ]
        where
          by : w ≡ who → (end : Bool) → is_end change ≡ end → HasSettled (seat_at w mid) how
          by same true e = absurd (apart (ends e ∙ ap (λ v. End_wait v) (sym same)))
          by same false e =
              subst (λ v. HasSettled (seat_at v a) how → HasSettled (seat_at v mid) how) (sym same)
              (λ h. subst (λ s. HasSettled s how) (sym (seat-changed a who place change made.may)) (settled-changed a who place change made.may e how h)) has

  -- any way
  way-left : (way : Way) → Made a call answer way → IsLeft a call way (space_by way a)
  way-left Stay made = left-spared a call Stay (λ w. refl) (spares-same a)
  way-left (Repin who pins) made =
      left-pinned a call (Repin who pins) who pins a.books made.is_way.0.session made.is_way.0.mine (λ p has used. (has, refl, λ some. some)) refl
  way-left (Open who key) made =
      left-pinned a call (Open who key) who (with_place (length a.books + 1) (seat_at who a).pins) (a.books ++ empty_book key ∷ [])
      made.is_way.0.session made.is_way.0.mine (λ p has used. (spares-opening a key).keys p has) refl
  way-left (Replace who place key) made =
      left-pinned a call (Replace who place key) who (with_place place (seat_at who a).pins) (slice_set a.books (place - 1) (empty_book key))
      made.is_way.0.session made.is_way.0.mine (keeps-placing a place key made.is_way.2 made.is_way.3) refl
  way-left (Settle_wait who place how) made =
      left-spared a call (Settle_wait who place how) (λ w. refl)
      (spares-changing a who place (Settle how) made.is_way.may refl (own-settling how (seat_at who a)) refl)
  way-left (Make who place change) made = left-made who place change made.is_way.0 made.is_way.1 made.is_way.2

-- ---- a call that was made

-- the space after a call is one of its way
record IsJoined (a b : Core) (call : Call) (answer : Answer) : Type 0 where
  way : Way
  is : Made a call answer way
  so : IsSo a call answer b
  left : IsLeft a call way b

joined : (a b : Core) (call : Call) (answer : Answer) → IsTied a → Joins a call answer b → IsJoined a b call answer
joined a b call answer tied joins =
    let h = joins-comes a b call answer tied joins in
    record {
      way = h.way;
      is = h.is;
      so = subst (IsSo a call answer) h.leads h.is.so;
      left = subst (IsLeft a call h.way) h.leads (way-left a call answer tied h.way h.is);
    }

-- of a call that somebody makes
record IsCalled (a b : Core) (call : Call) (answer : Answer) (who : ℕ) : Type 0 where
  speaks : SpeaksFor a who
  after : has_session who b ≡ true
  so : IsSo a call answer b
  own : locks_at b who ≡ own_after call answer (locks_at a who)
  draws : Draws call answer (numbers_at a who) (numbers_at b who)
  explained : IsExplained (Knows a who) call answer (locks_at a who)
  agrees : (how : Settled) → HasSettled (seat_at who a) how → IsToldOf how call answer

called : (a b : Core) (call : Call) (answer : Answer) (who : ℕ) → caller call ≡ Some who → Joins a call answer b → IsCalled a b call answer who
called a b call answer who mine joins =
    let speaks = subst (λ o. IfSome o (SpeaksFor a)) mine joins.0 in
    let h = joined a b call answer speaks.1.tied joins in
    let told = subst (λ o. IfSome o (ServesCaller a call answer h.way)) mine h.is.caller in
    let left = h.left.own who speaks.0 mine in
    record {
      speaks = speaks;
      after = h.left.sessions who ∙ speaks.0;
      so = h.so;
      own = left.0 ∙ told.own;
      draws = subst (Draws call answer (numbers_at a who)) (sym left.1) told.draws;
      explained = told.explained;
      agrees = told.agrees;
    }

-- ---- what sessions have

-- a call is made for a session that the space speaks for
pub core-allowed : (a b : Core) (call : Call) (answer : Answer) → Joins a call answer b → IfSome (caller call) (SpeaksFor a)
core-allowed a b call answer joins = joins.0

-- the space goes on to speak for the same sessions, as long as calls keep it sound
pub core-keeps : CallsKeepSound → (a b : Core) (call : Call) (answer : Answer) (w : ℕ) → SpeaksFor a w → Joins a call answer b → SpeaksFor b w
core-keeps sound a b call answer w speaks joins =
    ((joined a b call answer speaks.1.tied joins).left.sessions w ∙ speaks.0, sound a b call answer speaks.1 joins)

-- what a call and its answer do to the caller
pub core-changes : (a b : Core) (call : Call) (answer : Answer) (who : ℕ) → caller call ≡ Some who → Joins a call answer b
    → locks_at b who ≡ own_after call answer (locks_at a who)
core-changes a b call answer who mine joins = (called a b call answer who mine joins).own

-- nothing changes for the others
pub core-others : (a b : Core) (call : Call) (answer : Answer) (w : ℕ) → SpeaksFor a w → (caller call ≡ Some w → ⊥) → Joins a call answer b
    → locks_at b w ≡ locks_at a w
core-others a b call answer w speaks other joins = ((joined a b call answer speaks.1.tied joins).left.others w speaks.0 other).0

-- which numbers a call gives its caller
pub core-draws : (a b : Core) (call : Call) (answer : Answer) (who : ℕ) → caller call ≡ Some who → Joins a call answer b
    → Draws call answer (numbers_at a who) (numbers_at b who)
core-draws a b call answer who mine joins = (called a b call answer who mine joins).draws

-- the others are given none
pub core-others_draw : (a b : Core) (call : Call) (answer : Answer) (w : ℕ) → SpeaksFor a w → (caller call ≡ Some w → ⊥) → Joins a call answer b
    → numbers_at b w ≡ numbers_at a w
core-others_draw a b call answer w speaks other joins = ((joined a b call answer speaks.1.tied joins).left.others w speaks.0 other).1

-- the numbers of held tickets rise
pub core-rising : (a : Core) (w : ℕ) → SpeaksFor a w → IsRising (locks_at a w)
core-rising a w speaks = (speaks.1.tied.numbered w speaks.0).rising

-- ---- answers

-- an answer is one of its call's
pub core-fits : (a b : Core) (call : Call) (answer : Answer) → Joins a call answer b → is_answer_of call answer ≡ true
core-fits a b (Wait_of target) answer joins = elim joins.1 [
  | inl out ↦ (let e = out.0 in cc)
  | inr e ↦ subst (λ (r : Answer × Core). is_answer_of (Wait_of target) r.0 ≡ true) e refl
]
core-fits a b (Kill target number) answer joins = elim joins.1 [
  | inl out ↦ (let e = out.0 in cc)
  | inr e ↦ subst (λ (r : Answer × Core). is_answer_of (Kill target number) r.0 ≡ true) e
      (test_cases (λ (r : Answer × Core). is_answer_of (Kill target number) r.0 ≡ true) (is_open_wait number (wait_at target a))
      (Has_killed true, losing target settled_as.Killed a) (Has_killed false, a) (λ _. refl) (λ _. refl))
]
core-fits a b call answer joins = (joined a b call answer joins.0.1.tied joins).is.fits

-- a refusal has its cause, and where there is a cause the call is refused
pub core-explains : (a b : Core) (call : Call) (answer : Answer) (who : ℕ) → caller call ≡ Some who → Joins a call answer b
    → IsExplained (Knows a who) call answer (locks_at a who)
core-explains a b call answer who mine joins = (called a b call answer who mine joins).explained

-- no call is refused by a limit that isn't met, nor by a place that isn't in use
pub refuses-caused : RefusesForCause
refuses-caused a b (Wait_of target) refusal joins = let e = core-fits a b (Wait_of target) (Refused refusal) joins in cc
refuses-caused a b (Kill target number) refusal joins = let e = core-fits a b (Kill target number) (Refused refusal) joins in cc
refuses-caused a b call refusal joins = (joined a b call (Refused refusal) joins.0.1.tied joins).so

-- what is listed is what is held
pub core-lists : (a b : Core) (who : ℕ) (tickets : List Held) → Joins a (List_held who) (Holds tickets) b → tickets ≡ (locks_at a who).held
core-lists a b who tickets joins = (called a b (List_held who) (Holds tickets) who refl joins).so

-- a held ticket has another mode at once exactly where that can be
pub upgrades-grantable : UpgradesWhatIsGrantable
upgrades-grantable a b who id mode ticket its = (
  (λ joins. subst (λ o. MatchOption o ⊥ (HasAtOnce a who mode)) its (called a b (Upgrade_now who id mode) Upgraded who refl joins).so),
  λ joins. subst (λ o. MatchOption o ⊥ (HasNotAtOnce a who mode)) its (called a b (Upgrade_now who id mode) Would_wait who refl joins).so,
)

-- an upgrade to a mode that the held one covers doesn't wait
pub core-upgrades : (a b : Core) (who id : ℕ) (mode : Mode) (ticket : Held) → ticket_held id (locks_at a who) ≡ Some ticket → covers ticket.mode mode ≡ true
    → Joins a (Upgrade_now who id mode) Would_wait b → ⊥
core-upgrades a b who id mode ticket its covered joins = false≢true (sym ((upgrades-grantable a b who id mode ticket its).1 joins).0 ∙ covered)

-- ---- keys

-- whoever resolves a key knows its place
pub core-resolves : (a b : Core) (who place : ℕ) (key : KeyName) → Joins a (Resolve who key) (At_place place) b → Knows b who place key
core-resolves a b who place key joins = (called a b (Resolve who key) (At_place place) who refl joins).so

-- whoever is told the key of a place, and knows it, is told the key that it knows
pub core-tells_key : (a b : Core) (who place : ℕ) (key other : KeyName) → Joins a (Key_of who place) (Key_is key) b → Knows a who place other → key ≡ other
core-tells_key a b who place key other joins knows =
    let h = called a b (Key_of who place) (Key_is key) who refl joins in
    sym h.so.1 ∙ ((joined a b (Key_of who place) (Key_is key) h.speaks.1.tied joins).left.keys place knows.0 (known-used a who place other knows)).1 ∙ knows.1

-- whoever is told the tables of a schema knows them
pub core-tells_tables : (a b : Core) (who : ℕ) (schema places : List ℕ) → Joins a (Tables_of who schema) (Tables places) b
    → AreTablesOf (Knows b who) schema places
core-tells_tables a b who schema places joins =
    let so = (called a b (Tables_of who schema) (Tables places) who refl joins).so in
    subst (AreTablesOf (Knows b who) schema) (sym so.0)
    (subst (λ c. AreTablesOf (Knows c who) schema (table_places schema a)) (sym so.1) (are-tables a schema joins.0.1.tied joins.0.1.standing who))

-- a place in use keeps its key
pub core-keeps_keys : (a b : Core) (call : Call) (answer : Answer) (place : ℕ) → IsTied a → Joins a call answer b → has_key place a ≡ true
    → is_in_use place a ≡ true → KeepsKey a b place
core-keeps_keys a b call answer place tied joins = (joined a b call answer tied joins).left.keys place

-- whoever pins it pins it still, unless that pin was given up
pins-kept : (a b : Core) (call : Call) (answer : Answer) (w place : ℕ) → SpeaksFor a w → (call ≡ Unpin w place → answer ≡ Done → ⊥)
    → Joins a call answer b → has_pin w place a ≡ true → has_pin w place b ≡ true
pins-kept a b call answer w place speaks stays joins pins = elim (number_told (caller call) w) [
  | inl mine ↦ ap (λ own. is_pinned place own) (core-changes a b call answer w mine joins)
      ∙ ap (is_among place) (pins-follow call answer (locks_at a w)) ∙ pin-stays call answer w place (locks_at a w).pins mine stays pins
  | inr other ↦ ap (λ own. is_pinned place own) (core-others a b call answer w speaks other joins) ∙ pins
]
  where
    number_told : (o : Option ℕ) (n : ℕ) → (o ≡ Some n) ⊎ (o ≡ Some n → ⊥)
    number_told None n = inr (λ e. cc)
    number_told (Some m) n = elim (eqb_tells m n) [ inl e ↦ inl (ap Some e.1) | inr e ↦ inr (λ same. e.1 (let f = same in cc)) ]

-- whoever knows its key knows it still, unless that pin was given up
pub core-remembers : (a b : Core) (call : Call) (answer : Answer) (w place : ℕ) (key : KeyName) → SpeaksFor a w
    → (call ≡ Unpin w place → answer ≡ Done → ⊥) → Joins a call answer b → Knows a w place key → Knows b w place key
core-remembers a b call answer w place key speaks stays joins knows =
    let h = core-keeps_keys a b call answer place speaks.1.tied joins knows.0 (known-used a w place key knows) in (
      h.0,
      h.1 ∙ knows.1,
      elim knows.2 [ inl pins ↦ inl (pins-kept a b call answer w place speaks stays joins pins) | inr some ↦ inr (h.2 some) ],
    )

-- a pin is kept for a ticket or a wait of its session
pub core-unpins_in_use : (a b : Core) (who place : ℕ) → Joins a (Unpin who place) (Refused InUse) b
    → HoldsAt place (locks_at a who) ⊎ AwaitsAt place (locks_at a who)
core-unpins_in_use a b who place joins = refuses-caused a b (Unpin who place) InUse joins

-- ---- waits

-- only a wait is settled
pub core-waits_settled : (a : Core) (w : ℕ) (how : Settled) → SpeaksFor a w → IsSettledAs a w how → is_waiting (locks_at a w) ≡ true
core-waits_settled a w how speaks settled =
    elim (seat_at w a).wait as (λ o. IsSettledWait how o → is_waiting (locks_of_seat (record (seat_at w a) { wait = o })) ≡ true) [
      | None ↦ λ none. absurd none
      | Some wait ↦ λ _. refl
    ] (settled-seat a w how speaks.0 settled)

-- a wait is settled in one way
pub core-settled_once : (a : Core) (w : ℕ) (how other : Settled) → SpeaksFor a w → IsSettledAs a w how → IsSettledAs a w other → how ≡ other
core-settled_once a w how other speaks =
    elim (wait_at w a) as (λ o. IsSettledWait how o → IsSettledWait other o → how ≡ other) [
      | None ↦ λ none also. absurd none
      | Some wait ↦ λ one two. let e = sym one ∙ two in cc
    ]

same-settled : (b : Core) (w who : ℕ) (h how : Settled) → Some w ≡ Some who → Some h ≡ Some how → HasSettled (seat_at w b) h → HasSettled (seat_at who b) how
same-settled b w who h how mine e =
    subst (λ (p : Option ℕ × Option Settled). MatchOption p.0 ⊥ (λ v. MatchOption p.1 ⊥ (HasSettled (seat_at v b)))) (λ i. (mine i, e i))

-- what an answer tells of the caller's wait is so
told-so : (a b : Core) (call : Call) (answer : Answer) (who : ℕ) (how : Settled) → caller call ≡ Some who → told call answer ≡ Some how
    → IsSo a call answer b → HasSettled (seat_at who b) how
told-so a b (Poll_wait w) (Is_settled h) who how mine e so = same-settled b w who h how mine e so
told-so a b (Settle_timeout w) (Timed_out ByThisCall) who how mine e so = same-settled b w who settled_as.Timeout how mine e so
told-so a b (Settle_timeout w) (Timed_out (Already h)) who how mine e so = same-settled b w who h how mine e so
told-so a b _ _ who how mine e so = cc

-- an answer that tells how the caller's wait is settled is true
pub core-tells : (a b : Core) (call : Call) (answer : Answer) (who : ℕ) (how : Settled) → caller call ≡ Some who → told call answer ≡ Some how
    → Joins a call answer b → IsSettledAs b who how
core-tells a b call answer who how mine e joins =
    let h = called a b call answer who mine joins in
    seat-settled b who how h.after (told-so a b call answer who how mine e h.so)

-- what a wait is settled as stays, until the wait is ended
pub core-stays : (a b : Core) (call : Call) (answer : Answer) (w : ℕ) (how : Settled) → SpeaksFor a w → (call ≡ End_wait w → ⊥)
    → Joins a call answer b → IsSettledAs a w how → IsSettledAs b w how
core-stays a b call answer w how speaks apart joins settled =
    let h = joined a b call answer speaks.1.tied joins in
    seat-settled b w how (h.left.sessions w ∙ speaks.0) (h.left.settled w how speaks.0 apart (settled-seat a w how speaks.0 settled))

-- the caller is told of a settled wait as it is settled
pub core-agrees : (a b : Core) (call : Call) (answer : Answer) (who : ℕ) (how : Settled) → caller call ≡ Some who → IsSettledAs a who how
    → Joins a call answer b → IsToldOf how call answer
core-agrees a b call answer who how mine settled joins =
    let h = called a b call answer who mine joins in h.agrees how (settled-seat a who how h.speaks.0 settled)

-- the victim of a deadlock has lost its wait
pub core-victims : (a b : Core) (who victim : ℕ) → SpeaksFor a victim → Joins a (Search who) (Victim_is victim) b → IsSettledAs b victim settled_as.Victim
core-victims a b who victim speaks joins =
    let h = joined a b (Search who) (Victim_is victim) speaks.1.tied joins in
    seat-settled b victim settled_as.Victim (h.left.sessions victim ∙ speaks.0) h.so

-- the number of a wait is told truly
pub core-counts : (a b : Core) (w : ℕ) (number : Option ℕ) → SpeaksFor a w → Joins a (Wait_of w) (Has_wait number) b → number ≡ wait_number (locks_at a w)
core-counts a b w number speaks joins =
    (joined a b (Wait_of w) (Has_wait number) speaks.1.tied joins).so
    ∙ ap (λ (o : Option Pending). option_map (λ (wait : Pending). wait.number) o) (wait-of_session a w speaks.0)
    ∙ number-same (seat_at w a)

-- only the wait of the number that was named is killed
pub core-kills : (a b : Core) (w number : ℕ) → SpeaksFor a w → Joins a (Kill w number) (Has_killed true) b
    → (wait_number (locks_at a w) ≡ Some number) × IsSettledAs b w settled_as.Killed
core-kills a b w number speaks joins =
    let h = joined a b (Kill w number) (Has_killed true) speaks.1.tied joins in
    (h.so.0, seat-settled b w settled_as.Killed (h.left.sessions w ∙ speaks.0) h.so.1)

-- the wait of a number that isn't open is settled
shut-settled : (number : ℕ) (o : Option Pending) → option_map (λ (wait : Pending). wait.number) o ≡ Some number → is_open_wait number o ≡ false
    → (how : Settled) × IsSettledWait how o
shut-settled number None e shut = cc
shut-settled number (Some wait) e shut = at wait.settled refl
  where
    same : wait.number ≡ number
    same = cc

    at : (s : Option Settled) → wait.settled ≡ s → (how : Settled) × (wait.settled ≡ Some how)
    at (Some how) f = (how, f)
    at None f =
        let opened : is_open_wait number (Some wait) ≡ true = ap (λ b. b && not (is_some wait.settled)) (eq-eqb wait.number number same) ∙ ap (λ s. not (is_some s)) f in
        cc

-- a kill that kills nothing found no wait of the number that was named, or a settled one
pub core-kills_or_settled : (a b : Core) (w number : ℕ) → SpeaksFor a w → Joins a (Kill w number) (Has_killed false) b
    → wait_number (locks_at a w) ≡ Some number → (how : Settled) × IsSettledAs b w how
core-kills_or_settled a b w number speaks joins waits =
    let h = joined a b (Kill w number) (Has_killed false) speaks.1.tied joins in
    let wait : wait_at w a ≡ (seat_at w a).wait = wait-of_session a w speaks.0 in
    let found : option_map (λ (x : Pending). x.number) (wait_at w a) ≡ Some number =
    ap (λ (o : Option Pending). option_map (λ (x : Pending). x.number) o) wait ∙ number-same (seat_at w a) ∙ waits in
    subst (λ c. (how : Settled) × IsSettledAs c w how) (sym h.so.1) (shut-settled number (wait_at w a) found h.so.0)
