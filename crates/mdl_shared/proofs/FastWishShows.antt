-- What wishes tell and show that were tried on the fast path first.
use Rattle.std.proofs.Common.{◌≡◌, ◌⊎◌, inl, inr, ℕ, Bool, true, [], ◌∷◌, ◌++◌, None, Result, Ok, Err, refl, sym, ap, subst, ◌∙◌, IfErr, IfOk, OnErr}
use Rattle.mdl_calls.specs.declared.answers.Attempt.TheVariants as attempt
use Rattle.mdl_calls.specs.declared.answers.Begun.TheVariants as begin
use Rattle.mdl_calls.specs.declared.space_error.SpaceError.TheVariants as fault
use Rattle.mdl_shared.proofs.FirstLemmas.{AreStepsOf, Attempt, BecomesSlow, Begin_wait, BeginsToWait, Begun, DoesQuietly, FullForFast, Gain, GainsFast, GainsSlow, Granted, HasBegun, HasTried, IsClosed, IsGranted, IsMember, IsVisit, Joins, KeepsRoom, LacksMemory, LacksRoomForFast, LacksRoomForWish, MeetsBlocked, MeetsFull, MeetsFullWish, MeetsGrantable, MeetsOpening, Mine, Mode, OutOfMemory, Refused, SessionData, SessionView, Shows, ShowsStep, SlowsAll, SpaceError, StepRecord, StopsOrVisits, StopsSlowing, Try_now, Waits, attempted, begun, data_of, does_then, done-nothing, keeps-before, kind_pinned, obtrudes_at, same-debts, view_awaiting, wish_fault}
use Rattle.mdl_shared.proofs.FastWishing.{by-latch, closed-more, next-slow, number-slow, same-space}
use Rattle.mdl_shared.proofs.QuietDeeds.{quiet-shows, quiet-then}
use Rattle.mdl_shared.proofs.WaitSteps.{still-member}
use Rattle.mdl_shared.proofs.WishCalls.{begin-granted, begin-refused, begun-joins, try-blocked, try-granted, try-refused, untold-wish}
use Rattle.mdl_shared.proofs.WishShows.{shows}

-- ---- why it is refused

-- as a lock space tells it
cause-told : {X : Type 0} {why : SpaceError} → (why ≡ OutOfMemory) ⊎ ((why ≡ fault.Full) × X) → (why ≡ OutOfMemory) ⊎ (why ≡ fault.Full)
cause-told (inl memory) = inl memory
cause-told (inr full) = inr full.0

-- there was no room for the fast tickets that the session had
pub lack-cause : (a b : SessionView) {why : SpaceError} → LacksRoomForFast why a b → (why ≡ OutOfMemory) ⊎ (why ≡ fault.Full)
lack-cause a b lacks = cause-told lacks.1

memory-more : (place : ℕ) (mode : Mode) (may : Bool) (a b : SessionView) → LacksMemory place mode StopsSlowing a b → LacksMemory place mode (StopsOrVisits place may) a b
memory-more place mode may a b (inl none) = inl none
memory-more place mode may a b (inr closed) = inr (closed-more place mode StopsSlowing (StopsOrVisits place may) a b b (λ tried stops. inl stops) closed)

module _ {Full : StepRecord → Type 0} (place : ℕ) (mode : Mode) (may : Bool) (a b : SessionView) {why : SpaceError} where
  -- there was none for a wish
  pub wish-lack : LacksRoomForWish Full place mode may why a b → (why ≡ OutOfMemory) ⊎ (why ≡ fault.Full)
  wish-lack (inl memory) = inl memory.0
  wish-lack (inr full) = inr full.0

  -- there was none for the fast tickets that it had, as a wish's answer tells it
  pub full-fast : ((why ≡ OutOfMemory) × LacksMemory place mode StopsSlowing a b) ⊎ ((why ≡ fault.Full) × IsClosed place mode StopsSlowing a b × FullForFast a b)
      → LacksRoomForWish Full place mode may why a b
  full-fast (inl memory) = inl (memory.0, memory-more place mode may a b memory.1)
  full-fast (inr full) = inr (full.0, inr (full.1, full.2))

  -- there was none for one ticket more
  pub full-one : (c : SessionView) → BecomesSlow a b → IsClosed place mode SlowsAll a b → IsVisit place may b.me c.me
      → (why ≡ OutOfMemory) ⊎ ((why ≡ fault.Full) × ShowsStep b c Full) → LacksRoomForWish Full place mode may why a c
  full-one c slow closed once (inl memory) = inl (memory, inr (closed-more place mode SlowsAll (StopsOrVisits place may) a b c (λ tried turn. inr (b.me, turn, once)) closed))
  full-one c slow closed once (inr full) = inr (full.0, inl (by-latch slow place mode may c closed once full.1))

module _ {a : SessionView} (is : IsMember a) (place : ℕ) (mode : Mode) (clear : wish_fault (kind_pinned place a.pins a.me.0.known) a.me.0.asks mode a.me.0.next ≡ None) where
  -- ---- refused

  pub try-full : {at : ℕ} {b : SessionView} {why : SpaceError} → DoesQuietly at [] a b × KeepsRoom 0 a.room b.room
      → LacksRoomForWish (MeetsFullWish place a.me.0.number mode true) place mode (obtrudes_at place mode a.me.0.known) why a b
      → Joins (data_of a) (Try_now a.me.0.number place mode) (Refused why) (data_of b) × Shows (Try_now a.me.0.number place mode) (Refused why) a b
  try-full {b = b} still lacks = (
    try-refused is place mode clear (done-nothing still.0.done) (wish-lack place mode (obtrudes_at place mode a.me.0.known) a b lacks),
    quiet-shows still.0 refl clear (λ s. s) (λ t. t) (λ owes searches. (owes, searches)) (inr lacks) still.1,
  )

  pub begin-full : {at : ℕ} {b : SessionView} {why : SpaceError} → DoesQuietly at [] a b × KeepsRoom 0 a.room b.room → LacksRoomForWish (MeetsFull place) place mode (obtrudes_at place mode a.me.0.known) why a b
      → Joins (data_of a) (Begin_wait a.me.0.number place mode) (Refused why) (data_of b) × Shows (Begin_wait a.me.0.number place mode) (Refused why) a b
  begin-full {b = b} still lacks = (
    begin-refused is place mode clear (done-nothing still.0.done) (wish-lack place mode (obtrudes_at place mode a.me.0.known) a b lacks),
    quiet-shows still.0 refl clear (λ s. s) (λ t. t) (λ owes searches. (owes, searches)) (inr lacks) still.1,
  )

  -- ---- granted

  module _ {b : SessionView} {id : ℕ} (first : id ≡ a.me.0.next) (quiet : DoesQuietly place (Gain id mode ∷ []) a b) (met : IsGranted place mode (Gain id mode) a b)
      (keeps : KeepsRoom 1 a.room b.room) where
    pub try-grants : Joins (data_of a) (Try_now a.me.0.number place mode) (Granted id) (data_of b) × Shows (Try_now a.me.0.number place mode) (Granted id) a b
    try-grants = (try-granted is place mode clear first quiet.done, quiet-shows quiet refl clear (λ s. s) (λ t. t) (λ owes searches. (owes, searches)) met keeps)

    pub begin-grants : Joins (data_of a) (Begin_wait a.me.0.number place mode) (Granted id) (data_of b) × Shows (Begin_wait a.me.0.number place mode) (Granted id) a b
    begin-grants = (begin-granted is place mode clear first quiet.done, quiet-shows quiet refl clear (λ s. s) (λ t. t) (λ owes searches. (owes, searches)) met keeps)

  -- by the fast path
  pub try-fast : {b : SessionView} {id : ℕ} → GainsFast place mode id a b
      → Joins (data_of a) (Try_now a.me.0.number place mode) (Granted id) (data_of b) × Shows (Try_now a.me.0.number place mode) (Granted id) a b
  try-fast gains = try-grants gains.first gains.quiet (inl gains.met) gains.room

  pub begin-fast : {b : SessionView} {id : ℕ} → GainsFast place mode id a b
      → Joins (data_of a) (Begin_wait a.me.0.number place mode) (Granted id) (data_of b) × Shows (Begin_wait a.me.0.number place mode) (Granted id) a b
  begin-fast gains = begin-grants gains.first gains.quiet (inl gains.met) gains.room

  -- ---- by the latch of the place, once all fast tickets are slow ones

  module _ {b c : SessionView} (slow : BecomesSlow a b) (closed : IsClosed place mode SlowsAll a b)
      (once : IsVisit place (obtrudes_at place mode a.me.0.known) b.me c.me) where
    granted-since : {id : ℕ} → GainsSlow place mode id b c → IsGranted place mode (Gain id mode) a c
    granted-since {id} gains =
        inr (by-latch slow place mode (obtrudes_at place mode a.me.0.known) c closed once (subst (λ (n : ℕ). ShowsStep b c (MeetsGrantable place n mode (Gain id mode))) (number-slow slow) gains.met))

    pub tried-slow : (result : Result Attempt SpaceError) → IfOk result (λ answer. HasTried place mode answer b c)
        → OnErr result (DoesQuietly place [] b c × KeepsRoom 0 b.room c.room)
        → IfErr result (λ why. (why ≡ OutOfMemory) ⊎ ((why ≡ fault.Full) × ShowsStep b c (MeetsFullWish place b.me.0.number mode true)))
        → Joins (data_of a) (Try_now a.me.0.number place mode) (attempted result) (data_of c)
        × Shows (Try_now a.me.0.number place mode) (attempted result) a c
    tried-slow (Ok (attempt.Granted id)) tried still causes =
        try-grants (tried.first ∙ next-slow slow) (quiet-then slow.quiet tried.quiet) (granted-since tried)
        (keeps-before 1 a.room b.room c.room slow.room tried.room)
    tried-slow (Ok attempt.WouldWait) tried still causes =
        let quiet = quiet-then slow.quiet tried.quiet in
        let met = subst (λ (n : ℕ). ShowsStep b c (MeetsBlocked place n mode)) (number-slow slow) tried.met in (
          try-blocked is place mode clear (done-nothing quiet.done),
          quiet-shows quiet refl clear (λ s. s) (λ t. t) (λ owes searches. (owes, searches)) (by-latch slow place mode (obtrudes_at place mode a.me.0.known) c closed once met) (keeps-before 0 a.room b.room c.room slow.room tried.room),
        )
    tried-slow (Err why) tried still causes =
        let met = subst (λ (n : ℕ). (why ≡ OutOfMemory) ⊎ ((why ≡ fault.Full) × ShowsStep b c (MeetsFullWish place n mode true))) (number-slow slow) causes in
        try-full (quiet-then slow.quiet still.0, keeps-before 0 a.room b.room c.room slow.room still.1) (full-one place mode (obtrudes_at place mode a.me.0.known) a b c slow closed once met)

    -- it waits
    waits-joins : {number : ℕ} → BeginsToWait place mode number b c → Joins (data_of a) (Begin_wait a.me.0.number place mode) (Waits number) (data_of c)
    waits-joins {number} begins =
        let still = ap (λ (x : SessionView). wish_fault (kind_pinned place x.pins x.me.0.known) x.me.0.asks mode x.me.0.next) slow.quiet.done.now ∙ clear in
        let now : c ≡ record b { me = (record (view_awaiting place mode b.me.0) { log = b.me.0.log ++ begins.opens.made }, b.me.1); room = c.room }
        = λ i. record { table = begins.table i; sessions = begins.sessions i; me = begins.opens.now i; room = c.room; pins = begins.pins i } in
        let joins = begun-joins (still-member slow.quiet.done is) still now begins.next in
        let by = subst (λ (n : ℕ). Joins (data_of b) (Begin_wait n place mode) (Waits number) (data_of c)) (number-slow slow) joins in
        subst (λ (s : SessionData). Joins s (Begin_wait a.me.0.number place mode) (Waits number) (data_of c)) (same-space slow.quiet) by

    waits-shows : {number : ℕ} → BeginsToWait place mode number b c → Shows (Begin_wait a.me.0.number place mode) (Waits number) a c
    waits-shows begins =
        let opens = begins.opens in
        let log = ap (λ (m : Mine). m.0.log) opens.now in
        let met = subst (λ (x : SessionView). (e f : StepRecord) × AreStepsOf b.me c.me e f × MeetsBlocked place x.me.0.number mode e
        × MeetsOpening x.table.slots place x.me.0.number x.me.0.waits x.me.0.next mode f) slow.quiet.done.now begins.met in
        shows (begins.table ∙ ap (λ (x : SessionView). x.table) slow.quiet.done.now) (begins.sessions ∙ ap (λ (x : SessionView). x.sessions) slow.quiet.done.now) clear
        (does_then [] [] a.me b.me c.me slow.quiet.did (opens.made, log, opens.did)) (ap (λ (m : Mine). m.0.settles) opens.now ∙ slow.quiet.settled)
        (ap (λ (m : Mine). m.0.told) opens.now ∙ sym (untold-wish is place mode clear)) (by-latch slow place mode (obtrudes_at place mode a.me.0.known) c closed once met)
        (keeps-before 0 a.room b.room c.room slow.room begins.room)
        (same-debts a c (ap (λ (m : Mine). m.0.owes) opens.now ∙ slow.quiet.owes))
        (ap (λ (m : Mine). m.0.owes) opens.now ∙ slow.quiet.owes, ap (λ (m : Mine). m.0.searches) opens.now)

    pub begun-slow : (result : Result Begun SpaceError) → IfOk result (λ answer. HasBegun place mode answer b c)
        → OnErr result (DoesQuietly place [] b c × KeepsRoom 0 b.room c.room)
        → IfErr result (λ why. (why ≡ OutOfMemory) ⊎ ((why ≡ fault.Full) × ShowsStep b c (MeetsFull place)))
        → Joins (data_of a) (Begin_wait a.me.0.number place mode) (begun result) (data_of c)
        × Shows (Begin_wait a.me.0.number place mode) (begun result) a c
    begun-slow (Ok (begin.Granted id)) asked still causes =
        begin-grants (asked.first ∙ next-slow slow) (quiet-then slow.quiet asked.quiet) (granted-since asked)
        (keeps-before 1 a.room b.room c.room slow.room asked.room)
    begun-slow (Ok (begin.Waiting number)) asked still causes = (waits-joins asked, waits-shows asked)
    begun-slow (Err why) asked still causes =
        begin-full (quiet-then slow.quiet still.0, keeps-before 0 a.room b.room c.room slow.room still.1) (full-one place mode (obtrudes_at place mode a.me.0.known) a b c slow closed once causes)
