-- Calls whose session goes by the latch of a place once its fast tickets have become slow ones: what is so of the whole call by what is so of a part.
use Rattle.std.proofs.Common.{◌≡◌, ◌⊎◌, inl, inr, ℕ, ◌<◌, Bool, List, [], Option, length, sym, ap, subst, ◌∙◌, filter_map}
use Rattle.mdl_shared.proofs.FirstLemmas.{AllMadeSlow, BecomesSlow, ByLatch, ByVisit, Deed, DoesQuietly, Each, FindsClosed, FromUnfast, Full, FullForFast, IsClosed, IsVisit, LacksMemory, LacksRoomForFast, Lists, MakesMoreSteps, MakesSlow, MeetsFullFor, Member, Mine, Mode, OutOfMemory, Room, SessionData, SessionTicket, SessionView, ShowsStep, SlowsAll, SpaceError, StopsSlowing, data_of, each_map, note_of, numbers_by, own_at, own_by, settled_told}
use Rattle.mdl_shared.proofs.QuietDeeds.{quiet-steps, shows-later}

-- ---- as a lock space

-- it is the same where nothing was done but steps, whichever of its tickets are fast
pub same-space : {place : ℕ} {a b : SessionView} → DoesQuietly place [] a b → data_of b ≡ data_of a
same-space {a = a} quiet =
    let told : quiet.done.told ≡ a.me.0.told = sym (ap (λ (x : SessionView). x.me.0.told) quiet.done.now) ∙ quiet.told in
    let space : List SessionTicket → Option ℕ → SessionData = λ tickets told. record {
      number = a.me.0.number;
      own = own_by tickets a.me.0.asks a.me.0.waits a.pins;
      numbers = numbers_by a.me.0.next a.me.0.waits;
      known = a.me.0.known;
      settled = settled_told told;
      notes = filter_map note_of tickets;
      reads = a.me.0.reads;
    } in
    ap data_of quiet.done.now ∙ (λ i. space (quiet.done.tickets i) (told i))

-- ---- after room was made

-- what a session did that had more room then
pub quiet-room : {place : ℕ} {ds : List Deed} {b : SessionView} (a : SessionView) (room : Room) → DoesQuietly place ds (record a { room = room }) b → DoesQuietly place ds a b
quiet-room a room quiet =
    let done = quiet.done in record {
      done = record {
        slow = done.slow;
        fast = done.fast;
        told = done.told;
        owes = done.owes;
        searches = done.searches;
        settles = done.settles;
        log = done.log;
        room = done.room;
        now = done.now;
        tickets = done.tickets;
        fasts = done.fasts;
        stays = done.stays;
        owed = done.owed;
        unasked = done.unasked;
      };
      did = quiet.did;
      settled = quiet.settled;
      told = quiet.told;
      owes = quiet.owes;
      searches = quiet.searches;
    }

-- ---- the fast path was closed

-- and so it was whatever else is said of what followed
pub closed-more : (place : ℕ) (mode : Mode) (Then More : Mine → Mine → Type 0) (a b c : SessionView) → ((tried : Mine) → Then tried b.me → More tried c.me)
    → IsClosed place mode Then a b → IsClosed place mode More a c
closed-more place mode Then More a b c so closed = (closed.0, closed.1, so closed.0 closed.2)

-- ---- from a moment on at which the session has no fast ticket

module _ {a b : SessionView} (slow : BecomesSlow a b) where
  -- it is the session that it was
  pub number-slow : b.me.0.number ≡ a.me.0.number
  number-slow = ap (λ (x : SessionView). x.me.0.number) slow.quiet.done.now

  pub next-slow : b.me.0.next ≡ a.me.0.next
  next-slow = ap (λ (x : SessionView). x.me.0.next) slow.quiet.done.now

  -- this is so from that moment on
  pub from-slow : {fact : SessionView → Type 0} → fact b → FromUnfast a fact
  from-slow is = (b, quiet-steps slow.quiet, slow.made, is)

  -- and so by the latch, if the fast path was closed
  pub by-latch : (place : ℕ) (mode : Mode) (may : Bool) (c : SessionView) {fact : SessionView → Type 0} → IsClosed place mode SlowsAll a b → IsVisit place may b.me c.me
      → fact b → ByLatch place mode may a c fact
  by-latch place mode may c closed once is = from-slow (closed, once, is)

  -- or by one visit, after which nothing else was done
  pub by-visit : (place : ℕ) (may : Bool) (c : SessionView) {fact : SessionView → Type 0} → SlowsAll a.me b.me → IsVisit place may b.me c.me → fact b
      → ByVisit place may a c fact
  by-visit place may c turn once is = from-slow (turn, once, is)

-- ---- after steps that left the fast tickets as they were

-- they became slow ones
pub made-later : (a b c : SessionView) → MakesMoreSteps a.me b.me → b.me.0.fast ≡ a.me.0.fast → AllMadeSlow b c → AllMadeSlow a c
made-later a b c more same made =
    each_map (λ (t : SessionTicket). ShowsStep b c (MakesSlow t.place)) (λ (t : SessionTicket). ShowsStep a c (MakesSlow t.place))
    (λ t shown. shows-later a b c more shown) a.me.0.fast (subst (λ (fast : List SessionTicket). Each (λ (t : SessionTicket). ShowsStep b c (MakesSlow t.place)) fast) same made)

-- there was no room for them
full-later : (a b c : SessionView) → MakesMoreSteps a.me b.me → b.me.0.fast ≡ a.me.0.fast → FullForFast b c → FullForFast a c
full-later a b c more same full =
    let q = full.0 in
    let shown = shows-later a b c more full.3 in (
      q,
      subst (λ (fast : List SessionTicket). 0 < length (own_at q fast)) same full.1,
      subst (λ (fast : List SessionTicket). own_at q c.me.0.fast ≡ own_at q fast) same full.2,
      (shown.0, shown.1, subst (λ (fast : List SessionTicket). MeetsFullFor (length (own_at q fast)) q shown.0) same shown.2),
    )

-- and the fast path was closed before
pub lacks-later : (place : ℕ) (mode : Mode) (a b c : SessionView) {why : SpaceError} → MakesMoreSteps a.me b.me → b.me.0.fast ≡ a.me.0.fast
    → FindsClosed place mode a b.me → StopsSlowing b.me c.me → LacksRoomForFast why b c
    → ((why ≡ OutOfMemory) × LacksMemory place mode StopsSlowing a c) ⊎ ((why ≡ Full) × IsClosed place mode StopsSlowing a c × FullForFast a c)
lacks-later place mode a b c {why} first same closed stops lacks = by lacks.1
  where
    by : (why ≡ OutOfMemory) ⊎ ((why ≡ Full) × FullForFast b c)
        → ((why ≡ OutOfMemory) × LacksMemory place mode StopsSlowing a c) ⊎ ((why ≡ Full) × IsClosed place mode StopsSlowing a c × FullForFast a c)
    by (inl memory) = inl (memory, inr (b.me, closed, stops))
    by (inr full) = inr (full.0, (b.me, closed, stops), full-later a b c first same full.1)

-- they are as they were where its own list of them is
pub fast-still : (m m′ : Member) → m′.tickets.fast ≡ m.tickets.fast → m′.seat.me.0.fast ≡ m.seat.me.0.fast
fast-still m m′ same = sym (ap (λ (l : Lists). l.fast) m′.lists) ∙ same ∙ ap (λ (l : Lists). l.fast) m.lists
