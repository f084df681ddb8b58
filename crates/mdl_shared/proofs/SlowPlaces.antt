-- A session's fast tickets become slow ones, one place after the other.
use Rattle.std.proofs.Common.{◌≡◌, ◌≢◌, ◌⊎◌, inl, inr, ℕ, ◌+◌, ◌<◌, ◌≤◌, ◌==◌, false, List, [], ◌∷◌, ◌++◌, length, refl, sym, ap, subst, ◌∙◌, arith, append_assoc, eq-eqb, eqb-true, nat_lt}
use Rattle.mdl_shared.proofs.FirstLemmas.{AllMadeSlow, AreSameOrSlow, AreSlowBefore, Each, FullForFast, IsNextFast, LacksRoomForFast, Lists, MakesMoreSteps, MakesSlow, MeetsFullFor, Member, Mine, SessionTicket, SessionView, ShowsStep, SlowsInTurn, SpaceError, StopsSlowing, VisitsOnce, but_at, by_bool, false≢true, gone_here, nat_tests, own_at}
use Rattle.mdl_shared.proofs.QuietDeeds.{shows-first, shows-later}

-- ---- the tickets of one place, without those of another

pub all-left : (place q : ℕ) (tickets : List SessionTicket) → (q == place) ≡ false → own_at q (but_at place tickets) ≡ own_at q tickets
all-left place q [] apart = refl
all-left place q (t ∷ ts) apart =
    by_bool (t.place == place)
    (λ here.
    let is : (t.place == q) ≡ false = other t.place q place (eqb-true t.place place here) apart in
    rw (here, is) (all-left place q ts apart))
    (λ there. by_bool (t.place == q)
    (λ its. rw (there, its) (ap (λ (us : List SessionTicket). t ∷ us) (all-left place q ts apart)))
    (λ isnt. rw (there, isnt) (all-left place q ts apart)))
  where
    other : (p q place : ℕ) → p ≡ place → (q == place) ≡ false → (p == q) ≡ false
    other p q place is apart = by_bool (p == q) (λ same. absurd (false≢true (sym apart ∙ eq-eqb q place (sym (eqb-true p q same) ∙ is)))) (λ differ. differ)

-- without those of a place there are fewer, where there is one
parted : (place : ℕ) (tickets : List SessionTicket) → length (but_at place tickets) + length (own_at place tickets) ≡ length tickets
parted place [] = refl
parted place (t ∷ ts) =
    let more = parted place ts in
    by_bool (t.place == place)
    (λ here. rw here (omega arith))
    (λ there. rw there (omega arith))

pub fewer-left : (place : ℕ) (tickets : List SessionTicket) → 0 < length (own_at place tickets) → length (but_at place tickets) < length tickets
fewer-left place tickets some = let all = parted place tickets in omega arith

-- ---- one place more

-- where those of a place stay as they were
same-still : (a b c : SessionView) (q : ℕ) → MakesMoreSteps b.me c.me → own_at q c.me.0.fast ≡ own_at q b.me.0.fast
    → (own_at q b.me.0.fast ≡ own_at q a.me.0.fast) ⊎ ((own_at q b.me.0.fast ≡ []) × ShowsStep a b (MakesSlow q))
    → (own_at q c.me.0.fast ≡ own_at q a.me.0.fast) ⊎ ((own_at q c.me.0.fast ≡ []) × ShowsStep a c (MakesSlow q))
same-still a b c q later same (inl is) = inl (same ∙ is)
same-still a b c q later same (inr made) = inr (same ∙ made.0, shows-first a b c later made.1)

pub slow-more : (a b c : SessionView) (place : ℕ) → MakesMoreSteps a.me b.me → MakesMoreSteps b.me c.me → AreSameOrSlow a b → c.me.0.fast ≡ but_at place b.me.0.fast
    → ShowsStep b c (MakesSlow place) → AreSameOrSlow a c
slow-more a b c place first later so fast shown q =
    by_bool (q == place)
    (λ here.
    let is = eqb-true q place here in
    inr (
      ap (own_at q) fast ∙ ap (λ (p : ℕ). own_at p (but_at place b.me.0.fast)) is ∙ gone_here place b.me.0.fast,
      subst (λ (p : ℕ). ShowsStep a c (MakesSlow p)) (sym is) (shows-later a b c first shown),
    ))
    (λ there. same-still a b c q later (ap (own_at q) fast ∙ all-left place q b.me.0.fast there) (so q))

-- where all stay
pub slow-still : (a b c : SessionView) → MakesMoreSteps b.me c.me → AreSameOrSlow a b → c.me.0.fast ≡ b.me.0.fast → AreSameOrSlow a c
slow-still a b c later so fast q = same-still a b c q later (ap (own_at q) fast) (so q)

-- ---- all places

filled : (t : SessionTicket) (before after : List SessionTicket) → own_at t.place (before ++ t ∷ after) ≢ []
filled t [] after none = let no = rw (eq-eqb t.place t.place refl) at none in absurd (cc)
filled t (u ∷ us) after none = by_bool (u.place == t.place) (λ here. let no = rw here at none in absurd (cc)) (λ there. filled t us after (rw there at none))

-- where none is left, each was made slow
pub all-slow : (a b : SessionView) → AreSameOrSlow a b → b.me.0.fast ≡ [] → AllMadeSlow a b
all-slow a b so unfast = go [] a.me.0.fast (λ q. each q (so q))
  where
    each : (q : ℕ) → (own_at q b.me.0.fast ≡ own_at q a.me.0.fast) ⊎ ((own_at q b.me.0.fast ≡ []) × ShowsStep a b (MakesSlow q))
        → (own_at q a.me.0.fast ≡ []) ⊎ ShowsStep a b (MakesSlow q)
    each q (inl same) = inl (sym same ∙ ap (own_at q) unfast)
    each q (inr made) = inr made.1

    go : (before after : List SessionTicket) → ((q : ℕ) → (own_at q (before ++ after) ≡ []) ⊎ ShowsStep a b (MakesSlow q)) → Each (λ (t : SessionTicket). ShowsStep a b (MakesSlow t.place)) after
    go before [] all = tt
    go before (t ∷ ts) all = (
      this (all t.place),
      go (before ++ t ∷ []) ts (λ q. subst (λ (us : List SessionTicket). (own_at q us ≡ []) ⊎ ShowsStep a b (MakesSlow q)) (sym (append_assoc before (t ∷ []) ts)) (all q)),
    )
      where
        this : (own_at t.place (before ++ t ∷ ts) ≡ []) ⊎ ShowsStep a b (MakesSlow t.place) → ShowsStep a b (MakesSlow t.place)
        this (inl none) = absurd (filled t before ts none)
        this (inr made) = made

-- ---- there was no room

-- the session has none where it has none at any place
pub none-anywhere : (fast : List SessionTicket) → ((q : ℕ) → own_at q fast ≡ []) → fast ≡ []
none-anywhere [] none = refl
none-anywhere (t ∷ ts) none = absurd (filled t [] ts (none t.place))

-- so it had some where it has some left
had-some : (a b : SessionView) → AreSameOrSlow a b → b.me.0.fast ≢ [] → a.me.0.fast ≢ []
had-some a b so some none = some (none-anywhere b.me.0.fast (λ q. there q (so q)))
  where
    there : (q : ℕ) → (own_at q b.me.0.fast ≡ own_at q a.me.0.fast) ⊎ ((own_at q b.me.0.fast ≡ []) × ShowsStep a b (MakesSlow q)) → own_at q b.me.0.fast ≡ []
    there q (inl same) = same ∙ ap (own_at q) none
    there q (inr made) = made.0

-- those of a place where it has some left are as they were
same-some : (a b : SessionView) (q : ℕ) → 0 < length (own_at q b.me.0.fast)
    → (own_at q b.me.0.fast ≡ own_at q a.me.0.fast) ⊎ ((own_at q b.me.0.fast ≡ []) × ShowsStep a b (MakesSlow q)) → own_at q b.me.0.fast ≡ own_at q a.me.0.fast
same-some a b q some (inl same) = same
same-some a b q some (inr made) = (let none : ◌≡◌ {A = ℕ} (length (own_at q b.me.0.fast)) 0 = ap length made.0 in absurd (omega (arith, some)))

full-after : (a b c : SessionView) → MakesMoreSteps a.me b.me → AreSameOrSlow a b → FullForFast b c → FullForFast a c
full-after a b c first so (q, some, still, shown) =
    let same = same-some a b q some (so q) in (
      q,
      subst (λ (ts : List SessionTicket). 0 < length ts) same some,
      still ∙ same,
      subst (λ (ts : List SessionTicket). ShowsStep a c (MeetsFullFor (length ts) q)) same (shows-later a b c first shown),
    )

pub lacks-after : (a b c : SessionView) (why : SpaceError) → MakesMoreSteps a.me b.me → AreSameOrSlow a b → LacksRoomForFast why b c → LacksRoomForFast why a c
lacks-after a b c why first so lacks = (
  had-some a b so lacks.0,
  elim lacks.1 [
    | inl memory ↦ inl memory
    | inr full ↦ inr (full.0, full-after a b c first so full.1)
  ],
)

-- ---- in the order of places

-- one place more
pub before-more : (a b c : SessionView) (place : ℕ) → AreSlowBefore a b → 0 < length (own_at place b.me.0.fast) → ((q : ℕ) → q < place → own_at q b.me.0.fast ≡ [])
    → c.me.0.fast ≡ but_at place b.me.0.fast → AreSlowBefore a c
before-more a b c place so some first fast =
    let past : so.0 ≤ place = by_bool (nat_lt place so.0)
    (λ less. absurd (let none = ap (λ (us : List SessionTicket). length us) ((so.1 place).0 (grind (arith, nat_tests, less))) in omega (arith, some, none)))
    (λ greater. grind (arith, nat_tests, greater))
    in (
      place + 1,
      λ q. (
        λ before. ap (own_at q) fast ∙ by_bool (q == place)
            (λ here. let is = eqb-true q place here in ap (λ (p : ℕ). own_at p (but_at place b.me.0.fast)) is ∙ gone_here place b.me.0.fast)
            (λ there. all-left place q b.me.0.fast there ∙ first q (grind (arith, nat_tests, before, there))),
        λ after. ap (own_at q) fast ∙ all-left place q b.me.0.fast (grind (arith, nat_tests, after)) ∙ (so.1 q).1 (omega (arith, past, after)),
      ),
    )

-- where all stay
pub before-still : (a b c : SessionView) → AreSlowBefore a b → c.me.0.fast ≡ b.me.0.fast → AreSlowBefore a c
before-still a b c so fast = (so.0, λ q. (λ before. ap (own_at q) fast ∙ (so.1 q).0 before, λ after. ap (own_at q) fast ∙ (so.1 q).1 after))

-- ---- one visit after another

-- one more
pub turn-more : (places : List ℕ) (place : ℕ) (fast left : List SessionTicket) (a b c : Mine) → SlowsInTurn places fast left a b → IsNextFast place left → VisitsOnce place b c
    → SlowsInTurn (places ++ place ∷ []) fast (but_at place left) a c
turn-more [] place fast left a b c turn next once =
    (subst (IsNextFast place) turn.0 next, c, subst (λ (m : Mine). VisitsOnce place m c) turn.1 once, (ap (but_at place) turn.0, refl))
turn-more (p ∷ ps) place fast left a b c (first, mid, visit, later) next once =
    (first, mid, visit, turn-more ps place (but_at p fast) left mid b c later next once)

-- or one that was in vain
pub stops-more : (places : List ℕ) (left : List SessionTicket) (a b c : Mine) → SlowsInTurn places a.0.fast left a b → (place : ℕ) → IsNextFast place left
    → (c ≡ b) ⊎ VisitsOnce place b c → StopsSlowing a c
stops-more places left a b c turn place next (inl same) = (places, left, b, turn, inl same)
stops-more places left a b c turn place next (inr once) = (places, left, b, turn, inr (place, next, once))

-- the least place by its own list is that by its view
pub next-seen : (m : Member) (place : ℕ) → 0 < length (own_at place m.tickets.fast) → ((q : ℕ) → q < place → own_at q m.tickets.fast ≡ [])
    → IsNextFast place m.seat.me.0.fast
next-seen m place some first =
    subst (IsNextFast place) (ap (λ (l : Lists). l.fast) m.lists) (some, first)

-- ---- at first

pub none-before : (a : SessionView) → AreSlowBefore a a
none-before a = (0, λ q. (λ before. absurd (omega (arith, before)), λ after. refl))

pub same-at-first : (a : SessionView) → AreSameOrSlow a a
same-at-first a q = inl refl
