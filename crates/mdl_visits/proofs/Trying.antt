-- What a try comes to, by the record of the latch as it was entered.
use Rattle.std.proofs.Common.{◌≡◌, ℕ, ◌+◌, ◌≤◌, Bool, true, false, cond, ◌||◌, List, [], ◌∷◌, ◌++◌, length, Some, None, Result, Ok, Err, refl, sym, ap, ◌∙◌, subst, inl, inr, append_assoc, length-append, arith, ◌⊎◌, nat_lt, nat_le, is_some, OnOk, Option, lt-ltb, leb-true}
use Rattle.mdl_book.specs.declared.book_error.BookError.TheVariants as fault
use Rattle.mdl_visits.proofs.FirstLemmas.{Alter, Arrives, AtItsTable, BookError, BookView, Deed, DidUnder, Enters, FreesNothing, Gain, HasEntered, HasStep, HasWorked, Holds, IsAtLeast, IsFresh, IsInside, IsVisit, KeyName, Kind, KnowsKind, KnowsPlace, LatchRecord, MayBeGranted, MayDo, MayJoin, MayPut, MayRise, MeetsFullWish, Mine, Mode, PutLatch, RaiseFlags, ReadWord, Refuses, RefusesJust, SeatState, StaysWithin, StepRecord, TellsLists, Ticket, Visits, VisitsOnce, WasBlocked, WasGranted, WasRefused, WasRefusedWish, and_parts, any_obtrusive, booked, by_bool, can_be_granted, change_fault, changed, covers-at_least, full_fault, grant_fault, granting, holds_written, idle_waits_not, inside_written, is_mode_of, is_obtrusive, kind_of, latch_word, list_any-append, lock_kind, lock_word, may_stand, mine, noting, or_right, own_mode, own_there, plain, raised, request_fault, stepped, table_of, ticket_by, ticket_count, ticket_of, unlatched, visit_after, visit_any, visit_put, visits_put, within_any, within_one, within_then, within_written, written}
use Rattle.mdl_visits.proofs.Altering.{altered_exactly, just_done, none_clashes}
use Rattle.mdl_visits.proofs.Losing.{found_one}

-- ---- flags

-- a book with one ticket more has one
some_ticket : (t : Ticket) (granted waiting : List Ticket) → true ≡ nat_lt 0 (length (granted ++ t ∷ []) + length waiting)
some_ticket t granted waiting = let longer = length-append granted (t ∷ []) in sym (lt-ltb 0 _ (omega (arith, longer)))

-- the flag OBTRUSIVE was up for the lists, or was raised for the ticket that joined
joined : (asks granted waiting : Bool) → (asks || (granted || waiting)) ≡ ((granted || (asks || false)) || waiting)
joined true true waiting = refl
joined true false waiting = refl
joined false true waiting = refl
joined false false waiting = refl

granted_exactly : (t : Ticket) (book : BookView) (slow obtrusive asks : Bool) → TellsLists book slow obtrusive → asks ≡ is_obtrusive (lock_kind book) t.mode
    → TellsLists (granting t book) true (asks || obtrusive)
granted_exactly t book slow obtrusive asks exact is = (
  some_ticket t book.granted book.waiting,
  ap (λ (b : Bool). asks || b) exact.1
      ∙ joined asks (any_obtrusive (lock_kind book) book.granted) (any_obtrusive (lock_kind book) book.waiting)
      ∙ ap (λ (b : Bool). (any_obtrusive (lock_kind book) book.granted || (b || false)) || any_obtrusive (lock_kind book) book.waiting) is
      ∙ ap (λ (b : Bool). b || any_obtrusive (lock_kind book) book.waiting) (sym (list_any-append (λ (x : Ticket). is_obtrusive (lock_kind book) x.mode) book.granted (t ∷ []))),
)

-- ---- why the wish may join

may_join : (book : BookView) (word session : ℕ) (mode : Mode) (asks obtrusive : Bool) (noted : Option ℕ) → asks ≡ is_obtrusive (lock_kind book) mode
    → may_stand (lock_kind book) book.granted word session mode ≡ true → MayJoin session book (cond (asks || obtrusive) (Some word) noted) mode
may_join book word session mode true obtrusive noted is stands = inr (inl (word, refl, stands))
may_join book word session mode false obtrusive noted is stands = inl (sym is, (and_parts _ _ stands).0)

err_is : (T : Type 0) (a b : BookError) → ◌≡◌ {A = Result T BookError} (Err a) (Err b) → a ≡ b
err_is T a b e = cc

-- why a ticket wasn't written, where none is refused but for want of room
pub full : (T : Type 0) (count : ℕ) (cause : BookError) → Refuses {T = T} (full_fault count) fault.OutOfMemory (Err cause) → (cause ≡ fault.OutOfMemory) ⊎ ((cause ≡ fault.Full) × (65535 ≤ count))
full T count cause refuses =
    by_bool (nat_le 65535 count)
    (λ many. let is_full = rw many at refuses in inr (err_is T cause fault.Full is_full, leb-true 65535 count many))
    (λ room. inl (rw room at refuses))

-- and one that may stand is
pub refusal : (T : Type 0) (ticket : Ticket) (word : ℕ) (book : BookView) (cause : BookError) → may_stand (lock_kind book) book.granted word ticket.session ticket.mode ≡ true
    → Refuses {T = T} (grant_fault ticket word book) fault.OutOfMemory (Err cause) → (cause ≡ fault.OutOfMemory) ⊎ ((cause ≡ fault.Full) × (65535 ≤ ticket_count book))
refusal T ticket word book cause stands refuses =
    full T (ticket_count book) cause (rw stands at refuses)

-- a request that was granted can be, by the book and the word
pub may_gain : (T : Type 0) (x : T) (t : Ticket) (word : ℕ) (book : BookView) → Refuses {T = T} (request_fault t word book) fault.OutOfMemory (Ok x)
    → can_be_granted (lock_kind book) book.granted book.waiting word t.session t.mode ≡ true
may_gain T x t word book refuses =
    by_bool (can_be_granted (lock_kind book) book.granted book.waiting word t.session t.mode)
    (λ can. can)
    (λ cannot. let never : ◌≡◌ {A = Result T BookError} (Ok x) (Err fault.WouldConflict) = rw cannot at refuses in absurd (cc))

-- one that is told to conflict can't be
pub conflicts : (T : Type 0) (t : Ticket) (word : ℕ) (book : BookView) (cause : BookError) → cause ≡ fault.WouldConflict
    → Refuses {T = T} (request_fault t word book) fault.OutOfMemory (Err cause) → can_be_granted (lock_kind book) book.granted book.waiting word t.session t.mode ≡ false
conflicts T t word book cause is refuses =
    by_bool (can_be_granted (lock_kind book) book.granted book.waiting word t.session t.mode)
    (λ can. elim (full T (ticket_count book) cause (rw can at refuses)) [
      | inl memory ↦ absurd (cc)
      | inr many ↦ let is_full = many.0 in absurd (cc)
    ])
    (λ cannot. cannot)

-- and one that is refused with another cause can be
pub lacks_room : (T : Type 0) (t : Ticket) (word : ℕ) (book : BookView) (cause : BookError) → (cause ≡ fault.WouldConflict → ⊥)
    → Refuses {T = T} (request_fault t word book) fault.OutOfMemory (Err cause)
    → (can_be_granted (lock_kind book) book.granted book.waiting word t.session t.mode ≡ true) × ((cause ≡ fault.OutOfMemory) ⊎ ((cause ≡ fault.Full) × (65535 ≤ ticket_count book)))
lacks_room T t word book cause other refuses =
    by_bool (can_be_granted (lock_kind book) book.granted book.waiting word t.session t.mode)
    (λ can. (can, full T (ticket_count book) cause (rw can at refuses)))
    (λ cannot. absurd (other (err_is T cause fault.WouldConflict (rw cannot at refuses))))

-- ---- as the place was entered

-- the steps by which it was entered raised OBTRUSIVE only if the wish is obtrusive
pub entered_within : {place : ℕ} {s : SeatState} {q : ℕ} {c : SeatState} (a : Arrives place s q c) (obtrusive : Bool) (word : ℕ) {b : SeatState} {d : Mine}
    → (met : ℕ) × (b ≡ record c { me = stepped (RaiseFlags true obtrusive) q met (raised true obtrusive) c.me }) → d ≡ stepped ReadWord q word (noting word) b.me
    → StaysWithin obtrusive s.me d
entered_within {place} {s} {q} {c} a obtrusive word {b} {d} raise read =
    let raises : StepRecord = record {
      kind = RaiseFlags true obtrusive;
      deeds = [];
      word = lock_word q;
      found = raise.0;
      held = (changed q (raised true obtrusive) c.me.0).latches;
      directory = c.me.0.directory;
    } in
    let reads : StepRecord = record { kind = ReadWord; deeds = []; word = lock_word q; found = word; held = (changed q (noting word) b.me.0).latches; directory = b.me.0.directory } in
    let up = within_one obtrusive c.me b.me raises (ap (λ (x : SeatState). x.me.0.log) raise.1) (ap (λ (x : SeatState). x.me.0.directory) raise.1) (refl, (λ is. is), refl) in
    let on = within_one obtrusive b.me d reads (ap (λ (x : Mine). x.0.log) read) (ap (λ (x : Mine). x.0.directory) read) (refl, plain obtrusive, refl) in
    within_then obtrusive s.me b.me d (within_then obtrusive s.me c.me b.me (within_any obtrusive s.me c.me a.within) up) on

module _ {place q word : ℕ} {mode : Mode} {can : Bool} {s c : SeatState} (has : HasEntered place q word mode can s c) where
  abbrev entered : Enters place has.obtrusive word mode can s.me c.me
  entered = has.entered.1

  abbrev book : BookView
  book = entered.found.book

  -- the record of the latch, as the wish is tested
  abbrev pub entered_latch : LatchRecord
  entered_latch = noting word (raised true has.obtrusive entered.found)

  kind_known : (kind : Kind) → KnowsKind s.me.0 place kind → lock_kind book ≡ kind
  kind_known kind knows = ap (λ (key : KeyName). kind_of key.namespace) (entered.fresh.named knows.0 knows.1 knows.2 knows.3) ∙ knows.4

  pub is_mode_here : is_mode_of (lock_kind book) mode ≡ true
  is_mode_here = ap (λ k. is_mode_of k mode) (kind_known has.kind has.wish.knows) ∙ has.wish.is_mode

  pub asks_here : has.obtrusive ≡ is_obtrusive (lock_kind book) mode
  asks_here = has.asks ∙ ap (λ k. is_obtrusive k mode) (sym (kind_known has.kind has.wish.knows))

  pub entered_known : KnowsPlace c.me.0 q
  entered_known =
      let knows = subst (λ (x : Mine). KnowsKind x.0 place has.kind) (sym entered.inside.now) has.wish.knows in
      subst (KnowsPlace c.me.0) (sym has.at) (knows.0, knows.1, knows.2, knows.3)

  pub entered_idle : c.me.0.asks ≡ None
  entered_idle = ap (λ (x : Mine). x.0.asks) entered.inside.now ∙ has.wish.idle

  pub entered_holds : Holds q entered_latch book c.me
  entered_holds = subst (λ (p : ℕ). Holds p entered_latch book c.me) (sym has.at) entered.holds

  pub entered_inside : IsInside q s.me c.me
  entered_inside = subst (λ (p : ℕ). IsInside p s.me c.me) (sym has.at) entered.inside

  me : s.me.0.number ≡ c.me.0.number
  me = sym (ap (λ (x : Mine). x.0.number) entered.inside.now)

  pub told_here : can_be_granted (lock_kind book) book.granted book.waiting word c.me.0.number mode ≡ can
  told_here = subst (λ (who : ℕ). can_be_granted (lock_kind book) book.granted book.waiting word who mode ≡ can) me entered.told

  -- it leaves, and the visit is over
  pub visit_entered : (may : Bool) (n : SeatState) → StaysWithin may s.me c.me → VisitsOnce q c.me n.me → IsVisit place may s.me n.me
  visit_entered may n within visit = subst (λ (p : ℕ). IsVisit p may s.me n.me) has.at (visit_after may s.me c.me n.me within q (visit_any may c.me n.me q visit))

  -- it may go with nothing done
  pub rested : HasWorked q [] false c
  rested = record {
    is_place = has.is_place;
    latch = entered_latch;
    done = record { holds = entered_holds; act = inr refl; may = tt };
    flagged = ((λ some. refl), λ some. or_right has.obtrusive entered.found.obtrusive (entered.fresh.exact.1 ∙ some));
    once = record { once = entered.fresh.once; single = entered.fresh.single };
    freed_is = ap (λ (b : Bool). b || false) entered.fresh.unfreed;
  }

  -- and did so, though there was no room, as the step that read the word shows
  pub refused : (cause : BookError) (w n : SeatState) → w ≡ c → (cause ≡ fault.OutOfMemory) ⊎ ((cause ≡ fault.Full) × (65535 ≤ ticket_count book))
      → ((b : SeatState) → AtItsTable b w (IsInside q) → AtItsTable b n (Visits q [])) → HasStep w n (DidUnder q [] w) → WasRefusedWish place mode can cause s n
  refused cause w n same why visited step =
      let inside = subst (λ (x : SeatState). IsInside q s.me x.me) (sym same) entered_inside in
      (subst (λ (p : ℕ). AtItsTable s n (Visits p [])) has.at (visited s (table_of same ∙ has.entered.0, inside)), by why)
    where
      by : (cause ≡ fault.OutOfMemory) ⊎ ((cause ≡ fault.Full) × (65535 ≤ ticket_count book))
          → (cause ≡ fault.OutOfMemory) ⊎ ((cause ≡ fault.Full) × HasStep s n (MeetsFullWish place s.me.0.number mode can))
      by (inl memory) = inl memory
      by (inr full) =
          let later = subst (λ (x : SeatState). HasStep x n (DidUnder q [] x)) same step in
          let read : StepRecord = record { kind = ReadWord; deeds = []; word = lock_word place; found = word; held = c.me.0.latches; directory = c.me.0.directory } in
          let after : List StepRecord = later.1.0 ++ later.0 ∷ later.1.1 in
          inr (
            full.0,
            (
              read,
              (
                entered.read.0,
                after,
                later.1.2 ∙ append_assoc c.me.0.log later.1.0 (later.0 ∷ later.1.1) ∙ ap (λ (log : List StepRecord). log ++ after) entered.read.1
                    ∙ append_assoc (s.me.0.log ++ entered.read.0) (read ∷ []) after,
              ),
              record { kind = refl; word = refl; latch = entered_latch; held = entered.holds.recorded; full = full.1; grantable = entered.told },
            ),
          )

-- the book was full, whatever was wished for
pub as_refused : {place : ℕ} {mode : Mode} {can : Bool} {cause : BookError} {s n : SeatState} → WasRefusedWish place mode can cause s n → WasRefused place cause s n
as_refused (visit, inl memory) = (visit, inl memory)
as_refused (visit, inr full) =
    let met = full.1.2 in
    (visit, inr (full.0, (full.1.0, full.1.1, record { word = met.word; latch = met.latch; held = met.held; full = met.full })))

-- whether the wish can be granted is known
pub as_told : {place q word : ℕ} {mode : Mode} {can known : Bool} {s c : SeatState} → can ≡ known → HasEntered place q word mode can s c → HasEntered place q word mode known s c
as_told {place} {q} {word} {mode} {can} {known} {s} {c} is has = subst (λ (b : Bool). HasEntered place q word mode b s c) is has

-- likewise, and the latch is still held
pub still_entered : {place q p word : ℕ} {mode : Mode} {can known : Bool} {s c d : SeatState} → (can ≡ known) × (p ≡ q) × (d ≡ c) → HasEntered place q word mode can s c
    → HasEntered place p word mode known s d
still_entered {place} {q} {p} {word} {mode} {can} {known} {s} {c} {d} told has =
    subst (λ (x : SeatState). HasEntered place p word mode known s x) (sym told.2) (subst (λ (x : ℕ). HasEntered place x word mode known s c) (sym told.1) (as_told told.0 has))

-- ---- where the wish can't be granted

module _ {place q word : ℕ} {mode : Mode} {s c : SeatState} (has : HasEntered place q word mode false s c) where
  -- the step that read the word shows it
  pub blocked : (n : SeatState) → ((b : SeatState) → AtItsTable b c (IsInside q) → AtItsTable b n (Visits q [])) → HasStep c n (DidUnder q [] c) → WasBlocked place mode s n
  blocked n visited step =
      let entered = has.entered.1 in
      let read : StepRecord = record { kind = ReadWord; deeds = []; word = lock_word place; found = word; held = c.me.0.latches; directory = c.me.0.directory } in
      let after : List StepRecord = step.1.0 ++ step.0 ∷ step.1.1 in (
        subst (λ (p : ℕ). AtItsTable s n (Visits p [])) has.at (visited s (has.entered.0, entered_inside has)),
        (
          read,
          (
            entered.read.0,
            after,
            step.1.2 ∙ append_assoc c.me.0.log step.1.0 (step.0 ∷ step.1.1) ∙ ap (λ (log : List StepRecord). log ++ after) entered.read.1 ∙ append_assoc (s.me.0.log ++ entered.read.0) (read ∷ []) after,
          ),
          record { kind = refl; word = refl; latch = entered_latch has; held = entered.holds.recorded; blocked = entered.told },
        ),
      )

-- ---- where it can

-- a deed was written, and the latch given back with it
pub visit_written : (q : ℕ) (ds : List Deed) (book : BookView) (c w n : SeatState) → w ≡ record c { me = written q book c.me } → n ≡ record w { me = unlatched q ds w.me }
    → VisitsOnce q c.me n.me
visit_written q ds book c w n wrote puts =
    visit_after false c.me w.me n.me (within_written false c.me w.me q book (mine wrote)) q (visit_put false w.me n.me q ds (mine puts))

module _ {place q word : ℕ} {mode : Mode} {s c : SeatState} (has : HasEntered place q word mode true s c) where
  abbrev found : LatchRecord
  found = has.entered.1.found

  abbrev latch : LatchRecord
  latch = entered_latch has

  joins : (session : ℕ) → can_be_granted (lock_kind found.book) found.book.granted found.book.waiting word session mode ≡ true → MayJoin session found.book latch.noted mode
  joins session can = may_join found.book word session mode has.obtrusive found.obtrusive found.noted (asks_here has) (and_parts _ _ can).0

  granted_here : MayBeGranted c.me.0 found.book latch.noted mode
  granted_here =
      let can = told_here has in
      record {
        idle = entered_idle has;
        is_mode = is_mode_here has;
        joins = joins c.me.0.number can;
        first = (and_parts _ _ can).1;
      }

  -- it has a deed written that it may do, and may give the latch back
  may_put : (d : Deed) (w : SeatState) → MayDo c.me.0 found.book latch.noted (d ∷ []) → TellsLists (booked c.me.0.number d found.book) true (has.obtrusive || found.obtrusive)
      → FreesNothing c.me.0.number found.book (d ∷ []) → w ≡ record c { me = written q (booked c.me.0.number d found.book) c.me } → MayPut q (d ∷ []) w.me
  may_put d w may told keeps_out wrote =
      subst (λ (x : SeatState). MayPut q (d ∷ []) x.me) (sym wrote) (
        latch,
        record {
          holds = holds_written q latch found.book (booked c.me.0.number d found.book) c.me (entered_holds has);
          act = inl (entered_known has);
          may = may;
        },
        told,
        keeps_out,
        has.entered.1.fresh.unfreed,
      )

  -- the deed is the ticket that it gains
  pub ready : (number : ℕ) (w : SeatState) → number ≡ c.me.0.next → w ≡ record c { me = written q (booked c.me.0.number (Gain number mode) found.book) c.me } → MayPut q (Gain number mode ∷ []) w.me
  ready number w next wrote =
      may_put (Gain number mode) w
      (next, inl granted_here)
      (granted_exactly (record { session = c.me.0.number; number = number; mode = mode }) found.book found.slow found.obtrusive has.obtrusive has.entered.1.fresh.exact
      (asks_here has))
      tt
      wrote

  -- or the other mode of a ticket that it has there, an obtrusive one
  module _ (number : ℕ) (kind : Kind) (knows : KnowsKind s.me.0 place kind) (loud : is_obtrusive kind mode ≡ true) (rise : MayRise place number mode s.me.0) where
    up : has.obtrusive ≡ true
    up = asks_here has ∙ ap (λ k. is_obtrusive k mode) (kind_known has kind knows) ∙ loud

    its : ticket_of c.me.0.number number found.book.granted ≡ Some (ticket_by c.me.0.number rise.held)
    its =
        own_there c.me.0.number number rise.held found s.me (me has) (subst (λ (p : ℕ). IsFresh p found s.me) (sym rise.here) has.entered.1.fresh)
        (idle_waits_not s.me.0 number has.wish.idle) rise.there

    stands : is_some (ticket_of c.me.0.number number found.book.granted) ≡ true
    stands = ap is_some its

    -- the mode is at least as strong as the ticket's own
    at_least : IsAtLeast (lock_kind found.book) mode rise.held.mode
    at_least =
        covers-at_least (lock_kind found.book) mode rise.held.mode (is_mode_here has) (own_mode place c.me.0.number number rise.held found s.me has.entered.1.fresh its) rise.stronger

    pub ready_altered : (w : SeatState) → w ≡ record c { me = written q (booked c.me.0.number (Alter number mode) found.book) c.me } → MayPut q (Alter number mode ∷ []) w.me
    ready_altered w wrote =
        let ticket = found_one (ticket_of c.me.0.number number found.book.granted) stands in
        may_put (Alter number mode) w
        (inl ((ticket.0, (ticket.1, idle_waits_not c.me.0 number granted_here.idle)), granted_here))
        (altered_exactly c.me.0.number number mode found.book has.obtrusive found.obtrusive up (sym (asks_here has) ∙ up) stands)
        (ticket_by c.me.0.number rise.held, its, at_least)
        wrote

    -- which was written
    pub altered : (w : SeatState) (result : Result Unit BookError) → RefusesJust (change_fault c.me.0.number number mode word found.book) result
        → OnOk result (w ≡ record c { me = written q (booked c.me.0.number (Alter number mode) found.book) c.me })
        → w ≡ record c { me = written q (booked c.me.0.number (Alter number mode) found.book) c.me }
    altered w result refuses wrote =
        just_done (change_fault c.me.0.number number mode word found.book) result
        (none_clashes c.me.0.number number mode word found.book stands (and_parts _ _ (told_here has)).0) refuses wrote

  -- the step that gave the latch back, with the deed, shows that the wish could be granted
  pub granted : (d : Deed) (w n : SeatState) → w ≡ record c { me = written q (booked c.me.0.number d found.book) c.me } → n ≡ record w { me = unlatched q (d ∷ []) w.me } → WasGranted place mode d s n
  granted d w n writes puts =
      let entered = has.entered.1 in
      let inside = entered_inside has in
      let e : StepRecord = record { kind = PutLatch; deeds = d ∷ []; word = latch_word q; found = c.me.0.number; held = c.me.0.latches; directory = c.me.0.directory } in (
        (
          table_of puts ∙ table_of writes ∙ has.entered.0,
          subst (λ (p : ℕ). Visits p (d ∷ []) s.me n.me) has.at
              (visits_put q (d ∷ []) s.me w.me n.me (inside_written q (booked c.me.0.number d found.book) s.me c.me w.me inside (mine writes)) (mine puts)),
        ),
        (
          e,
          (
            entered.inside.made,
            [],
            ap (λ (x : Mine). x.0.log) (mine puts ∙ ap (unlatched q (d ∷ [])) (mine writes)) ∙ ap (λ (log : List StepRecord). log ++ e ∷ []) (ap (λ (x : Mine). x.0.log) entered.inside.now),
          ),
          record {
            kind = refl;
            did = refl;
            word = ap latch_word has.at;
            freed = ap (λ (x : Mine). x.0.number) entered.inside.now;
            latch = latch;
            held = entered.holds.recorded;
            beside = joins s.me.0.number entered.told;
            first = (and_parts _ _ entered.told).1;
          },
        ),
      )
