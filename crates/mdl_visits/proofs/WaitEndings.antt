-- A session ends its lost wait under the latch, and gives the latch back.
use Rattle.std.proofs.Common.{◌≡◌, ℕ, ◌+◌, ◌<◌, ◌==◌, map, cond, Bool, true, List, [], ◌∷◌, ◌++◌, length, Some, None, Result, Ok, Err, refl, sym, ap, ◌∙◌, subst, inr, append_assoc, arith, Option, OnErr, OnOk, ltb-true, lt-ltb}
use Rattle.mdl_steps.specs.declared.slot.Slot.TheVariants as slot
use Rattle.mdl_visits.proofs.FirstLemmas.{Arrives, Ask, BookError, BookView, CameTo, EndWait, EndsWait, Flagged, HasWorked, Holds, IsLost, IsStepOf, LatchRecord, MayCancel, Mine, NotHere, SeatState, StandsOnce, StaysThere, StepRecord, TableId, Ticket, any_obtrusive, by_bool, cancelling, each_append, elsewhere, ended_lost, found_before, held_at, holds_written, idle, is_ticket, lock_kind, mine, mine_without_wait, none_then, ok_or, once-without, place_there, rest, table_of, ticket_of, wait_in, wait_word, with_cancelled, without, without-miss, written}
use Rattle.mdl_visits.proofs.Losing.{any_before, no_longer}

-- ---- the book

module _ (session number : ℕ) where
  -- flags that tell of each ticket in the lists do so still
  still_flagged : (book : BookView) (slow obtrusive : Bool) → Flagged book slow obtrusive → Flagged (cancelling session number book) slow obtrusive
  still_flagged book slow obtrusive flagged = (
    λ e. (
        let shorter = no_longer session number book.waiting in
        let some = ltb-true 0 (length book.granted + length (without session number book.waiting)) e in
        let more : 0 < length book.granted + length book.waiting = omega arith in
        flagged.0 (lt-ltb 0 (length book.granted + length book.waiting) more)),
    λ e. flagged.1
        (by_bool (any_obtrusive (lock_kind book) book.granted)
        (λ granted. rw granted refl)
        (λ none. let waits = rw none at e in rw none (any_before session number _ book.waiting waits))),
  )

  -- a list without the ticket stays as it is
  none_there : (ts : List Ticket) → ticket_of session number ts ≡ None → without session number ts ≡ ts
  none_there [] e = refl
  none_there (t ∷ ts) e =
      by_bool (is_ticket session number t)
      (λ hit. let found = rw hit at e in absurd (cc))
      (λ miss. without-miss session number t ts miss ∙ ap (λ (xs : List Ticket). t ∷ xs) (none_there ts (rw miss at e)))

  -- so the book in hand is without it, whether it was there or not
  cancelled : (q : ℕ) (book : BookView) (c w : SeatState) (result : Result Ticket BookError) → c.me.1 ≡ (q, slot.Place book) ∷ rest c.me.1
      → result ≡ ok_or (ticket_of session number book.waiting) NotHere
      → OnOk result (w ≡ record c { me = written q (cancelling session number book) c.me }) → OnErr result (w ≡ c) → w ≡ record c { me = written q (cancelling session number book) c.me }
  cancelled q book c w (Ok t) carried is wrote same = wrote
  cancelled q book c w (Err e) carried is wrote same = at (ticket_of session number book.waiting) refl is
    where
      at : (o : Option Ticket) → ticket_of session number book.waiting ≡ o → ◌≡◌ {A = Result Ticket BookError} (Err e) (ok_or o NotHere) → w ≡ record c { me = written q (cancelling session number book) c.me }
      at (Some t) found told = absurd (cc)
      at None none told =
          let stays : cancelling session number book ≡ book = (λ i. record book { waiting = none_there book.waiting none i }) in
          same ∙ (λ i. record c { me = (c.me.0, carried i) }) ∙ ap (λ (b : BookView). record c { me = written q b c.me }) (sym stays)

-- ---- who waits

-- a list without one of its tickets has each session at most once still
stands_less : (session number : ℕ) (ts : List Ticket) → StandsOnce ts → StandsOnce (without session number ts)
stands_less session number ts stands = record {
  once = once-without session number ts stands.once;
  single = λ who i j t u first second.
      stands.single who i j t u (found_before session number ts stands.once who i t first) (found_before session number ts stands.once who j u second);
}

-- ---- the visit

module _ (ask : Ask) {s : SeatState} {q : ℕ} {c : SeatState} (a : Arrives ask.place s q c) where
  -- the book without the ticket
  abbrev less : BookView
  less = cancelling c.me.0.number ask.number a.latch.book

  pub withdrawn : (w : SeatState) (result : Result Ticket BookError)
      → ((book : BookView) → c.me.1 ≡ (q, slot.Place book) ∷ rest c.me.1 → result ≡ ok_or (ticket_of c.me.0.number ask.number book.waiting) NotHere)
      → ((book : BookView) → c.me.1 ≡ (q, slot.Place book) ∷ rest c.me.1 → OnOk result (w ≡ record c { me = written q (cancelling c.me.0.number ask.number book) c.me }))
      → OnErr result (w ≡ c) → w ≡ record c { me = written q less c.me }
  withdrawn w result refused wrote same =
      cancelled c.me.0.number ask.number q a.latch.book c w result a.holds.carried (refused a.latch.book a.holds.carried) (wrote a.latch.book a.holds.carried) same

  module _ (w : SeatState) (is : w ≡ record c { me = written q less c.me }) where
    pub asks_there : s.me.0.asks ≡ Some ask → w.me.0.asks ≡ Some ask
    asks_there asks = ap (λ (x : SeatState). x.me.0.asks) is ∙ ap (λ (x : Mine). x.0.asks) a.came.1.now ∙ asks

    pub told_there : (state : ℕ) → s.me.0.told ≡ Some state → w.me.0.told ≡ Some state
    told_there state told = ap (λ (x : SeatState). x.me.0.told) is ∙ ap (λ (x : Mine). x.0.told) a.came.1.now ∙ told

    pub waits_there : w.me.0.waits ≡ s.me.0.waits
    waits_there = ap (λ (x : SeatState). x.me.0.waits) is ∙ ap (λ (x : Mine). x.0.waits) a.came.1.now

    pub may_cancel : (state : ℕ) → s.me.0.asks ≡ Some ask → s.me.0.told ≡ Some state → IsLost state → MayCancel q a.latch w.me
    may_cancel state asks told lost = record {
      recorded = ap (λ (x : SeatState). held_at q x.me.0.latches) is ∙ a.holds.recorded;
      state = state;
      told = told_there state told;
      lost = lost;
      ask = ask;
      asks = asks_there asks;
      here = sym a.at;
    }

    pub holds_less : Holds q a.latch less w.me
    holds_less = subst (λ (x : SeatState). Holds q a.latch less x.me) (sym is) (holds_written q a.latch a.latch.book less c.me a.holds)

    module _ (state : ℕ) (v : SeatState) (ended : v ≡ record w { me = ended_lost w.table.slots q ask.number state w.me }) where
      -- the latch may be given back
      pub has_ended : Holds q (with_cancelled w.me.0.number ask.number a.latch) less v.me → HasWorked q [] true v
      has_ended holds =
          let same : w.me.0.number ≡ c.me.0.number = ap (λ (x : SeatState). x.me.0.number) is in
          record {
            is_place = place_there q (table_of ended ∙ table_of is) a.is_place;
            latch = with_cancelled c.me.0.number ask.number a.latch;
            done = record { holds = subst (λ (n : ℕ). Holds q (with_cancelled n ask.number a.latch) less v.me) same holds; act = inr refl; may = tt };
            flagged = still_flagged c.me.0.number ask.number a.latch.book a.latch.slow a.latch.obtrusive ((λ e. a.fresh.exact.0 ∙ e), λ e. a.fresh.exact.1 ∙ e);
            once = stands_less c.me.0.number ask.number a.latch.book.waiting (record { once = a.fresh.once; single = a.fresh.single });
            freed_is = refl;
          }

      -- the step that ended the wait is among those made so far
      pub shows_end : (e : StepRecord) × IsStepOf s.me v.me e × EndsWait s.table.slots s.me.0.number s.me.0.waits state e
      shows_end =
          let met : StepRecord = record { kind = EndWait; deeds = []; word = wait_word w.table.slots w.me.0.number; found = wait_in w.me.0.waits state; held = w.me.0.latches; directory = w.me.0.directory } in
          let slots : w.table.slots ≡ s.table.slots = ap (λ (t : TableId). t.slots) (table_of is ∙ a.came.0) in
          let who : w.me.0.number ≡ s.me.0.number = ap (λ (x : SeatState). x.me.0.number) is ∙ ap (λ (x : Mine). x.0.number) a.came.1.now in (
            met,
            (
              a.came.2.0,
              [],
              ap (λ (x : SeatState). x.me.0.log) ended ∙ ap (λ (x : SeatState). x.me.0.log ++ met ∷ []) is ∙ ap (λ (log : List StepRecord). log ++ met ∷ []) a.came.2.1,
            ),
            record {
              kind = refl;
              wait = record { word = (λ i. wait_word (slots i) (who i)); found = ap (λ (n : ℕ). wait_in n state) waits_there };
            },
          )

      -- it is as if a session without the wait had come
      pub came_ended : elsewhere q v.me ≡ elsewhere q w.me → CameTo q (record s { me = mine_without_wait s.me }) v
      came_ended apart =
          let inside = a.came.1 in
          let slots = w.table.slots in
          let e : StepRecord = record { kind = EndWait; deeds = []; word = wait_word slots s.me.0.number; found = wait_in s.me.0.waits state; held = inside.latches; directory = s.me.0.directory } in
          let met : StepRecord = record { kind = EndWait; deeds = []; word = wait_word slots w.me.0.number; found = wait_in w.me.0.waits state; held = w.me.0.latches; directory = w.me.0.directory } in
          let latches = map (λ (h : LatchRecord). cond (h.place == q) (with_cancelled s.me.0.number ask.number h) h) inside.latches in
          let whole = mine ended ∙ ap (ended_lost slots q ask.number state) (mine is ∙ ap (written q less) inside.now)
          ∙ (λ i. (record (idle s.me.0) { latches = latches; log = append_assoc s.me.0.log inside.made (e ∷ []) i }, (q, slot.Place less) ∷ s.me.1)) in (
            table_of ended ∙ table_of is ∙ a.came.0,
            record {
              latches = latches;
              made = inside.made ++ e ∷ [];
              book = less;
              now = whole;
              others = ap (elsewhere q) (sym whole) ∙ apart ∙ ap (elsewhere q) (mine is) ∙ ap (elsewhere q) inside.now ∙ inside.others;
              did = none_then inside.made (e ∷ []) [] inside.did refl;
            },
            (
              a.came.2.0 ++ met ∷ [],
              ap (λ (x : SeatState). x.me.0.log) ended ∙ ap (λ (x : SeatState). x.me.0.log ++ met ∷ []) is ∙ ap (λ (log : List StepRecord). log ++ met ∷ []) a.came.2.1
                  ∙ append_assoc s.me.0.log a.came.2.0 (met ∷ []),
              each_append StaysThere a.came.2.0 (met ∷ []) a.came.2.2 ((refl, refl), tt),
            ),
          )
