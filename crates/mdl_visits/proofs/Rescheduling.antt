-- Waits are granted, and the latch given back.
use Rattle.std.proofs.Common.{◌≡◌, ℕ, nat_lt, length, arith, true, false, List, [], ◌∷◌, ◌++◌, refl, sym, ap, ◌∙◌, inl, inr, append_assoc, append-nil, ◌⊎◌, lt-ltb}
use Rattle.mdl_visits.proofs.FirstLemmas.{Alter, BookView, Deed, ForgetsNobody, Gain, GrantsWaits, HasRescheduled, Holds, IsInside, IsLowered, IsStepOf, LatchRecord, Lose, LowerFlags, MakesMoreSteps, Mine, PutLatch, ReschedulesAndLeaves, Settlement, StaysOn, StepRecord, TableId, Ticket, VisitsAndReschedules, all_booked, all_but, all_done, elsewhere, elsewhere-settled, goes_none, goes_staying, latch_word, leaves_after, lock_word, none_then, rest, served, step_after, step_before}
use Rattle.mdl_visits.proofs.Way.{granted_within, looked_within, stays_of}

-- ---- of what went before

module _ (id : TableId) (place : ℕ) (a b c : Mine) (stays : StaysOn a b) where
  more : MakesMoreSteps a b
  more = goes_staying a b stays

  nobody_left_after : (latch : LatchRecord) → (latch.book.waiting ≡ []) ⊎ ForgetsNobody id place latch b c → (latch.book.waiting ≡ []) ⊎ ForgetsNobody id place latch a c
  nobody_left_after latch (inl none) = inl none
  nobody_left_after latch (inr looked) = inr (looked_within b c a c (step_after a b c more) id place latch latch.book.waiting looked)

  -- where nothing of waits changed before, waits were granted from there on
  pub rescheduled_after : b.0.settles ≡ a.0.settles → b.0.told ≡ a.0.told → b.0.number ≡ a.0.number → b.0.asks ≡ a.0.asks → HasRescheduled id place b c → HasRescheduled id place a c
  rescheduled_after settles told number asks way =
      let s = way.served in
      let m = s.2 in
      record {
        grants = way.grants;
        settles = way.settles ∙ ap (λ (xs : List Settlement). xs ++ way.grants) settles;
        granted = granted_within id place a b a b c c more more (goes_none c) way.grants way.granted;
        served = (s.0, leaves_after a b c stays s.0 s.1, record { kind = m.kind; did = m.did; word = m.word; freed = m.freed ∙ number; latch = m.latch; held = m.held; served = nobody_left_after m.latch m.served });
        stays = λ state e. way.stays state (told ∙ e);
        unasked = λ none. way.unasked (asks ∙ none) ∙ told;
      }

-- ---- nobody waits

module _ (id : TableId) (place : ℕ) (h : LatchRecord) (m c : Mine) (has : Holds place h h.book m) (nobody : h.book.waiting ≡ []) (put : c ≡ served place m) where
  abbrev puts : StepRecord
  puts = record { kind = PutLatch; deeds = []; word = latch_word place; found = m.0.number; held = m.0.latches; directory = m.0.directory }

  pub leaves_none : ReschedulesAndLeaves id place [] m c
  leaves_none = record {
    told = m.0.told;
    settles = m.0.settles;
    made = puts ∷ [];
    now = put;
    did = refl;
    way = record {
      grants = [];
      settles = ap (λ (x : Mine). x.0.settles) put ∙ sym (append-nil m.0.settles);
      granted = tt;
      served = (
        puts,
        ([], ap (λ (x : Mine). x.0.log) put ∙ ap (λ (log : List StepRecord). log ++ puts ∷ []) (sym (append-nil m.0.log)), tt),
        record { kind = refl; did = refl; word = refl; freed = refl; latch = h; held = has.recorded; served = inl nobody },
      );
      stays = λ state e. ap (λ (x : Mine). x.0.told) put ∙ e;
      unasked = λ none. ap (λ (x : Mine). x.0.told) put;
    };
  }

-- ---- somebody does: waits were granted, and the latch was given back

module _ (id : TableId) (place : ℕ) (g : LatchRecord) (m b c : Mine) (way : GrantsWaits id place m m b) (has : Holds place g g.book b) (none : ForgetsNobody id place g m b)
    (put : c ≡ served place b) where
  abbrev frees : StepRecord
  frees = record { kind = PutLatch; deeds = []; word = latch_word place; found = b.0.number; held = b.0.latches; directory = b.0.directory }

  b_c : MakesMoreSteps b c
  b_c = (frees ∷ [], ap (λ (x : Mine). x.0.log) put)

  m_b : StaysOn m b
  m_b = stays_of id place m m b way

  abbrev last : StepRecord
  last = record { kind = PutLatch; deeds = []; word = latch_word place; found = m.0.number; held = way.latches; directory = m.0.directory }

  pub leaves_rescheduled : ReschedulesAndLeaves id place [] m c
  leaves_rescheduled = record {
    told = way.told;
    settles = m.0.settles ++ way.grants;
    made = way.made ++ last ∷ [];
    did = none_then way.made (last ∷ []) [] way.did refl;
    now = put ∙ ap (served place) way.now
        ∙ (λ i. (record m.0 { latches = way.others i; told = way.told; settles = m.0.settles ++ way.grants; owes = all_but place m.0.owes; log = append_assoc m.0.log way.made (last ∷ []) i }, rest m.1));
    way = record {
      grants = way.grants;
      settles = ap (λ (x : Mine). x.0.settles) put ∙ ap (λ (x : Mine). x.0.settles) way.now;
      granted = granted_within id place m m m m b c (goes_none m) (goes_none m) b_c way.grants way.granted;
      served = (
        frees,
        leaves_after m b c m_b frees ([], ap (λ (x : Mine). x.0.log) put ∙ ap (λ (log : List StepRecord). log ++ frees ∷ []) (sym (append-nil b.0.log)), tt),
        record {
          kind = refl;
          did = refl;
          word = refl;
          freed = ap (λ (x : Mine). x.0.number) way.now;
          latch = g;
          held = has.recorded;
          served = inr (looked_within m b m c (step_before m b c b_c) id place g g.book.waiting none);
        },
      );
      stays = λ state e. ap (λ (x : Mine). x.0.told) put ∙ ap (λ (x : Mine). x.0.told) way.now ∙ way.stays state e;
      unasked = λ none. ap (λ (x : Mine). x.0.told) put ∙ ap (λ (x : Mine). x.0.told) way.now ∙ way.unasked none;
    };
  }

-- ---- flags were lowered before

module _ (id : TableId) (place : ℕ) (ds : List Deed) (m b c : Mine) (low : IsLowered place ds m b) (left : ReschedulesAndLeaves id place [] b c) where
  abbrev lowers : StepRecord
  lowers = record { kind = LowerFlags low.2 low.3; deeds = ds; word = lock_word place; found = low.0; held = m.0.latches; directory = m.0.directory }

  m_low : StaysOn m b
  m_low = (lowers ∷ [], ap (λ (x : Mine). x.0.log) low.4, ((refl, refl), tt))

  pub leaves_lowered : ReschedulesAndLeaves id place ds m c
  leaves_lowered = record {
    told = left.told;
    settles = left.settles;
    made = lowers ∷ left.made;
    now = left.now
        ∙ ap (λ (x : Mine). (record (all_done place [] x.0) { latches = elsewhere place x; told = left.told; settles = left.settles; owes = all_but place x.0.owes; log = x.0.log ++ left.made }, rest x.1)) low.4
        ∙ (λ i. (
          record (all_done place ds m.0) {
            latches = elsewhere-settled place ds low.0 low.2 low.3 low.1 m i;
            told = left.told;
            settles = left.settles;
            owes = all_but place m.0.owes;
            log = append_assoc m.0.log (lowers ∷ []) left.made i;
          },
          rest m.1,
        ));
    did = ap (λ (all : List Deed). ds ++ all) left.did ∙ append-nil ds;
    way = rescheduled_after id place m b c m_low (ap (λ (x : Mine). x.0.settles) low.4) (ap (λ (x : Mine). x.0.told) low.4) (ap (λ (x : Mine). x.0.number) low.4) (ap (λ (x : Mine). x.0.asks) low.4) left.way;
  }

  pub step_lowered : (e : StepRecord) × IsStepOf m c e × ((e.word ≡ lock_word place) × (e.held ≡ m.0.latches) × (e.deeds ≡ ds))
  step_lowered = (
    lowers,
    step_before m b c (left.made, ap (λ (x : Mine). x.0.log) left.now) lowers ([], [], ap (λ (x : Mine). x.0.log) low.4 ∙ ap (λ (log : List StepRecord). log ++ lowers ∷ []) (sym (append-nil m.0.log))),
    (refl, refl, refl),
  )

-- deeds are done to granted tickets alone
pub waiting_same : (session : ℕ) (ds : List Deed) (book : BookView) → (all_booked session ds book).waiting ≡ book.waiting
waiting_same session [] book = refl
waiting_same session (Gain number mode ∷ ds) book = waiting_same session ds _
waiting_same session (Alter number mode ∷ ds) book = waiting_same session ds _
waiting_same session (Lose number ∷ ds) book = waiting_same session ds _

-- ---- of a session that came to the place before

pub visits_and_reschedules : (id : TableId) (place : ℕ) (ds : List Deed) (m a c : Mine) → IsInside place m a → StaysOn m a → ReschedulesAndLeaves id place ds a c → VisitsAndReschedules id place ds m c
visits_and_reschedules id place ds m a c inside stays left = record {
  told = left.told;
  settles = left.settles;
  made = inside.made ++ left.made;
  now = left.now
      ∙ ap (λ (x : Mine). (record (all_done place ds x.0) { latches = elsewhere place x; told = left.told; settles = left.settles; owes = all_but place x.0.owes; log = x.0.log ++ left.made }, rest x.1)) inside.now
      ∙ (λ i. (record (all_done place ds m.0) { latches = inside.others i; told = left.told; settles = left.settles; owes = all_but place m.0.owes; log = append_assoc m.0.log inside.made left.made i }, m.1));
  did = none_then inside.made left.made ds inside.did left.did;
  way = rescheduled_after id place m a c stays (ap (λ (x : Mine). x.0.settles) inside.now) (ap (λ (x : Mine). x.0.told) inside.now)
      (ap (λ (x : Mine). x.0.number) inside.now) (ap (λ (x : Mine). x.0.asks) inside.now) left.way;
}

-- a list with no element
pub nobody_waits : (ts : List Ticket) → nat_lt 0 (length ts) ≡ false → ts ≡ []
nobody_waits [] e = refl
nobody_waits (t ∷ ts) e = absurd (let some : nat_lt 0 (length (t ∷ ts)) ≡ true = lt-ltb 0 (length (t ∷ ts)) (omega arith) in cc)
