-- Whoever took a latch has it in hand until it is given back, and then holds none.
use Rattle.std.proofs.Common.{◌≡◌, ℕ, Bool, true, false, not, ◌&&◌, ◌||◌, ◌==◌, List, [], refl, sym, ap, ◌∙◌, subst, inr}
use Rattle.std.specs.List.{filter}
use Rattle.mdl_steps.specs.declared.view.LatchRecord.{LatchRecord}
use Rattle.mdl_steps.specs.Plays.{Mine, raised, noting, lowered}
use Rattle.mdl_steps.specs.SeatStates.{SeatState}
use Rattle.mdl_steps.specs.Seats.{Holds, IsPlace, elsewhere}
use Rattle.mdl_visits.proofs.Seats.{mine, place_there, table_of}
use Rattle.mdl_run_trials.proofs.shared.steps.visits.visit.Goals as goal

and_true : (b : Bool) → (b && true) ≡ b
and_true true = refl
and_true false = refl

pub lower_flags-requires-clause-lowered : goal.lower_flags-requires-clause-lowered
lower_flags-requires-clause-lowered c =
    let place = c.in_ok-latch.latch.place in
    let taken = c.in_ok-latch.ensures.taken in
    let h = taken.1.0 in
    let needs = c.needs-needs.result in
    let has = subst (λ (q : ℕ). Holds q h h.book c.take_latch.new.self.me) (sym taken.0) taken.1.2 in
    let told = c.needs-needs.ensures.told h.book has.carried in
    let same = subst (λ (m : Mine). Holds place h h.book m) (sym (mine c.needs-needs.ensures.same)) has in
    let up = c.raise_flags.ensures.keeps h h.book same in
    let noted = c.read_word-raised.ensures.keeps (raised true true h) h.book up in (
      noting c.read_word-raised.result.0 (raised true true h),
      record { holds = noted; act = inr refl; may = tt },
      (λ some. and_true needs.slow ∙ told.1 ∙ some, λ some. and_true needs.obtrusive ∙ told.0 ∙ some),
    )

pub read_word-lowered-requires-clause-held : goal.read_word-lowered-requires-clause-held
read_word-lowered-requires-clause-held c =
    let place = c.in_ok-latch.latch.place in
    let taken = c.in_ok-latch.ensures.taken in
    let h = taken.1.0 in
    let has = subst (λ (q : ℕ). Holds q h h.book c.take_latch.new.self.me) (sym taken.0) taken.1.2 in
    let same = subst (λ (m : Mine). Holds place h h.book m) (sym (mine c.needs-needs.ensures.same)) has in
    let up = c.raise_flags.ensures.keeps h h.book same in
    let noted = c.read_word-raised.ensures.keeps (raised true true h) h.book up in
    let down = c.lower_flags.ensures.keeps (noting c.read_word-raised.result.0 (raised true true h)) h.book noted in
    (lowered [] h.book c.needs-needs.result.slow c.needs-needs.result.obtrusive (noting c.read_word-raised.result.0 (raised true true h)), down.recorded)

pub put_latch-requires-clause-put : goal.put_latch-requires-clause-put
put_latch-requires-clause-put c =
    let place = c.in_ok-latch.latch.place in
    let taken = c.in_ok-latch.ensures.taken in
    let h = taken.1.0 in
    let needs = c.needs-needs.result in
    let has = subst (λ (q : ℕ). Holds q h h.book c.take_latch.new.self.me) (sym taken.0) taken.1.2 in
    let told = c.needs-needs.ensures.told h.book has.carried in
    let same = subst (λ (m : Mine). Holds place h h.book m) (sym (mine c.needs-needs.ensures.same)) has in
    let up = c.raise_flags.ensures.keeps h h.book same in
    let noted = c.read_word-raised.ensures.keeps (raised true true h) h.book up in
    let down = c.lower_flags.ensures.keeps (noting c.read_word-raised.result.0 (raised true true h)) h.book noted in
    let low = lowered [] h.book needs.slow needs.obtrusive (noting c.read_word-raised.result.0 (raised true true h)) in
    let last = c.read_word-lowered.ensures.keeps low h.book down in (
      noting c.read_word-lowered.result.0 low,
      record { holds = last; act = inr refl; may = tt },
      (and_true needs.slow ∙ told.1, and_true needs.obtrusive ∙ told.0),
      tt,
      ap (λ (b : Bool). b || false) taken.1.1.unfreed,
    )

pub read_word-lowered-requires-clause-place : goal.read_word-lowered-requires-clause-place
read_word-lowered-requires-clause-place c =
    let place = c.in_ok-latch.latch.place in
    let taken = c.in_ok-latch.ensures.taken in
    let h = taken.1.0 in
    let has = subst (λ (q : ℕ). Holds q h h.book c.take_latch.new.self.me) (sym taken.0) taken.1.2 in
    let same = subst (λ (m : Mine). Holds place h h.book m) (sym (mine c.needs-needs.ensures.same)) has in
    let up = c.raise_flags.ensures.keeps h h.book same in
    let noted = c.read_word-raised.ensures.keeps (raised true true h) h.book up in
    let before = table_of c.read_word-raised.ensures.made ∙ table_of c.raise_flags.ensures.made.1 ∙ table_of c.needs-needs.ensures.same ∙ table_of taken.1.3 in
    place_there place (table_of (c.lower_flags.ensures.made.1 h.book noted.carried) ∙ before) (subst (IsPlace c.args.seat.now.table) (sym taken.0) c.requires.place)

pub put_latch-requires-clause-place : goal.put_latch-requires-clause-place
put_latch-requires-clause-place c =
    let place = c.in_ok-latch.latch.place in
    let taken = c.in_ok-latch.ensures.taken in
    let h = taken.1.0 in
    let has = subst (λ (q : ℕ). Holds q h h.book c.take_latch.new.self.me) (sym taken.0) taken.1.2 in
    let same = subst (λ (m : Mine). Holds place h h.book m) (sym (mine c.needs-needs.ensures.same)) has in
    let up = c.raise_flags.ensures.keeps h h.book same in
    let noted = c.read_word-raised.ensures.keeps (raised true true h) h.book up in
    let before = table_of c.read_word-raised.ensures.made ∙ table_of c.raise_flags.ensures.made.1 ∙ table_of c.needs-needs.ensures.same ∙ table_of taken.1.3 in
    place_there place (table_of c.read_word-lowered.ensures.made ∙ table_of (c.lower_flags.ensures.made.1 h.book noted.carried) ∙ before) (subst (IsPlace c.args.seat.now.table) (sym taken.0) c.requires.place)

pub returns-clause-table : goal.returns-clause-table
returns-clause-table c =
    let place = c.in_ok-latch.latch.place in
    let taken = c.in_ok-latch.ensures.taken in
    let h = taken.1.0 in
    let has = subst (λ (q : ℕ). Holds q h h.book c.take_latch.new.self.me) (sym taken.0) taken.1.2 in
    let same = subst (λ (m : Mine). Holds place h h.book m) (sym (mine c.needs-needs.ensures.same)) has in
    let up = c.raise_flags.ensures.keeps h h.book same in
    let noted = c.read_word-raised.ensures.keeps (raised true true h) h.book up in
    table_of c.put_latch.ensures.made ∙ table_of c.read_word-lowered.ensures.made ∙ table_of (c.lower_flags.ensures.made.1 h.book noted.carried)
    ∙ table_of c.read_word-raised.ensures.made ∙ table_of c.raise_flags.ensures.made.1 ∙ table_of c.needs-needs.ensures.same ∙ table_of taken.1.3

pub returns-clause-idle : goal.returns-clause-idle
returns-clause-idle c =
    let here = c.in_ok-latch.latch.place in
    let place = c.args.place in
    ap (λ (s : SeatState). s.me.0.latches) c.put_latch.ensures.made
    ∙ c.read_word-lowered.ensures.apart ∙ c.lower_flags.ensures.apart ∙ c.read_word-raised.ensures.apart ∙ c.raise_flags.ensures.apart
    ∙ ap (elsewhere here) (mine c.needs-needs.ensures.same)
    ∙ ap (λ (q : ℕ). elsewhere q c.take_latch.new.self.me) c.in_ok-latch.ensures.taken.0
    ∙ c.take_latch.ensures.apart
    ∙ ap (λ (hs : List LatchRecord). filter (λ h. not (h.place == place)) hs) c.requires.idle
