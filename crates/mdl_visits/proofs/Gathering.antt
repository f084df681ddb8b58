-- Latches are taken in turn, something is done while they are held, and they are given back. Meanwhile books are copied, and words of waits are read.
use Rattle.std.proofs.Common.{◌≡◌, ℕ, ◌+◌, ◌<◌, ◌≤◌, ◌==◌, not, List, [], ◌∷◌, ◌++◌, filter, Some, Option, refl, sym, ap, ◌∙◌, subst, inl, inr, ⊎_elim, arith, append_assoc, append-nil, eq-eqb}
use Rattle.mdl_steps.specs.declared.slot.Slot.TheVariants as slot
use Rattle.mdl_visits.proofs.Common.{AllQuiet, AtItsTable, Audited, Each, Gathers, HadLatches, HasStep, Holds, IsQuiet, IsRising, Keys, LatchRecord, MakesMoreSteps, MakesQuietSteps, MayPut, MayTakeAll, Mine, PutLatch, ReadsWaits, ReadsWaitsQuietly, SeatState, StepRecord, TableId, TakeLatch, TakesLatch, and_made, elsewhere-rising, held_at, held_at-past, latch_word, latched, rest, unlatched, with_waits_read}
use Rattle.mdl_visits.proofs.Asking.{step_within}
use Rattle.mdl_visits.proofs.Seats.{mine, table_of}
use Rattle.mdl_visits.proofs.Steps.{each_append, none_then}

-- ---- steps alone are as if words of waits had been read besides

pub no_steps : (m : Mine) → MakesQuietSteps m m
no_steps m = ([], ap (λ (log : List StepRecord). (record m.0 { log = log }, m.1)) (sym (append-nil m.0.log)), refl, tt)

abbrev pub as_reads : (s s′ : SeatState) → AtItsTable s s′ MakesQuietSteps → AtItsTable s s′ ReadsWaitsQuietly
as_reads s s′ steps = (
  steps.0,
  record {
    reads = record { made = steps.1.0; told = s.me.0.told; settles = s.me.0.settles; now = steps.1.1; did = steps.1.2; stays = λ state told. told };
    had = steps.1.3;
  },
)

pub as_steps : (m m′ : Mine) (reads : ReadsWaits m m′) → reads.told ≡ m.0.told → reads.settles ≡ m.0.settles → m′ ≡ and_made reads.made m
as_steps m m′ reads told settles = reads.now ∙ (λ i. (record m.0 { log = m.0.log ++ reads.made; told = told i; settles = settles i }, m.1))

pub quiet_steps_on : (a b c : SeatState) → AtItsTable a b MakesQuietSteps → AtItsTable b c MakesQuietSteps → AtItsTable a c MakesQuietSteps
quiet_steps_on a b c first second =
    let one = first.1 in
    let two = second.1 in (
      second.0 ∙ first.0,
      (
        one.0 ++ two.0,
        two.1 ∙ ap (and_made two.0) one.1 ∙ (λ i. (record a.me.0 { log = append_assoc a.me.0.log one.0 two.0 i }, a.me.1)),
        none_then one.0 two.0 [] one.2 two.2,
        each_append (IsQuiet a.me.0.directory) one.0 two.0 one.3 (subst (λ (o : Option Keys). AllQuiet o two.0) (ap (λ (m : Mine). m.0.directory) one.1) two.3),
      ),
    )

-- ---- the latch of a place is taken, something is done, and it is given back

each_below : (latches : List LatchRecord) (p q : ℕ) → p ≤ q → Each (λ (h : LatchRecord). h.place < p) latches → Each (λ (h : LatchRecord). h.place < q) latches
each_below [] p q up all = tt
each_below (h ∷ hs) p q up all = let below = all.0 in (omega arith, each_below hs p q up all.1)

module _ (place q : ℕ) (a b c : SeatState) (at : q ≡ place) (taken : TakesLatch place a.me b.me) (table : b.table ≡ a.table) (same : c ≡ b) where
  abbrev h : LatchRecord
  h = taken.0

  abbrev made : List StepRecord
  made = taken.3.0

  abbrev took : StepRecord
  took = record { kind = TakeLatch; deeds = []; word = latch_word place; found = 0; held = h ∷ a.me.0.latches; directory = a.me.0.directory }

  came : c.me ≡ latched place h (and_made made a.me)
  came = mine same ∙ taken.3.1

  pub holds_there : Holds q h h.book c.me
  holds_there = subst (λ (m : Mine). Holds q h h.book m) (sym (mine same)) (subst (λ (p : ℕ). Holds p h h.book b.me) (sym at) taken.2)

  pub carried_there : c.me.1 ≡ (q, slot.Place h.book) ∷ rest c.me.1
  carried_there = holds_there.carried

  pub may_take_more : (last : ℕ) → MayTakeAll place last a → place ≤ last → MayTakeAll (place + 1) last c
  may_take_more last may nearer =
      let some = may.some in record {
        some = omega arith;
        next = omega arith;
        inside = subst (λ (id : TableId). last < id.slots) (sym (table_of same ∙ table)) may.inside;
        narrow = may.narrow;
        rising = subst (IsRising (place + 1)) (sym came)
            (let here = taken.1.here in (omega arith, each_below a.me.0.latches place (place + 1) (omega arith) may.rising));
      }

  goes_before : MakesMoreSteps a.me c.me
  goes_before = (made ++ took ∷ [], ap (λ (m : Mine). m.0.log) came ∙ append_assoc a.me.0.log made (took ∷ []))

  recorded : held_at place c.me.0.latches ≡ Some h
  recorded = subst (λ (m : Mine). held_at place m.0.latches ≡ Some h) (sym (mine same)) taken.2.recorded

  -- records of lower places are found still
  still : (p : ℕ) (g : LatchRecord) → p < place → held_at p a.me.0.latches ≡ Some g → held_at p c.me.0.latches ≡ Some g
  still p g below e = ap (λ (m : Mine). held_at p m.0.latches) came ∙ held_at-past place p h a.me.0.latches taken.1.here (λ is. omega arith) ∙ e

  module _ (d : SeatState) (reads : AtItsTable c d ReadsWaitsQuietly) where
    abbrev within : List StepRecord
    within = reads.1.reads.made

    pub may_put : MayPut q [] d.me
    may_put = subst (λ (p : ℕ). MayPut p [] d.me) (sym at) (subst (MayPut place []) (sym (reads.1.reads.now ∙ ap (with_waits_read within reads.1.reads.told reads.1.reads.settles) came)) (
      h,
      record { holds = record { recorded = subst (λ (m : Mine). held_at place m.0.latches ≡ Some h) came recorded; carried = refl }; act = inr refl; may = tt },
      taken.1.exact,
      tt,
      taken.1.unfreed,
    ))

    module _ (e : SeatState) (put : e ≡ record d { me = unlatched q [] d.me }) (rising : IsRising place a.me) where
      abbrev gave : StepRecord
      gave = record { kind = PutLatch; deeds = []; word = latch_word place; found = a.me.0.number; held = h ∷ a.me.0.latches; directory = a.me.0.directory }

      abbrev all : List StepRecord
      all = made ++ (took ∷ within ++ gave ∷ [])

      joined : (((a.me.0.log ++ made) ++ took ∷ []) ++ within) ++ gave ∷ [] ≡ a.me.0.log ++ all
      joined = simp append_assoc

      left : filter (λ (x : LatchRecord). not (x.place == place)) (h ∷ a.me.0.latches) ≡ a.me.0.latches
      left = rw (eq-eqb h.place place taken.1.here) (elsewhere-rising place a.me.0.latches rising)

      now : e.me ≡ with_waits_read all reads.1.reads.told reads.1.reads.settles a.me
      now = mine put ∙ ap (λ (p : ℕ). unlatched p [] d.me) at
          ∙ ap (unlatched place []) (reads.1.reads.now ∙ ap (with_waits_read within reads.1.reads.told reads.1.reads.settles) came)
          ∙ (λ i. (record a.me.0 { latches = left i; log = joined i; told = reads.1.reads.told; settles = reads.1.reads.settles }, a.me.1))

      pub back : AtItsTable a e ReadsWaitsQuietly
      back = (
        table_of put ∙ reads.0 ∙ table_of same ∙ table,
        record {
          reads = record {
            made = all;
            told = reads.1.reads.told;
            settles = reads.1.reads.settles;
            now = now;
            did = none_then made (took ∷ within ++ gave ∷ []) [] taken.3.3 (none_then within (gave ∷ []) [] reads.1.reads.did refl);
            stays = λ state told. reads.1.reads.stays state (ap (λ (m : Mine). m.0.told) came ∙ told);
          };
          had = each_append (IsQuiet a.me.0.directory) made (took ∷ within ++ gave ∷ []) taken.3.2 (
            (refl, refl),
            each_append (IsQuiet a.me.0.directory) within (gave ∷ [])
                (subst (λ (o : Option Keys). AllQuiet o within) (ap (λ (m : Mine). m.0.directory) came) reads.1.had) ((refl, refl), tt),
          );
        },
      )

      -- where only steps were made, only steps were made
      pub back_steps : reads.1.reads.told ≡ c.me.0.told → reads.1.reads.settles ≡ c.me.0.settles → AtItsTable a e MakesQuietSteps
      unfolding back
      back_steps told settles =
          let whole = back.1 in (
            back.0,
            (
              all,
              as_steps a.me e.me whole.reads (told ∙ ap (λ (m : Mine). m.0.told) came) (settles ∙ ap (λ (m : Mine). m.0.settles) came),
              whole.reads.did,
              whole.had,
            ),
          )

      -- the step that gave the latch back shows the record of the latch
      pub gives_back : (Shows : StepRecord → Type 0) → Shows gave → HasStep a e Shows
      gives_back Shows shows = (
        gave,
        (
          made ++ (took ∷ within),
          [],
          ap (λ (m : Mine). m.0.log) now ∙ ap (λ (log : List StepRecord). a.me.0.log ++ log) (sym (append_assoc made (took ∷ within) (gave ∷ []))) ∙ sym (append_assoc a.me.0.log (made ++ (took ∷ within)) (gave ∷ [])),
        ),
        shows,
      )

      goes_after : MakesMoreSteps d.me e.me
      goes_after = (_ ∷ [], ap (λ (s : SeatState). s.me.0.log) put)

      had_all : (latches : List LatchRecord) → HadLatches latches c.me d.me → HadLatches latches a.me e.me
      had_all latches had = ⊎_elim
          (λ at_once. inr (
            took,
            (made, within ++ gave ∷ [], ap (λ (m : Mine). m.0.log) now ∙ sym (append_assoc a.me.0.log made (took ∷ within ++ gave ∷ []))),
            sym (at_once ∙ ap (λ (m : Mine). m.0.latches) came),
            refl,
          ))
          (λ later. inr (later.0, step_within a.me c.me d.me e.me later.0 goes_before later.1 goes_after, later.2, later.3 ∙ ap (λ (m : Mine). m.0.directory) came))
          had

      -- the books behind the place were gathered, and this one was met before
      pub gathers_more : (last : ℕ) (before middle more after : List Audited) (gathers : Gathers (place + 1) last middle more c.me d.me)
          → after ≡ before ++ record { place = q; book = h.book } ∷ gathers.books
          → (whole : Gathers place last before after a.me e.me) × (whole.latches ≡ gathers.latches)
      gathers_more last before middle more after gathers listed =
          let count = gathers.all in (
            record {
              latches = gathers.latches;
              had = had_all gathers.latches gathers.had;
              kept = λ p g below is. gathers.kept p g (omega arith) (still p g below is);
              books = record { place = q; book = h.book } ∷ gathers.books;
              listed = listed;
              all = omega arith;
              recorded = ((at, (h, gathers.kept place h (omega arith) recorded, refl)), gathers.recorded);
              keyed = λ k has. (taken.1.keyed k has, gathers.keyed k (ap (λ (m : Mine). m.0.directory) came ∙ has));
              stand = (taken.1.stands, gathers.stand);
            },
            refl,
          )

-- behind the last place there is nothing to gather
unfoldable pub gathers_none : (place last : ℕ) (audited : List Audited) (m m′ : Mine) → place ≡ last + 1 → Gathers place last audited audited m m′
gathers_none place last audited m m′ behind = record {
  latches = m.0.latches;
  had = inl refl;
  kept = λ q h below e. e;
  books = [];
  listed = sym (append-nil audited);
  all = omega arith;
  recorded = tt;
  keyed = λ k has. tt;
  stand = tt;
}
