-- Steps within a visit, and a whole visit, put together of their parts.
use Rattle.std.proofs.Common.{◌≡◌, ℕ, Bool, true, false, List, [], ◌∷◌, ◌++◌, refl, sym, ap, ◌∙◌, subst, append_assoc, append-nil, Option}
use Rattle.mdl_visits.proofs.Common.{AllQuiet, BookView, Deed, Each, IsLowered, IsQuiet, IsVisit, IsWithinVisit, Keys, LatchRecord, LowerFlags, Mine, PutLatch, RaiseFlags, StaysHere, StaysThere, StaysWithin, StepKind, StepRecord, TakeLatch, and_made, kind_raises_flags, latch_word, latched, lock_word, raises_obtrusive, served, unlatched, written}
use Rattle.mdl_visits.proofs.Steps.{each_append, each_map}

-- ---- one step

-- a step that raises no flag needs no leave
pub plain : (may : Bool) → false ≡ true → may ≡ true
plain may never = absurd (cc)

no_flag : (k : StepKind) → kind_raises_flags k ≡ false → raises_obtrusive k ≡ false
no_flag k none = (elim k as (λ k. kind_raises_flags k ≡ false → raises_obtrusive k ≡ false) [
  | RaiseFlags slow obtrusive ↦ λ raises. (let never : true ≡ false = raises in absurd (cc))
  | _ ↦ λ raises. refl
]) none

-- a step at which the session stayed is within a visit
stays_within : (may : Bool) (directory : Option Keys) (e : StepRecord) → StaysHere directory e → IsWithinVisit may directory e
stays_within may directory e so = (so.0.0, (λ raises. plain may (sym (no_flag e.kind so.0.1) ∙ raises)), so.1)

each_both : {X : Type 0} (P Q R : X → Type 0) → ((x : X) → P x → Q x → R x) → (xs : List X) → Each P xs → Each Q xs → Each R xs
each_both P Q R so [] all more = tt
each_both P Q R so (x ∷ xs) all more = (so x all.0 more.0, each_both P Q R so xs all.1 more.1)

pub here_each : (directory : Option Keys) (made : List StepRecord) → AllQuiet directory made → Each StaysThere made → Each (StaysHere directory) made
here_each directory made quiet stay = each_both (IsQuiet directory) StaysThere (StaysHere directory) (λ e is so. (so, is.0)) made quiet stay

-- ---- some

module _ (may : Bool) (m m′ : Mine) where
  -- what is in hand may be another book
  pub within_same : m′.0.log ≡ m.0.log → m′.0.directory ≡ m.0.directory → StaysWithin may m m′
  within_same log same = ([], log ∙ sym (append-nil m.0.log), tt, same)

  pub within_written : (place : ℕ) (book : BookView) → m′ ≡ written place book m → StaysWithin may m m′
  within_written place book is = within_same (ap (λ (x : Mine). x.0.log) is) (ap (λ (x : Mine). x.0.directory) is)

  pub within_one : (e : StepRecord) → m′.0.log ≡ m.0.log ++ e ∷ [] → m′.0.directory ≡ m.0.directory → IsWithinVisit may m.0.directory e → StaysWithin may m m′
  within_one e log same is = (e ∷ [], log, (is, tt), same)

  pub within_here : (made : List StepRecord) → m′.0.log ≡ m.0.log ++ made → m′.0.directory ≡ m.0.directory → Each (StaysHere m.0.directory) made → StaysWithin may m m′
  within_here made log same all = (made, log, each_map (StaysHere m.0.directory) (IsWithinVisit may m.0.directory) (stays_within may m.0.directory) made all, same)

  -- the latch of a place was taken
  pub within_taken : (place : ℕ) (h : LatchRecord) (made : List StepRecord) → m′ ≡ latched place h (and_made made m) → AllQuiet m.0.directory made → Each StaysThere made
      → StaysWithin may m m′
  within_taken place h made taken quiet stay =
      let took : StepRecord = record { kind = TakeLatch; deeds = []; word = latch_word place; found = 0; held = h ∷ m.0.latches; directory = m.0.directory } in
      within_here (made ++ took ∷ []) (ap (λ (x : Mine). x.0.log) taken ∙ append_assoc m.0.log made (took ∷ [])) (ap (λ (x : Mine). x.0.directory) taken)
      (each_append (StaysHere m.0.directory) made (took ∷ []) (here_each m.0.directory made quiet stay) (((refl, refl), refl), tt))

  -- flags were lowered
  pub within_lowered : (place : ℕ) (ds : List Deed) → IsLowered place ds m m′ → StaysWithin may m m′
  within_lowered place ds low =
      let lowers : StepRecord = record { kind = LowerFlags low.2 low.3; deeds = ds; word = lock_word place; found = low.0; held = m.0.latches; directory = m.0.directory } in
      within_one lowers (ap (λ (x : Mine). x.0.log) low.4) (ap (λ (x : Mine). x.0.directory) low.4) (refl, plain may, refl)

  -- who raises no flag OBTRUSIVE may
  pub within_any : StaysWithin false m m′ → StaysWithin may m m′
  within_any steps = (
    steps.0,
    steps.1,
    each_map (IsWithinVisit false m.0.directory) (IsWithinVisit may m.0.directory) (λ e so. (so.0, (λ raises. plain may (so.1 raises)), so.2)) steps.0 steps.2,
    steps.3,
  )

  pub visit_any : (place : ℕ) → IsVisit place false m m′ → IsVisit place may m m′
  visit_any place visit = record {
    last = visit.last;
    before = visit.before;
    made = visit.made;
    within = each_map (IsWithinVisit false m.0.directory) (IsWithinVisit may m.0.directory) (λ e so. (so.0, (λ raises. plain may (so.1 raises)), so.2)) visit.before visit.within;
    kind = visit.kind;
    word = visit.word;
    alone = visit.alone;
  }

  -- the latch was given back
  pub visit_by : (place : ℕ) (e : StepRecord) → m′.0.log ≡ m.0.log ++ e ∷ [] → e.kind ≡ PutLatch → e.word ≡ latch_word place → e.directory ≡ m.0.directory → IsVisit place may m m′
  visit_by place e log kind word alone = record {
    last = e;
    before = [];
    made = log ∙ ap (λ (log : List StepRecord). log ++ e ∷ []) (sym (append-nil m.0.log));
    within = tt;
    kind = kind;
    word = word;
    alone = alone;
  }

  pub visit_put : (place : ℕ) (ds : List Deed) → m′ ≡ unlatched place ds m → IsVisit place may m m′
  visit_put place ds put =
      let puts : StepRecord = record { kind = PutLatch; deeds = ds; word = latch_word place; found = m.0.number; held = m.0.latches; directory = m.0.directory } in
      visit_by place puts (ap (λ (x : Mine). x.0.log) put) refl refl refl

  pub visit_served : (place : ℕ) → m′ ≡ served place m → IsVisit place may m m′
  visit_served place put =
      let puts : StepRecord = record { kind = PutLatch; deeds = []; word = latch_word place; found = m.0.number; held = m.0.latches; directory = m.0.directory } in
      visit_by place puts (ap (λ (x : Mine). x.0.log) put) refl refl refl

-- ---- one after another

module _ (may : Bool) (a b c : Mine) (first : StaysWithin may a b) where
  pub within_then : StaysWithin may b c → StaysWithin may a c
  within_then more = (
    first.0 ++ more.0,
    more.1 ∙ ap (λ (log : List StepRecord). log ++ more.0) first.1 ∙ append_assoc a.0.log first.0 more.0,
    each_append (IsWithinVisit may a.0.directory) first.0 more.0 first.2 (subst (λ (d : Option Keys). Each (IsWithinVisit may d) more.0) first.3 more.2),
    more.3 ∙ first.3,
  )

  pub visit_after : (place : ℕ) → IsVisit place may b c → IsVisit place may a c
  visit_after place visit = record {
    last = visit.last;
    before = first.0 ++ visit.before;
    made = visit.made ∙ ap (λ (log : List StepRecord). (log ++ visit.before) ++ visit.last ∷ []) first.1
        ∙ ap (λ (log : List StepRecord). log ++ visit.last ∷ []) (append_assoc a.0.log first.0 visit.before);
    within = each_append (IsWithinVisit may a.0.directory) first.0 visit.before first.2 (subst (λ (d : Option Keys). Each (IsWithinVisit may d) visit.before) first.3 visit.within);
    kind = visit.kind;
    word = visit.word;
    alone = visit.alone ∙ first.3;
  }
