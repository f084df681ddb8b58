-- A visit to read what stands at a place.
use Rattle.std.proofs.Common.{◌≡◌, ℕ, List, [], ◌∷◌, ◌++◌, Some, ap, ◌∙◌, refl, sym, subst, append_assoc, is_some}
use Rattle.mdl_visits.proofs.FirstLemmas.{AllQuiet, Follows, IsFresh, IsInside, IsStepOf, KeyName, LatchRecord, Learns, MayStand, MeetsStanding, Mine, PutLatch, StaysQuiet, StepRecord, VersionedDefinition, WasHeld, WereHeld, and_made, held_at, knowing_read, latch_word, latched, none_then, own_found, quiet_on, quiet_one, quiet_taken, read_and_put}

-- what the holder of a fresh latch is told of what it read and noted
pub follows : {place : ℕ} {h : LatchRecord} {m : Mine} → IsFresh place h m → Follows place h.book.standing m
follows {place} {h} {m} fresh = record {
  reads = fresh.reads;
  fits = λ i k at here. subst (λ (key : KeyName). MayStand key.namespace h.book.standing) (fresh.named i k at here) fresh.stands;
  noted = fresh.noted;
  fast_noted = fresh.fast_noted;
}

-- ---- a visit to read

module _ (place : ℕ) (standing : VersionedDefinition) (m m′ m″ : Mine) (inside : IsInside place m m′) (read : m″ ≡ read_and_put place standing m′) where
  puts : StepRecord
  puts = record { kind = PutLatch; deeds = []; word = latch_word place; found = m.0.number; held = inside.latches; directory = m.0.directory }

  pub learns : Learns place standing m m″
  unfolding puts
  learns = (
    inside.made ++ puts ∷ [],
    read ∙ ap (read_and_put place standing) inside.now
        ∙ (λ i. (record (knowing_read place standing m.0) { latches = inside.others i; log = append_assoc m.0.log inside.made (puts ∷ []) i }, m.1)),
    none_then inside.made (puts ∷ []) [] inside.did refl,
  )

  pub quiet_read : (h : LatchRecord) (made : List StepRecord) → AllQuiet m.0.directory made → m′ ≡ latched place h (and_made made m) → StaysQuiet m m″
  quiet_read h made had taken =
      let put : StepRecord = record { kind = PutLatch; deeds = []; word = latch_word place; found = m′.0.number; held = m′.0.latches; directory = m′.0.directory } in
      quiet_on m m′ m″ (quiet_taken place h made m m′ had taken) (ap (λ (x : Mine). x.0.directory) taken) (quiet_one put m′ m″ (ap (λ (x : Mine). x.0.log) read) (refl, refl))

  pub meets_standing : (h : LatchRecord) (who : ℕ) → m.0.number ≡ who → IsFresh place h m → held_at place m′.0.latches ≡ Some h → standing ≡ h.book.standing
      → (e : StepRecord) × IsStepOf m m″ e × MeetsStanding place who standing e × WereHeld place who m e
  unfolding puts
  meets_standing h who mine fresh recorded stands = let held : held_at place inside.latches ≡ Some h = ap (λ (x : Mine). held_at place x.0.latches) (sym inside.now) ∙ recorded in (
    puts,
    (inside.made, [], ap (λ (x : Mine). x.0.log) (read ∙ ap (read_and_put place standing) inside.now)),
    record {
      kind = refl;
      word = refl;
      freed = mine;
      latch = h;
      held = held;
      stands = sym stands;
    },
    λ number there unwaited. subst (λ (n : ℕ). WasHeld place n number puts) mine (h, held, ap is_some (fresh.own number unwaited) ∙ own_found m.0.number place number m.0.slow there),
  )
