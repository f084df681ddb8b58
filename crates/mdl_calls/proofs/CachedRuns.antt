-- Runs of a session with a cache, and runs without it.
use Rattle.std.proofs.Common.{◌≡◌, ℕ, false, ap, refl, inl, inr}
use Rattle.mdl_calls.proofs.Common.{Answer, Ask, CacheAfter, CacheView, Call, EachCall, Give, Grow, Program, Read_kept, Runs, reads_with_cache, with_cache}

-- a program makes no call that reads with the cache
abbrev pub ReadsNone : {A : Type 0} → Program A → Type 0
ReadsNone program = EachCall (λ call. reads_with_cache call ≡ false) program

module _ {S : Type 0} (joins : S → Call → Answer → S → Type 0) (uses : S → ℕ → ℕ → Answer → CacheView → CacheView → S → Type 0) where
  -- every other call leaves the cache unchanged
  pub unread : (call : Call) (answer : Answer) (a b : S) (cache : CacheView) → reads_with_cache call ≡ false → CacheAfter uses (a, cache) call answer (b, cache)
  unread (Read_kept who id) answer a b cache none = cc
  unread _ answer a b cache none = refl

  -- a run of a program without reads is one with a cache, which it leaves unchanged
  pub run-cached : {A : Type 0} (program : Program A) (cache : CacheView) (a b : S) (reply : A) → ReadsNone program → Runs joins a program reply b
      → Runs (with_cache joins uses) (a, cache) program reply (b, cache)
  run-cached (Give x) cache a b reply none (same, here) = (same, ap (λ (s : S). (s, cache)) here)
  run-cached (Ask call next) cache a b reply none (answer, mid, step, run) =
      (answer, (mid, cache), (step, unread call answer a mid cache none.0), run-cached (next answer) cache mid b reply (none.1 answer) run)
  run-cached (Grow refused found) cache a b reply none (inl run) = inl (run-cached refused cache a b reply none.0 run)
  run-cached (Grow refused found) cache a b reply none (inr run) = inr (run-cached found cache a b reply none.1 run)

  -- a run with a cache is one without
  pub run-plain : {A : Type 0} (program : Program A) (a b : S × CacheView) (reply : A) → Runs (with_cache joins uses) a program reply b → Runs joins a.0 program reply b.0
  run-plain (Give x) a b reply (same, here) = (same, ap (λ (s : S × CacheView). s.0) here)
  run-plain (Ask call next) a b reply (answer, mid, step, run) = (answer, mid.0, step.0, run-plain (next answer) mid b reply run)
  run-plain (Grow refused found) a b reply (inl run) = inl (run-plain refused a b reply run)
  run-plain (Grow refused found) a b reply (inr run) = inr (run-plain found a b reply run)
