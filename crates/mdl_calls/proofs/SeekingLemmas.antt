-- Searches for deadlocks, one after another: which calls they make, and that they fail once one of them found no memory.
use Rattle.std.proofs.Common.{◌==◌, ℕ, zero, suc, refl}
use Rattle.mdl_calls.proofs.Common.{Answer, Call, EachCall, IsFaithful, Program, Search, Victim_is}
use Rattle.mdl_calls.proofs.FaithfulLemmas.{either}
use Rattle.mdl_calls.specs.Searches.{SearchEnd, IsStarvedSearch, after_search, seeking}

module _ (P : Call → Type 0) (who : ℕ) (may : P (Search who)) where
  calls_after : (more : Program SearchEnd) (answer : Answer) → EachCall P more → EachCall P (after_search who more answer)
  calls_after more (Victim_is victim) each = either (EachCall P) (victim == who) _ more tt each
  calls_after more _ each = tt

  -- they are searches of the session
  pub calls_seeking : (n : ℕ) → EachCall P (seeking n who)
  unfolding seeking
  calls_seeking zero = tt
  calls_seeking (suc n) = (may, λ answer. calls_after (seeking n who) answer (calls_seeking n))

faithful_after : (who : ℕ) (more : Program SearchEnd) (answer : Answer) → IsFaithful IsStarvedSearch more → IsFaithful IsStarvedSearch (after_search who more answer)
faithful_after who more (Victim_is victim) made = either (IsFaithful IsStarvedSearch) (victim == who) _ more tt made
faithful_after who more _ made = tt

-- they fail for want of memory once one of them found none
pub faithful_seeking : (n who : ℕ) → IsFaithful IsStarvedSearch (seeking n who)
unfolding seeking
faithful_seeking zero who = tt
faithful_seeking (suc n) who = (λ takes. refl, λ answer. faithful_after who (seeking n who) answer (faithful_seeking n who))
