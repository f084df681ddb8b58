-- What a cache keeps was met.
use Rattle.mdl_calls.proofs.Common.{AreMet, Kept, List, VersionedDefinition, [], arith, ℕ}

-- an empty one keeps nothing
pub none-met : (met : ℕ → VersionedDefinition → Type 0) → AreMet met []
none-met met one (k, inside, here) = absurd (omega (arith, inside))

-- what was met stays met
pub still-met : (before after : ℕ → VersionedDefinition → Type 0) (kept : List Kept) → ((place : ℕ) (standing : VersionedDefinition) → before place standing → after place standing)
    → AreMet before kept → AreMet after kept
still-met before after kept stays met one among = stays _ _ (met one among)
