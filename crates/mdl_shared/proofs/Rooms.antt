-- The room for tickets, from one call of a list to the next.
use Rattle.std.proofs.Common.{◌≡◌, ℕ, ◌<◌, ◌≤◌, sym, subst, arith}
use Rattle.mdl_shared.specs.TicketLists.{KeepsRoom, Room}

-- what isn't touched stays
pub keeps-same : (r : Room) → KeepsRoom 0 r r
keeps-same r = (omega arith, omega arith)

pub keeps-equal : (a b : Room) → b ≡ a → KeepsRoom 0 a b
keeps-equal a b same = subst (λ (r : Room). KeepsRoom 0 a r) (sym same) (keeps-same a)

-- where the first gained none
pub keeps-before : (n : ℕ) (a b c : Room) → KeepsRoom 0 a b → KeepsRoom n b c → KeepsRoom n a c
keeps-before n a b c first second = (omega (arith, first.0, second.0), omega (arith, first.1, second.1))

-- a call that gained none kept no less
pub keeps-more : (m : ℕ) (a b : Room) → KeepsRoom 0 a b → KeepsRoom m a b
keeps-more m a b keeps = (omega (arith, keeps.0), keeps.1)

-- nor did one after which there is more
pub keeps-freed : (a b : Room) → a.spare < b.spare → a.reach ≤ b.reach → KeepsRoom 0 a b
keeps-freed a b more reach = (omega (arith, more), reach)
