-- The victim of a deadlock, after MySQL 5.7: `Deadlock_detection_visitor::opt_change_victim_to` of sql/mdl.cc. That of equal
-- weights the greatest session number is the victim is this project's own choice.
use Rattle.std.specs.Prelude.{ℕ, Bool, ◌&&◌, ◌||◌, ◌==◌, nat_lt, nat_le, List, [], ◌∷◌, if◌then◌else◌}
use Rattle.mdl_graph.specs.declared.cycle.Member.{Member}

-- whether a member is the victim rather than another one: its request weighs less, or the same and its number isn't lower
abbrev pub falls_before : Member → Member → Bool
falls_before one other =
    nat_lt one.weight other.weight || (one.weight == other.weight && nat_le other.session one.session)

-- of these members the one that is the victim
abbrev pub weakest : Member → List Member → Member
weakest member [] = member
weakest member (next ∷ rest) = weakest (if falls_before member next then member else next) rest

-- the victim of a cycle: its member of the least weight, and of equal weights the one of the greatest number
abbrev pub victim_of : List Member → ℕ
victim_of [] = 0
victim_of (member ∷ rest) = (weakest member rest).session
