-- The laws of a lock space, by the record of its ghost members.
use Rattle.mdl_calls.specs.declared.lock_space.LockSpace.{Ghosts}
use Rattle.mdl_calls.specs.SpaceLaws.{SpaceLaws}

-- what holds of these ghost members, if they are those of a lock space
abbrev pub LawsOf : {S : Type 0} → Ghosts S → Type 0
LawsOf members =
    SpaceLaws members.speaks_for members.own members.knows members.is_settled members.numbers members.has_read members.has_met members.has_seen
    members.owes members.joins
