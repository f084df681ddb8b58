-- What is said of locks that are taken for upgraded, since a row shows the mode that a lock had at first. The wording is this project's own.
use Rattle.std.specs.Prelude.{ℕ, zero, suc, ◌-◌, List, [], ◌∷◌, ◌++◌, codes, flat_map, length, take}
use Rattle.std.specs.Fmt.{decimal}
use Rattle.mdl_view.specs.declared.upgrade.Upgrade.{Upgrade}
use Rattle.mdl_view.specs.Modes.{lock_mode_name}
use Rattle.mdl_view_text.specs.Layouts.{line_with}
use Rattle.mdl_view_text.specs.Names.{NamesView, lock_name, session_text}
use Rattle.mdl_view_text.specs.Why.{and_more, mode_of, most_lines}

-- the line for a lock: who holds it, in which mode it is taken to be held by now, and the mode in its row
abbrev pub upgrade_start : NamesView → Upgrade → List ℕ
upgrade_start names upgrade = codes "   " ++ session_text names upgrade.ticket.session ++ codes " has " ++ mode_of upgrade.now

abbrev pub upgrade_end : Upgrade → List ℕ
upgrade_end upgrade = codes " by now, not " ++ lock_mode_name upgrade.ticket.mode

abbrev pub upgrade_line : NamesView → Upgrade → List ℕ
upgrade_line names upgrade = line_with (upgrade_start names upgrade) (lock_name names upgrade.lock) (upgrade_end upgrade)

-- all of them, under an answer
abbrev pub upgrades_head : ℕ → List ℕ
upgrades_head zero = []
upgrades_head (suc count) = codes "Inferred, because rows show the mode that a lock was taken with, and no upgrade:" ++ 10 ∷ []

abbrev pub upgrades_text : NamesView → List Upgrade → List ℕ
upgrades_text names upgrades =
    upgrades_head (length upgrades) ++ flat_map (upgrade_line names) (take most_lines upgrades) ++ and_more (length upgrades - most_lines)

-- how many there are, in a graph
abbrev pub upgrades_comment : ℕ → List ℕ
upgrades_comment zero = []
upgrades_comment (suc count) = codes "// Rows show no upgrades. Locks taken for upgraded: " ++ decimal (suc count) ++ 10 ∷ []
