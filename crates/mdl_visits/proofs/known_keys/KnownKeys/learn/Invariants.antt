-- The keys so far and those that are left are all of them, and there is room for what is left.
use Rattle.std.proofs.Common.{◌≡◌, ◌++◌, ◌≤◌, length}
use Rattle.mdl_visits.proofs.Lemmas.{AreWithin, into_iter_items, unknown}
use Rattle.mdl_visits.proofs.known_keys.KnownKeys.learn.Given as goal

abbrev pub invariant-loop-table : goal.invariant-loop-table
invariant-loop-table l = (l.self.known ++ into_iter_items l.table-iterator ≡ l.fn.self.known ++ unknown l.fn.self.known l.fn.tables.items)
    × (length (into_iter_items l.table-iterator) ≤ l.self.room)
    × AreWithin l.self.reach (into_iter_items l.table-iterator)
    × (l.self.pins ≡ l.fn.self.pins)
