-- The places from this one on are looked at, and those of the schema's tables that have a definition are listed.
use Rattle.std.proofs.Common.{◌≡◌, ◌+◌, ◌-◌, true, length, All, filter}
use Rattle.std.specs.List.{range_with_len}
use Rattle.mdl_core.specs.Words.{has_defined_table, has_key, places_in_key_order}
use Rattle.mdl_space.proofs.core_space.CoreSpace.tables_of.Given as goal

abbrev pub invariant-loop-index : goal.invariant-loop-index
invariant-loop-index l = record {
  listed : l.places.items ≡ places_in_key_order l.self (filter (has_defined_table l.schema l.self) (range_with_len (l.index + 1) (length l.self.books - l.index)));
  keys : All (λ place. has_key place l.self ≡ true) l.places.items;
}
