-- The words of this crate for those above it, from one place.
pub use Rattle.mdl_key.specs.BitMaps.{bit_map, has_bit}
pub use Rattle.mdl_key.specs.Classes.{IsAtLeast, class_of, is_at_least, is_obtrusive, weight_of}
pub use Rattle.mdl_key.specs.Keys.{KeyName, global_key, key_eq, name_fault, namespace_rank}
pub use Rattle.mdl_key.specs.Limits.{longest_name, most_places, most_sessions}
pub use Rattle.mdl_key.specs.Matrices.{Clashes, WaitsBehind, clashes, granted_conflicts, waiting_conflicts, waits_behind}
pub use Rattle.mdl_key.specs.Modes.{all_modes, is_mode_of, kind_of, mode_name, mode_rank, same_mode}
pub use Rattle.mdl_key.specs.Refusals.{Refuses}
