-- What the definitions of this crate cite of the library, of the crates below and of its own types, from one place.
pub use Rattle.std.proofs.Common.{List, [], arith, inl, inr, subst, sym}
pub use Rattle.std.specs.List.{list_all, list_any}
pub use Rattle.std.specs.Option.{IfSome, option_map, option_or}
pub use Rattle.std.specs.Prelude.{Bool, Err, None, Ok, Option, Result, Some, Vec, false, true, ℕ}
pub use Rattle.std.specs.declared.cmp.Ordering.TheVariants.{Less}
pub use Rattle.mdl_defs.specs.Caches.{CacheView, Kept}
pub use Rattle.mdl_defs.specs.VersionedDefinitions.{MayStand, standing_after, standing_fault}
pub use Rattle.mdl_defs.specs.declared.change.Change.{Change}
pub use Rattle.mdl_defs.specs.declared.change_error.ChangeError.{ChangeError}
pub use Rattle.mdl_defs.specs.declared.definition.Definition.{Definition}
pub use Rattle.mdl_defs.specs.declared.reading.Reading.{Reading}
pub use Rattle.mdl_defs.specs.declared.versioned_definition.VersionedDefinition.{VersionedDefinition}
pub use Rattle.mdl_key.specs.KeyLookups.{are_apart, is_known, key_known, place_known}
pub use Rattle.mdl_key.specs.Keys.{KeyName, key_cmp, table_key}
pub use Rattle.mdl_key.specs.Words.{is_mode_of, kind_of, same_mode}
pub use Rattle.mdl_key.specs.declared.known_key.KnownKey.{KnownKey}
pub use Rattle.mdl_key.specs.declared.mode.Mode.{Mode}
pub use Rattle.mdl_key.specs.declared.mode.Mode.TheVariants.{X}
pub use Rattle.mdl_key.specs.declared.namespace.Namespace.{Namespace}
pub use Rattle.mdl_key.specs.declared.namespace.Namespace.TheVariants.{Table}
pub use Rattle.mdl_system.specs.Strength.{covers, may_downgrade, may_upgrade}
pub use Rattle.mdl_calls.specs.declared.answers.Held.{Held}
pub use Rattle.mdl_calls.specs.declared.answers.Settled.{Settled}
pub use Rattle.mdl_calls.specs.declared.space_error.SpaceError.{SpaceError}
pub use Rattle.mdl_calls.specs.declared.space_error.SpaceError.TheVariants.{AlreadyWaiting, BadMode, CounterFull, Def, Full, InUse, NoPlace, NoWait, NotExclusive, NotHeld, NotUpgradable, OutOfMemory, Unsettled, VersionFull, WrongKind}
