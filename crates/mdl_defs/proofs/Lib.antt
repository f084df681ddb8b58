pub mod CacheLemmas
pub mod ChangeLemmas
pub mod ColumnLemmas
pub mod VersionedDefinitionLemmas
