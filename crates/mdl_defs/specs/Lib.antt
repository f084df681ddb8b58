pub mod CacheLends
pub mod Caches
pub mod Changes
pub mod Columns
pub mod Definitions
pub mod Laws
pub mod VersionedDefinitions
