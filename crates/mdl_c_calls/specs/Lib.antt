pub mod ContextCodes
pub mod Exports
pub mod Listings
pub mod Managers
pub mod Transactions
