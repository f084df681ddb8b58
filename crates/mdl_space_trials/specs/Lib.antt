pub mod base
pub mod contexts
pub mod Serving
