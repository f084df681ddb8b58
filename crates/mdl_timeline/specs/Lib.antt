pub mod Gains
pub mod Moments
pub mod Statements
pub mod TimelineLaws
