pub mod Prelude
pub mod Happenings
pub mod SessionJoins
pub mod SpaceLaws
