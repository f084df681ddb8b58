pub mod Forms
pub mod KeyWords
pub mod Laws
pub mod Names
pub mod Reading
pub mod Scripts
pub mod Tables
pub mod Verbs
