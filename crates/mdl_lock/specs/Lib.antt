pub mod Answering
pub mod Answers
pub mod Locks
pub mod MatrixText
pub mod Output
pub mod Scripts
