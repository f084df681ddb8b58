pub mod Answers
pub mod Pages
pub mod Programs
pub mod RowAnswers
