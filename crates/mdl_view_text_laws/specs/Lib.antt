pub mod JsonTexts
pub mod Sizes
pub mod AnswerValues
pub mod JsonLaws
