pub mod Explanations
pub mod Laws
pub mod Phrases
