pub mod Documents
pub mod WellFormed
pub mod Answers
pub mod Views
