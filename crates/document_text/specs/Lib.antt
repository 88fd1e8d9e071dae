pub mod Spelling
pub mod TermText
pub mod Document
pub mod WellFormed
