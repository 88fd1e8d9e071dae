pub mod Letters
pub mod LetterLaws
pub mod Coefficients
