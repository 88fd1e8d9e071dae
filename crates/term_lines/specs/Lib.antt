pub mod Fields
pub mod Words
pub mod TermTexts
pub mod FieldLaws
pub mod TermLaws
pub mod Views
