mod OrderLists
mod AnswerSteps
pub mod OneTerm
mod KnownDocuments
