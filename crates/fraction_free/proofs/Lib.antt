pub mod Crossing
mod RowLemmas
mod ManyRows
mod Choices
mod Columns
mod PivotColumns
mod VectorLemmas
mod Absorbing
mod BackStepAnswers
mod BackRunAnswers
mod Finish
mod BasisAnswers
pub mod KnownSteps
pub mod KnownRuns
pub mod KnownVectors
mod KnownWideRuns
