pub mod Rows
pub mod Kernels
pub mod Pivots
pub mod Reduction
pub mod RowSteps
pub mod Elimination
pub mod BackSubstitution
pub mod Answers
