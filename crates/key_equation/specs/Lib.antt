pub mod Cancelling
pub mod Polynomials
pub mod Reckoning
pub mod Answers
pub mod Reduced
