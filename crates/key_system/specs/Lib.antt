pub mod Reckoning
pub mod Solved
pub mod Answers
