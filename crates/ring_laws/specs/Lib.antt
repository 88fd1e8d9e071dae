pub mod Meaning
pub mod Algebra
pub mod Answer
pub mod Division
pub mod Wholes
pub mod WholeLaws
pub mod WholeDomain
