pub mod Powers
pub mod Letters
pub mod Telling
pub mod Bounds
pub mod Placing
pub mod Levels
mod KnownPolynomials
