pub mod Signs
pub mod Clamps
pub mod Roots
pub mod Differences
pub mod Turns
pub mod LinearFactors
pub mod FactorBounds
pub mod FactorSearch
