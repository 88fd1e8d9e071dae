pub mod Exponents
pub mod Views
pub mod Factors
pub mod ConstantCases
