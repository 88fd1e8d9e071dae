pub mod Fractions
pub mod FractionAnswer
pub mod FractionOf
pub mod LowestTerms
