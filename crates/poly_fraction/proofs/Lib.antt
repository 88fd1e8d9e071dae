pub mod TwoProducts
pub mod ProductAnswers
pub mod Denominators
pub mod Sameness
pub mod ExactQuotients
pub mod Divisors
mod KnownFractions
