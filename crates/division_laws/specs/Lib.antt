pub mod Polynomials
pub mod Divisors
pub mod Division
