pub mod Polynomials
pub mod Degrees
pub mod Monomials
pub mod PseudoDivision
pub mod Divisors
pub mod CommonDivisors
pub mod Primes
pub mod Shifts
pub mod ShiftedDivisors
pub mod Apart
pub mod Chains
pub mod Meant
mod KnownDivisors
