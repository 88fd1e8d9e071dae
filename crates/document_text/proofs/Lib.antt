pub mod Numerals
pub mod Powers
pub mod Monomials
pub mod MonomialLists
pub mod MonomialBytes
pub mod Totals
pub mod Coefficients
pub mod Polynomials
pub mod Forms
pub mod Spells
pub mod Items
pub mod Factors
pub mod Terms
pub mod ClaimParts
pub mod Lines
pub mod Documents
mod KnownDocuments
mod KnownWellFormed
