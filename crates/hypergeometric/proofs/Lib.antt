pub mod GreatestDivisors
pub mod FractionPowers
pub mod SortedForms
pub mod Lookups
pub mod SharedForms
pub mod LeftLists
pub mod SharedTotals
pub mod ListValues
pub mod FormPolynomials
pub mod Signs
pub mod PrimitiveForms
pub mod Shifts
pub mod FractionLaws
pub mod OnlyPrimitive
pub mod SameValues
pub mod DefinedValues
pub mod NonzeroPowers
pub mod SharedProducts
pub mod LowestTerms
pub mod ReducedFractions
pub mod Contents
pub mod OnlyLowest
pub mod PrimitiveParts
pub mod Definedness
pub mod RangeSums
pub mod PlainTerms
mod KnownTerms
mod KnownForms
