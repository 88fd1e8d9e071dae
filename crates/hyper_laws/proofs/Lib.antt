pub mod Sums
pub mod Tops
pub mod TopDifferences
pub mod TopValues
pub mod Independent
pub mod Values
pub mod Equations
pub mod CaseValues
pub mod Solving
pub mod BinomialSums
pub mod Differences
pub mod Leads
pub mod Falling
pub mod Indicial
pub mod BoundedDegrees
pub mod PolynomialLists
pub mod ShiftedParts
pub mod Powers
pub mod Rows
pub mod Stairs
pub mod Complete
pub mod Signs
pub mod Barren
pub mod LeadRoots
pub mod SameQuotients
pub mod CommonDivisors
pub mod Primitive
pub mod Mixtures
pub mod MixturesAbove
pub mod OneReduced
pub mod FactorValues
mod KnownCases
mod KnownSolutions
mod KnownLists
