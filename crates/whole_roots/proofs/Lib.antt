mod Clamping
mod Words
mod SignLemmas
mod Monotone
mod AllOf
mod Values
mod Bounds
mod DifferenceLaws
mod DifferenceBounds
mod Faults
mod RootBounds
mod FormPowers
mod Coprime
mod FactorLists
pub mod FactorRoots
mod FactorLeads
mod FactorSteps
mod NextParts
pub mod RootFactors
mod FormParts
mod FormLengths
mod Stretching
mod KnownRoots
mod KnownFactors
