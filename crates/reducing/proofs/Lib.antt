mod Divisors
mod DividedInPlace
mod WholeRows
mod Polynomials
mod LeastEntries
pub mod RowDivisions
mod RowQuotients
mod ContentQuotients
mod WithoutFactor
mod WithoutFactors
mod RowContents
mod ReducedRows
mod Leads
mod Cores
mod PlainParts
mod OverContents
mod RowsInBounds
mod KnownRows
mod KnownBounds
mod KnownForms
mod KnownReductions
mod KnownSplits
pub mod CommonForms
pub mod CommonNumbers
pub mod ZeroRows
pub mod Constants
pub mod ReducedVectors
pub mod WholeVectors
pub mod LeftRows
mod Cofactors
mod FormsBeside
pub mod OneRowLeft
