pub mod KnownSquares
pub mod PolynomialParts
pub mod PolynomialValues
pub mod PassingPolynomials
pub mod FindingPolynomials
pub mod ConstantPowers
pub mod ConstantProducts
pub mod ConstantValues
pub mod TermProducts
pub mod FieldProducts
pub mod VaryingForms
pub mod FormValues
pub mod WholeValues
pub mod WalkRows
pub mod ArgumentRows
pub mod WalkValues
pub mod CancelledValues
pub mod RowFacts
pub mod KeptRows
pub mod WalkKeeps
pub mod GatheredLists
pub mod ClassesHaveValues
pub mod ReducedFractions
pub mod LowestConstants
pub mod NonzeroPolynomials
pub mod PrimitiveDenominators
pub mod PlainClasses
mod KnownClasses
mod KnownRecurrences
mod KnownValues
mod KnownNamesOfK
