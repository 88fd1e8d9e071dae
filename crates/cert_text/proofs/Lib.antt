pub mod PolynomialText
pub mod LiftedPolynomials
pub mod PolynomialClaims
pub mod WrittenNumbers
pub mod Assembled
pub mod OneDocument
mod Prefixes
mod Signs
mod MonomialReading
mod SignedMonomials
mod CoefficientsAt
mod CoefficientReading
mod FallingMonomials
mod TrimmedCoefficients
mod Lines
mod SharedLines
mod FieldsOfText
mod ContentsReading
mod KnownReadable
mod OneOutcome
