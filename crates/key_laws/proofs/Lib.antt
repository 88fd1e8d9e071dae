pub mod Differences
pub mod LinearForms
pub mod Polynomials
pub mod GreatestDegrees
pub mod Candidates
pub mod DegreeBound
pub mod Rows
pub mod AppendedRows
pub mod Columns
pub mod Kernels
pub mod Answers
pub mod Poles
mod KnownEquations
pub mod OneBound
pub mod FindingBounds
pub mod OneValue
pub mod CommonDivisors
pub mod Degrees
pub mod NegatedVectors
pub mod ValuesOfCode
pub mod ListValues
pub mod PolynomialValues
pub mod EvaluatedKernels
mod KnownValues
pub mod CertificatePoints
mod KnownCertificates
