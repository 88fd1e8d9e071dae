mod Identities
pub mod SmallCoefficients
pub mod ShiftedPolynomials
pub mod RightDocuments
mod KnownChecks
