pub mod IdentityValues
pub mod Multiples
pub mod SharedMultiples
pub mod CertifiedClaims
pub mod ShiftedLists
pub mod ShiftedOrder
pub mod OwnValues
mod KnownClaims
