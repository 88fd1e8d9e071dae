-- What the laws rest on that `Reducing` names: they stand in specs/, since a contract may not depend on proofs/ of its own crate.
pub mod ScaledRows
pub mod RowPowers
pub mod OneTakenOut
pub mod Multiples
pub mod OneContent
pub mod WholeMultiples
pub mod OneWholeRow
pub mod WholeReduction
pub mod FactorLists
pub mod OnePolynomialRow
pub mod PolynomialReduction
