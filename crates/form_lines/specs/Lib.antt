pub mod Forms
pub mod FormLaws
pub mod Matches
pub mod MatchLaws
pub mod Factors
pub mod FactorLaws
pub mod Orders
pub mod Views
