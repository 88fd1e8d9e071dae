pub mod Forms
pub mod FactorLists
pub mod ListOf
