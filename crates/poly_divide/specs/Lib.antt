pub mod Forms
pub mod Content
pub mod Factors
