pub mod FormWrites
pub mod FormReads
pub mod FactorSteps
pub mod PrimitiveSteps
pub mod ListSteps
mod KnownForms
