pub mod FractionSteps
mod KnownFractions
