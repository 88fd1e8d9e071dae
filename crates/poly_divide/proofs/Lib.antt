pub mod Contents
mod FormMeanings
pub mod CommonFactors
mod KnownForms
mod KnownDivisions
