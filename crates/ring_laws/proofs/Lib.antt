mod KnownWholes
pub mod Quotients
pub mod DividedSums
