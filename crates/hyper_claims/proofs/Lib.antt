pub mod ClaimsHold
pub mod OneList
pub mod OneOrder
pub mod AlikeClaims
pub mod OneAnswer
mod KnownClaims
mod KnownFactors
mod Golden
mod KnownAnswer
