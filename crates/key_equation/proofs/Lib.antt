pub mod Dividing
pub mod Cancels
pub mod OnlyZero
pub mod NormalParts
pub mod WhatIsLeft
pub mod Certified
pub mod LeftOver
pub mod LiftedEquations
pub mod SolvedOrders
pub mod OneCancelling
mod KnownCancelling
pub mod NothingCommon
