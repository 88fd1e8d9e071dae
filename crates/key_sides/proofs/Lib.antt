pub mod RingMaps
pub mod Lifts
pub mod FormParts
pub mod Multiplied
pub mod ListLifts
pub mod ListTimes
pub mod TopPasses
pub mod SideTimes
pub mod SideLists
pub mod CappedDegrees
pub mod SumBounds
pub mod PairSides
pub mod SideFaults
mod KnownSides
