pub mod Fields
pub mod OneProof
pub mod TermOf
pub mod Points
pub mod Runs
pub mod Cancelled
pub mod Cursors
pub mod ValueBounds
