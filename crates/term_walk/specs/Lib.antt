pub mod Views
pub mod OneProof
pub mod FormLimits
pub mod WalkRows
