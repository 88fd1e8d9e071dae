pub mod Limits
pub mod Operations
pub mod Steps
pub mod Answers
pub mod Leads
pub mod Found
pub mod TermFaults
pub mod StepFaults
