pub mod StepLaws
pub mod AnswerLaws
pub mod LargerCounterparts
pub mod Leading
pub mod FindingParts
pub mod KnownSteps
