-- The code's own functions on values, and how the grammar's states look in the code. No public clause names them.
pub mod Literals
pub mod Steps
pub mod Image
pub mod BoundSteps
pub mod SeveralSteps
pub mod SeveralImage
pub mod Fronts
pub mod Progress
