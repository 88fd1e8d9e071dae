pub mod Claims
pub mod Cancelling
pub mod KeySolutions
pub mod Orders
pub mod RightClaims
pub mod Truth
pub mod Choice
