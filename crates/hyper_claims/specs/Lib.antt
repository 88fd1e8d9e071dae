pub mod Orders
pub mod Pairs
pub mod Roots
pub mod Claims
pub mod HyperAnswer
