pub mod Lifted
pub mod Powers
pub mod Places
pub mod ListPowers
pub mod Sides
