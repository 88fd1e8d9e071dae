pub mod Tree
pub mod Token
pub mod Grammar
pub mod Bounds
pub mod Several
pub mod Tokens
pub mod Reading
