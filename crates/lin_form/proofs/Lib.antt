pub mod Quotients
pub mod Lookups
pub mod ListProducts
pub mod Items
pub mod SortedLists
pub mod Iteration
