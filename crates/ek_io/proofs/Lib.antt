pub mod Composition
mod KnownTransfers
