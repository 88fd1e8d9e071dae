pub mod PolynomialDocument
pub mod Printing
pub mod Readable
pub mod Reading
